-- How a rule is spelled in bytes, which of two rules comes first, and the first of all. Assumes nothing: these are definitions.
use Rattle.std.specs.Prelude.{◌≡◌, ℕ, ◌/◌, ◌%◌, Bool, true, false, ◌&&◌, List, [], ◌∷◌, ◌++◌, length, ◌==◌, nat_lt}
use Rattle.std.specs.Cmp.Lexicographic.{slice_cmp}
use Rattle.std.specs.Ordering.{nat_cmp, on, then_cmp}
use Rattle.std.specs.declared.cmp.Ordering.{Ordering}
use Rattle.rules.specs.Lists.{pick, flat, earlier}
use Rattle.rules.specs.Places.{Place, from_first, from_last, nth_of}
use Rattle.rules.specs.Rules.{Part, bytes, cut, Rule, cost, a_rule}

abbrev pub flag : Bool → ℕ
flag b = pick b 1 0

-- a number below 65,536 in two bytes, the higher first
abbrev pub two : ℕ → List ℕ
two k = (k / 256) ∷ (k % 256) ∷ []

unfoldable pub place_spelled : Place → List ℕ
place_spelled (from_first n) = 0 ∷ n ∷ []
place_spelled (from_last n) = 1 ∷ n ∷ []
place_spelled (nth_of l r n back) = 2 ∷ two l ++ two r ++ n ∷ flag back ∷ []

unfoldable pub part_spelled : Part → List ℕ
part_spelled (bytes b) = 0 ∷ length b ∷ b
part_spelled (cut p q) = 1 ∷ place_spelled p ++ place_spelled q

-- the number of parts, and then the parts
abbrev pub rule_spelled : Rule → List ℕ
rule_spelled r = length r ∷ flat part_spelled r

-- the cheaper comes first; of the same cost the one whose spelling does
abbrev pub rule_before : Rule → Rule → Bool
rule_before a b = pick (nat_lt (cost a) (cost b)) true (cost a == cost b && earlier (rule_spelled a) (rule_spelled b))

-- the same order as the library has it, with what comes first as `Less`
abbrev pub rule_cmp : Rule → Rule → Ordering
rule_cmp = then_cmp (on cost nat_cmp) (on rule_spelled (slice_cmp nat_cmp))

-- r is the first of all rules there are that pass the test f: it is one, and none of them comes before it
unfoldable pub First : (Rule → Bool) → Rule → Type 0
First f r = (a_rule r ≡ true) × (f r ≡ true) × ((q : Rule) → a_rule q ≡ true → f q ≡ true → rule_before q r ≡ false)

-- of all rules there are none passes the test f
unfoldable pub None : (Rule → Bool) → Type 0
None f = (q : Rule) → a_rule q ≡ true → f q ≡ false
