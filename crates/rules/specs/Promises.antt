-- What is promised of rules, over all rules there are. Each is a statement; a function of src/promises.rt has it as its contract. Assumes nothing.
use Rattle.std.specs.Prelude.{◌≡◌, ℕ, ◌+◌, ◌<◌, ◌≤◌, Bool, true, false, ◌⊎◌, List, [], ◌∷◌, ◌++◌, length, take, drop, Ok, nat_le, nat_lt}
use Rattle.rules.specs.Lists.{every}
use Rattle.rules.specs.Places.{Place, spot}
use Rattle.rules.specs.Rules.{Part, Rule, Made, nothing, made, makes, part_of, is_made, cost, a_rule}
use Rattle.rules.specs.Order.{rule_spelled, First, None}
use Rattle.rules.specs.Examples.{Example, does, otherwise}
use Rattle.rules.specs.Reading.{read_rule}

-- there is one first rule at most
abbrev pub FirstOne : Type 0
FirstOne = (f : Rule → Bool) (r q : Rule) → First f r → First f q → r ≡ q

-- and one if there is any
abbrev pub FirstThere : Type 0
FirstThere = (f : Rule → Bool) (r : Rule) → a_rule r ≡ true → f r ≡ true → (q : Rule) × First f q

-- for any test there is a first rule, or there is none
abbrev pub FirstOrNone : Type 0
FirstOrNone = (f : Rule → Bool) → ((r : Rule) × First f r) ⊎ None f

-- no two rules are spelled alike, be they valid or not
abbrev pub SpelledOnce : Type 0
SpelledOnce = (r q : Rule) → rule_spelled r ≡ rule_spelled q → r ≡ q

-- a rule is read back from its spelling
abbrev pub SpellingRead : Type 0
SpellingRead = (r : Rule) → a_rule r ≡ true → read_rule (rule_spelled r) ≡ Ok r

-- and bytes from which a rule is read are its spelling, and it is a rule there is
abbrev pub ReadIsSpelling : Type 0
ReadIsSpelling = (bs : List ℕ) (r : Rule) → every (λ c. nat_lt c 256) bs ≡ true → read_rule bs ≡ Ok r → (rule_spelled r ≡ bs) × (a_rule r ≡ true)

unfoldable pub made_length : Made → ℕ
made_length nothing = 0
made_length (made t) = length t

-- the parts of a rule make what is wanted one after the other, so a rule can be looked for part by part
abbrev pub PartsMake : Type 0
PartsMake =
    (p : Part) (r : Rule) (t w : List ℕ) → is_made (makes (p ∷ r) t) w ≡ true →
    (is_made (part_of t p) (take (made_length (part_of t p)) w) ≡ true) × (is_made (makes r t) (drop (made_length (part_of t p)) w) ≡ true)

-- a rule costs more than without one of its parts; and if that part makes no bytes of a text, it makes the same of it
abbrev pub LessCosts : Type 0
LessCosts =
    (as₁ bs : Rule) (p : Part) →
    (cost (as₁ ++ bs) < cost (as₁ ++ p ∷ bs))
    × ((t : List ℕ) → is_made (part_of t p) [] ≡ true → makes (as₁ ++ p ∷ bs) t ≡ makes (as₁ ++ bs) t)

-- so the best rule has no part that makes no bytes in every example
abbrev pub NoIdle : Type 0
NoIdle =
    (es : List Example) (as₁ bs : Rule) (p : Part) → First (does es) (as₁ ++ p ∷ bs) →
    every (λ e. is_made (part_of e.given p) []) es ≡ false

-- one example more never makes the best rule cheaper, and if the best does it already, it stays the best
abbrev pub MoreExamples : Type 0
MoreExamples =
    (es : List Example) (e : Example) (r q : Rule) → First (does es) r → First (does (es ++ e ∷ [])) q →
    (cost r ≤ cost q) × (does (e ∷ []) r ≡ true → q ≡ r)

-- where there is no doubt, all rules that do the examples and cost at most d more make the same of the text
abbrev pub NoDoubt : Type 0
NoDoubt =
    (es : List Example) (r q : Rule) (d : ℕ) (t : List ℕ) → First (does es) r → None (otherwise es r d t) →
    a_rule q ≡ true → does es q ≡ true → cost q ≤ cost r + d → makes q t ≡ makes r t

-- places lie within the text
abbrev pub PlacesWithin : Type 0
PlacesWithin = (t : List ℕ) (p : Place) → every (λ k. nat_le k (length t)) (spot t p) ≡ true
