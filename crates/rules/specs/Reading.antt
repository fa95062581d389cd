-- The spelling of a rule read back, byte by byte from its front, and what is wrong where it is none. Assumes nothing: these are definitions.
use Rattle.std.specs.Prelude.{◌≡◌, ℕ, zero, suc, ◌+◌, ◌*◌, ◌⊎◌, List, [], ◌∷◌, length, take, drop, Some, None, Ok, Err, Option, Result, ◌==◌, nat_le, nat_lt, slice_index}
use Rattle.std.specs.Borrow.{Bor}
use Rattle.rules.specs.Faults.{rule_fault}
use Rattle.rules.specs.Lists.{pick}
use Rattle.rules.specs.Places.{Place, from_first, from_last, nth_of}
use Rattle.rules.specs.Rules.{Part, bytes, cut, Rule, a_kind}
use Rattle.rules.specs.declared.fault.Fault.{Fault}
use Rattle.rules.specs.declared.fault.Fault.TheVariants.{PartCount, KindNumber, Tag, EndsEarly, LeftOver, Memory}
use Rattle.rules.specs.Held.{the_rule}
use Rattle.rules.specs.declared.rule.Rule as declared

-- what was read at the front of some bytes, and the bytes behind it; or what is wrong
abbrev pub Read : Type 0 → Type 0
Read A = Result (A × List ℕ) Fault

-- first one thing, then another, which may depend on it
abbrev pub and_then : {A B : Type 0} → Read A → (A → List ℕ → Read B) → Read B
and_then (Ok x) next = next x.0 x.1
and_then (Err f) next = Err f

abbrev pub read_byte : List ℕ → Read ℕ
read_byte [] = Err EndsEarly
read_byte (b ∷ rest) = Ok (b, rest)

-- two bytes as a number, the higher first
abbrev pub number : ℕ → ℕ → ℕ
number high low = 256 * high + low

-- an nth place of these kinds, if they are kinds, and a direction, which is 0 or 1
abbrev pub nth_read : (l r n back : ℕ) → List ℕ → Read Place
nth_read l r n back rest =
    pick (a_kind l) (pick (a_kind r) (pick (nat_le back 1) (Ok (nth_of l r n (back == 1), rest)) (Err (Tag back))) (Err (KindNumber r))) (Err (KindNumber l))

abbrev pub read_nth : List ℕ → Read Place
read_nth bs =
    pick (nat_lt (length bs) 6) (Err EndsEarly) (nth_read (number (slice_index bs 0) (slice_index bs 1)) (number (slice_index bs 2) (slice_index bs 3)) (slice_index bs 4) (slice_index bs 5) (drop 6 bs))

abbrev pub read_place : List ℕ → Read Place
read_place bs =
    and_then (read_byte bs) (λ tag rest.
    pick (tag == 0) (and_then (read_byte rest) (λ n end. Ok (from_first n, end)))
    (pick (tag == 1) (and_then (read_byte rest) (λ n end. Ok (from_last n, end))) (pick (tag == 2) (read_nth rest) (Err (Tag tag)))))

abbrev pub read_cut : List ℕ → Read Part
read_cut bs = and_then (read_place bs) (λ p rest. and_then (read_place rest) (λ q end. Ok (cut p q, end)))

-- a number, and so many bytes
abbrev pub read_literal : List ℕ → Read Part
read_literal bs = and_then (read_byte bs) (λ n rest. pick (nat_le n (length rest)) (Ok (bytes (take n rest), drop n rest)) (Err EndsEarly))

abbrev pub read_part : List ℕ → Read Part
read_part bs = and_then (read_byte bs) (λ tag rest. pick (tag == 0) (read_literal rest) (pick (tag == 1) (read_cut rest) (Err (Tag tag))))

-- so many parts
unfoldable pub read_parts : ℕ → List ℕ → Read Rule
read_parts zero bs = Ok ([], bs)
read_parts (suc k) bs = and_then (read_part bs) (λ p rest. and_then (read_parts k rest) (λ ps end. Ok (p ∷ ps, end)))

-- a rule, if nothing is wrong with it
abbrev pub faultless : Option Fault → Rule → Result Rule Fault
faultless None r = Ok r
faultless (Some f) r = Err f

-- a rule with nothing left behind it
abbrev pub whole : Read Rule → Result Rule Fault
whole (Ok x) = pick (length x.1 == 0) (faultless (rule_fault x.0) x.0) (Err (LeftOver (length x.1)))
whole (Err f) = Err f

-- the number of parts, and the parts
abbrev pub read_counted : List ℕ → Read Rule
read_counted bs = and_then (read_byte bs) (λ n rest. pick (nat_le n 8) (read_parts n rest) (Err (PartCount n)))

abbrev pub read_rule : List ℕ → Result Rule Fault
read_rule bs = whole (read_counted bs)

-- what a function of src/ read, by the definition's value for it
abbrev pub read_as : {A B : Type 0} → (A → B) → Result (A × Bor (List ℕ)) Fault → Read B
read_as f (Ok x) = Ok (f x.0, x.1.now)
read_as f (Err e) = Err e

-- the same, where memory may be wanting
abbrev pub ReadSo : {A B : Type 0} → (A → B) → Result (A × Bor (List ℕ)) Fault → Read B → Type 0
ReadSo f (Ok x) s = s ≡ Ok (f x.0, x.1.now)
ReadSo f (Err e) s = (e ≡ Memory) ⊎ (s ≡ Err e)

abbrev pub RuleRead : Result declared.Rule Fault → Result Rule Fault → Type 0
RuleRead (Ok r) s = s ≡ Ok (the_rule r)
RuleRead (Err e) s = (e ≡ Memory) ⊎ (s ≡ Err e)
