-- A byte that a rule makes of a text stands in the text or in one of the rule's literals; and what stands in a literal is in all that the rule makes.
use Rattle.std.proofs.Common.{◌≡◌, ℕ, ◌-◌, Bool, true, false, eqb, List, [], ◌∷◌, ◌++◌, get_or, take, drop, arith}
use Rattle.rules.specs.Lists.{or, any, flat}
use Rattle.rules.specs.Places.{spot}
use Rattle.rules.specs.Rules.{Part, bytes, cut, Rule, made, from_to, part_of, makes}
use Rattle.rules.specs.Order.{None}
use Rattle.rules.specs.Examples.{Example, does}
use Rattle.rules.proofs.Tests.{any_append, any_take, any_drop}
use Rattle.rules.proofs.WhatIsMade.{is_made_eq, with_made_pieces}

-- the byte c is in the text
abbrev pub has : ℕ → List ℕ → Bool
has c t = any (λ x. eqb x c) t

-- the bytes of a part that are there whatever the text
abbrev pub literal : Part → List ℕ
literal (bytes b) = b
literal (cut p q) = []

-- the bytes of all its literals
abbrev pub literals : Rule → List ℕ
literals r = flat literal r

has_append : (c : ℕ) (s t : List ℕ) → has c (s ++ t) ≡ or (has c s) (has c t)
has_append c s t = any_append (λ x. eqb x c) s t

has_middle : (c n k : ℕ) (t : List ℕ) → has c (take n (drop k t)) ≡ true → has c t ≡ true
has_middle c n k t h = any_drop (λ x. eqb x c) k t (any_take (λ x. eqb x c) n (drop k t) h)

from_to_has : (c : ℕ) (t ps qs w : List ℕ) → from_to t ps qs ≡ made w → has c w ≡ true → has c t ≡ true
from_to_has c t ps qs w e h =
    let m = has_middle c (get_or qs 0 0 - get_or ps 0 0) (get_or ps 0 0) t in
    grind arith

part_literal : (c : ℕ) (p : Part) (t w : List ℕ) → part_of t p ≡ made w → has c w ≡ true → has c t ≡ false → has c (literal p) ≡ true
unfolding part_of
part_literal c (bytes b) t w e h k = grind arith
part_literal c (cut p q) t w e h k = let f = from_to_has c t (spot t p) (spot t q) w e h in grind arith

-- a byte that a rule makes of a text and that is not in the text stands in a literal
pub byte_from_literal : (c : ℕ) (r : Rule) (t w : List ℕ) → makes r t ≡ made w → has c w ≡ true → has c t ≡ false → has c (literals r) ≡ true
unfolding makes
byte_from_literal c [] t w e h k = grind arith
byte_from_literal c (p ∷ r) t w e h k =
    let s = with_made_pieces (part_of t p) (makes r t) w e in
    let made_here = has_append c s.0 s.1 in
    let literal_here = has_append c (literal p) (literals r) in
    let first = part_literal c p t s.0 s.2 in
    let ih = byte_from_literal c r t s.1 s.3 in
    let whole = s.4 in
    grind arith

literal_of_part : (c : ℕ) (p : Part) (t w : List ℕ) → part_of t p ≡ made w → has c (literal p) ≡ true → has c w ≡ true
unfolding part_of
literal_of_part c (bytes b) t w e h = grind arith
literal_of_part c (cut p q) t w e h = grind arith

-- and what stands in a literal is in whatever the rule makes of any text
pub literal_is_made : (c : ℕ) (r : Rule) (t w : List ℕ) → makes r t ≡ made w → has c (literals r) ≡ true → has c w ≡ true
unfolding makes
literal_is_made c [] t w e h = grind arith
literal_is_made c (p ∷ r) t w e h =
    let s = with_made_pieces (part_of t p) (makes r t) w e in
    let made_here = has_append c s.0 s.1 in
    let literal_here = has_append c (literal p) (literals r) in
    let first = literal_of_part c p t s.0 s.2 in
    let ih = literal_is_made c r t s.1 s.3 in
    let whole = s.4 in
    grind arith

-- so no rule does two examples where the first wants a byte that is not in its text and that the second does not want
pub no_rule_does : (c : ℕ) (d e : Example) → has c d.wanted ≡ true → has c d.given ≡ false → has c e.wanted ≡ false → None (does (d ∷ e ∷ []))
unfolding None
no_rule_does c d e h k l r _ =
    let a = is_made_eq (makes r d.given) d.wanted in
    let b = is_made_eq (makes r e.given) e.wanted in
    let i = byte_from_literal c r d.given d.wanted in
    let j = literal_is_made c r e.given e.wanted in
    grind arith
