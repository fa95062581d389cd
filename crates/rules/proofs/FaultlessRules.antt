-- There is nothing wrong with a rule there is; and a rule with which nothing is wrong is one there is, if its kinds are kinds and its literals are bytes.
use Rattle.std.proofs.Common.{◌≡◌, Bool, true, ◌&&◌, ltb, leb, [], ◌∷◌, length, Some, None, Option, refl, ap₂, arith}
use Rattle.std.proofs.lemmas.Bool.{and_from, and_parts}
use Rattle.rules.specs.Faults.{or_else, place_fault, part_fault, parts_fault, rule_fault}
use Rattle.rules.specs.Lists.{every}
use Rattle.rules.specs.Places.{Place, from_first, from_last, nth_of}
use Rattle.rules.specs.Rules.{Part, bytes, cut, Rule, a_kind, a_place, a_part, a_rule}
use Rattle.rules.specs.declared.fault.Fault.{Fault}

place_faultless : (p : Place) → a_place p ≡ true → place_fault p ≡ None
unfolding a_place
place_faultless (from_first n) h = grind arith
place_faultless (from_last n) h = grind arith
place_faultless (nth_of l r n back) h = let small = (and_parts (a_kind l && a_kind r) _ h).1 in grind arith

part_faultless : (p : Part) → a_part p ≡ true → part_fault p ≡ None
unfolding a_part
part_faultless (bytes b) h = grind arith
part_faultless (cut p q) h =
    let both = and_parts (a_place p) (a_place q) h in
    ap₂ or_else (place_faultless p both.0) (place_faultless q both.1)

parts_faultless : (r : Rule) → every a_part r ≡ true → parts_fault r ≡ None
parts_faultless [] h = refl
parts_faultless (p ∷ r) h =
    let both = and_parts (a_part p) (every a_part r) h in
    ap₂ or_else (part_faultless p both.0) (parts_faultless r both.1)

pub rule_faultless : (r : Rule) → a_rule r ≡ true → rule_fault r ≡ None
rule_faultless r h =
    let both = and_parts (leb (length r) 8) (every a_part r) h in
    rw both.0 (parts_faultless r both.1)

-- what no fault tells of: that kinds are kinds, and the bytes of a literal are bytes
abbrev pub place_sound : Place → Bool
place_sound (from_first n) = true
place_sound (from_last n) = true
place_sound (nth_of l r n back) = a_kind l && a_kind r

abbrev pub part_sound : Part → Bool
part_sound (bytes b) = every (λ c. ltb c 256) b
part_sound (cut p q) = place_sound p && place_sound q

neither_fault : (f g : Option Fault) → or_else f g ≡ None → (f ≡ None) × (g ≡ None)
neither_fault None g h = (refl, h)
neither_fault (Some f) g h = grind arith

place_there : (p : Place) → place_sound p ≡ true → place_fault p ≡ None → a_place p ≡ true
unfolding a_place
place_there (from_first n) k h = grind arith
place_there (from_last n) k h = grind arith
place_there (nth_of l r n back) k h = and_from _ _ k (grind arith)

part_there : (p : Part) → part_sound p ≡ true → part_fault p ≡ None → a_part p ≡ true
unfolding a_part
part_there (bytes b) k h = grind arith
part_there (cut p q) k h =
    let both = and_parts (place_sound p) (place_sound q) k in
    let fine = neither_fault (place_fault p) (place_fault q) h in
    and_from _ _ (place_there p both.0 fine.0) (place_there q both.1 fine.1)

parts_there : (r : Rule) → every part_sound r ≡ true → parts_fault r ≡ None → every a_part r ≡ true
parts_there [] k h = refl
parts_there (p ∷ r) k h =
    let both = and_parts (part_sound p) (every part_sound r) k in
    let fine = neither_fault (part_fault p) (parts_fault r) h in
    and_from _ _ (part_there p both.0 fine.0) (parts_there r both.1 fine.1)

pub rule_there : (r : Rule) → every part_sound r ≡ true → rule_fault r ≡ None → a_rule r ≡ true
rule_there r k h = let ps = parts_there r k in grind arith
