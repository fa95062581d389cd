-- Weights order rules as their costs and numbers of parts do, and no rule that there is weighs more than the limit.
use Rattle.std.proofs.Common.{◌≡◌, ◌+◌, ◌*◌, ◌≤◌, true, false, [], ◌∷◌, length, refl, arith}
use Rattle.std.proofs.lemmas.Bool.Decides.{nat_tests}
use Rattle.std.proofs.lemmas.Bool.{and_parts}
use Rattle.rules.specs.Lists.{flat, every, earlier}
use Rattle.rules.specs.Places.{Place, from_first, from_last, nth_of}
use Rattle.rules.specs.Rules.{Part, bytes, cut, Rule, place_cost, part_cost, cost, a_place, a_part}
use Rattle.rules.specs.Order.{part_spelled, rule_before}
use Rattle.search.specs.Automaton.{part_weight, weight}
use Rattle.search.specs.Machine.{limit}

pub weight_is : (r : Rule) → weight r ≡ 16 * cost r + length r
unfolding weight cost
weight_is [] = refl
weight_is (p ∷ ps) = let ih = weight_is ps in omega arith

-- what weighs no less, and is not spelled earlier where it weighs the same, does not come before
pub not_before : (q r : Rule) → length q ≤ 8 → length r ≤ 8 → weight r ≤ weight q → (weight q ≡ weight r → earlier (flat part_spelled q) (flat part_spelled r) ≡ false) → rule_before q r ≡ false
unfolding earlier
not_before q r a b h e = let x = weight_is q in let y = weight_is r in grind (arith, nat_tests)

place_few : (p : Place) → a_place p ≡ true → place_cost p ≤ 69
unfolding a_place place_cost
place_few (from_first n) h = grind (arith, nat_tests)
place_few (from_last n) h = grind (arith, nat_tests)
place_few (nth_of l r n back) h = grind (arith, nat_tests)

part_few : (p : Part) → a_part p ≡ true → part_weight p ≤ 4177
unfolding a_part part_cost
part_few (bytes b) h = grind (arith, nat_tests)
part_few (cut p q) h = let x = place_few p in let y = place_few q in grind (arith, nat_tests)

parts_few : (r : Rule) → every a_part r ≡ true → weight r ≤ 4177 * length r
unfolding weight
parts_few [] h = omega arith
parts_few (p ∷ ps) h = let c = and_parts (a_part p) (every a_part ps) h in let ih = parts_few ps c.1 in let x = part_few p c.0 in omega arith

pub within_limit : (r : Rule) → every a_part r ≡ true → length r ≤ 8 → weight r ≤ limit
within_limit r h l = let x = parts_few r h in omega arith
