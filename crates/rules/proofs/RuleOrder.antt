-- Which of two rules comes first is an order on all rules, so there is one first rule at most.
use Rattle.std.proofs.Common.{◌≡◌, ◌<◌, ◌≤◌, Bool, true, false, arith}
use Rattle.std.proofs.lemmas.Bool.Decides.{nat_tests}
use Rattle.rules.specs.Rules.{Rule, cost, a_rule}
use Rattle.std.specs.Ordering.{is_lt}
use Rattle.rules.specs.Order.{rule_spelled, rule_before, rule_cmp, First}
use Rattle.rules.specs.Promises.{FirstOne}
use Rattle.rules.proofs.DictionaryOrder.{earlier_irrefl, earlier_trans, earlier_total, earlier_is}
use Rattle.rules.proofs.SpellingPrefixFree.{spelled_apart}

pub before_irrefl : (r : Rule) → rule_before r r ≡ false
before_irrefl r = let h = earlier_irrefl (rule_spelled r) in grind (arith, nat_tests)

pub before_trans : (a b c : Rule) → rule_before a b ≡ true → rule_before b c ≡ true → rule_before a c ≡ true
before_trans a b c h k = let t = earlier_trans (rule_spelled a) (rule_spelled b) (rule_spelled c) in grind (arith, nat_tests)

pub before_total : (a b : Rule) → rule_before a b ≡ false → rule_before b a ≡ false → a ≡ b
before_total a b h k =
    let t = earlier_total (rule_spelled a) (rule_spelled b) in
    let e : rule_spelled a ≡ rule_spelled b = grind (arith, nat_tests) in
    spelled_apart a b e

-- it is the order in which rules are compared
pub before_is : (a b : Rule) → is_lt (rule_cmp a b) ≡ rule_before a b
before_is a b = let e = earlier_is (rule_spelled a) (rule_spelled b) in grind (arith, nat_tests)

-- what costs less comes before
pub cheaper_before : (a b : Rule) → cost a < cost b → rule_before a b ≡ true
cheaper_before a b h = grind (arith, nat_tests)

-- the first costs no more than any other that passes
pub first_cost : (f : Rule → Bool) (r q : Rule) → First f r → a_rule q ≡ true → f q ≡ true → cost r ≤ cost q
unfolding First
first_cost f r q h a k = let b = h.2 q a k in grind (arith, nat_tests)

pub first_one : FirstOne
unfolding First
first_one f r q h k = before_total r q (k.2 r h.0 h.1) (h.2 q k.0 k.1)
