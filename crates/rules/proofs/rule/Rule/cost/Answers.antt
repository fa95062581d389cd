use Rattle.std.proofs.Common.{◌+◌, ap, ◌∙◌, arith}
use Rattle.rules.specs.Rules.{cost}
use Rattle.rules.specs.Values.{the_parts}
use Rattle.rules.proofs.SumOverParts.{few_parts, is_a_part, cost_of, cost_adds, adds_none, adds_more, adds_all}
use Rattle.rules.proofs.rule.Rule.cost.Goals as goal

pub loop-part-init : goal.loop-part-init
loop-part-init c = adds_none cost_of 527 _

pub part_cost-requires : goal.part_cost-requires
part_cost-requires c = is_a_part _ c.parts-parts.ensures.rule _ _ c.loop-part-test.true c.part-item.is

pub overflow_add-total-in-loop-part : goal.overflow_add-total-in-loop-part
overflow_add-total-in-loop-part c = let few = few_parts _ c.parts-parts.ensures.rule in omega arith

pub loop-part-preserved : goal.loop-part-preserved
loop-part-preserved c =
    adds_more cost_of 527 _ _ _ _ _ c.loop-part.invariant c.loop-part-test.true c.part-item.is (omega (arith, c.part_cost.ensures.value, c.part_cost.ensures.bound))
    (ap (λ n. c.loop-part.total + (1 + n)) c.part_cost.ensures.value)

pub returns : goal.returns
returns c = adds_all cost_of 527 _ _ _ c.loop-part.invariant c.loop-part-test.false ∙ cost_adds _ ∙ ap (λ ps. cost (the_parts ps)) c.parts-parts.ensures.parts
