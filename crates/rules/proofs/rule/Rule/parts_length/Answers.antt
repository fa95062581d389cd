use Rattle.std.proofs.Common.{◌+◌, length, ap, ◌∙◌, arith}
use Rattle.rules.specs.Lists.{flat}
use Rattle.rules.specs.Order.{part_spelled}
use Rattle.rules.specs.Values.{the_parts}
use Rattle.rules.proofs.SumOverParts.{few_parts, is_a_part, spelled_length, length_adds, adds_none, adds_more, adds_all}
use Rattle.rules.proofs.rule.Rule.parts_length.Goals as goal

pub loop-part-init : goal.loop-part-init
loop-part-init c = adds_none spelled_length 66 _

pub part_length-total-requires : goal.part_length-total-requires
part_length-total-requires c = is_a_part _ c.parts-parts.ensures.rule _ _ c.loop-part-test.true c.part-item.is

pub overflow_add-total : goal.overflow_add-total
overflow_add-total c = let few = few_parts _ c.parts-parts.ensures.rule in omega arith

pub loop-part-preserved : goal.loop-part-preserved
loop-part-preserved c =
    adds_more spelled_length 66 _ _ _ _ _ c.loop-part.invariant c.loop-part-test.true c.part-item.is (omega (arith, c.part_length-total.ensures.value, c.part_length-total.ensures.bound))
    (ap (λ n. c.loop-part.total + n) c.part_length-total.ensures.value)

pub returns : goal.returns
returns c = record {
  value = adds_all spelled_length 66 _ _ _ c.loop-part.invariant c.loop-part-test.false ∙ length_adds _ ∙ ap (λ ps. length (flat part_spelled (the_parts ps))) c.parts-parts.ensures.parts;
  bound = let few = few_parts _ c.parts-parts.ensures.rule in omega arith;
}
