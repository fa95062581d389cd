-- Each example's guide is laid down in its place.
use Rattle.std.proofs.Common.{sym, refl, ◌∙◌, subst, arith}
use Rattle.candidates.specs.Guide.{all_costs, guides_laid, NoneAbove}
use Rattle.candidates.proofs.ExamplesRead.{short_read}
use Rattle.candidates.proofs.GuidesLaid.{guides_goes_on}
use Rattle.candidates.proofs.LeastCosts.{costs_of, least_costs_small}
use Rattle.candidates.proofs.guide.lay_guides.Goals as goal

pub loop-e-init : goal.loop-e-init
unfolding guides_laid
loop-e-init c = refl

pub invariant_of-costed : goal.invariant_of-costed
invariant_of-costed c =
    let few = short_read c.args.question.examples.now c.loop-e.e _ (omega arith) c.args.question.short in
    record {
      costs_small = subst (NoneAbove 255) (sym c.least_costs-costs.ensures) (least_costs_small c.args.rows.numbers.now c.loop-e.e c.args.rows.count);
      given_short = few.0;
      wanted_short = few.1;
    }

pub loop-e-preserved : goal.loop-e-preserved
loop-e-preserved c =
    let t = c.args.rows.numbers.now in
    let n = c.args.rows.count in
    let costs = c.least_costs-costs.ensures ∙ sym (costs_of t n c.loop-e.e (omega arith)) in
    guides_goes_on (all_costs t n) c.least_costs-costs.result c.args.question.examples.now c.args.out.now c.loop-e.out c.lay_guide.new.out c.loop-e.e _ (omega arith) costs
    c.lay_guide.ensures c.loop-e.invariant
