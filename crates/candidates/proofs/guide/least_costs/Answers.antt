-- A row read lowers the costs.
use Rattle.std.proofs.Common.{◌+◌, [], replicate, ◌∙◌, arith, rules}
use Rattle.candidates.specs.Guide.{least_costs}
use Rattle.candidates.proofs.LeastCosts.{least_costs_more}
use Rattle.candidates.proofs.RowsRead.{number_in}
use Rattle.candidates.proofs.guide.least_costs.Goals as goal

pub loop-row-init : goal.loop-row-init
unfolding least_costs
loop-row-init c = search rules

pub loop-row-preserved : goal.loop-row-preserved
loop-row-preserved c =
    let rows = c.as_rows-row-items in
    let at = number_in c.args.rows.numbers.now rows.result.now c.args.rows.count c.loop-row.row-index (6 + c.args.e) [] rows.ensures.value (omega arith) (omega arith) in
    let cost = number_in c.args.rows.numbers.now rows.result.now c.args.rows.count c.loop-row.row-index 5 [] rows.ensures.value (omega arith) (omega arith) in
    (omega arith, c.lower.ensures ∙ cc (c.loop-row.invariant.1, at, cost, least_costs_more c.args.rows.numbers.now c.args.e c.loop-row.row-index (replicate 65 255)))
