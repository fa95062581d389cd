-- The costs are the least over the rows that have been read.
use Rattle.std.proofs.Common.{◌≡◌, length, replicate}
use Rattle.candidates.specs.Guide.{least_costs}
use Rattle.candidates.proofs.guide.least_costs.Given as goal

abbrev pub invariant-loop-row : goal.invariant-loop-row
invariant-loop-row l = (length l.costs ≡ 65) × (l.costs ≡ least_costs l.fn.rows.numbers.now l.e l.row-index (replicate 65 255))
