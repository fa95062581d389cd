use Rattle.std.proofs.Common.{ap, ◌∙◌, rules}
use Rattle.candidates.specs.Problem.{View}
use Rattle.search.proofs.seen.Seen.standing.Goals as goal

pub returns : goal.returns
returns c = let rows = c.row_count.ensures ∙ ap (λ (v : View). v.rows) c.problem.ensures in rw (← c.machine-machine.ensures) (search rules)
