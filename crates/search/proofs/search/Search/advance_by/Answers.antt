use Rattle.std.proofs.Common.{ap, ◌∙◌, ap₂}
use Rattle.search.specs.Memory.{loaded, problem_in}
use Rattle.search.specs.Steps.{held_steps, Held}
use Rattle.search.proofs.search.Search.advance_by.Goals as goal

pub returns-clause-becomes : goal.returns-clause-becomes
returns-clause-becomes c = record { same_reference = c.keep.ensures.same_reference; memory = cc }

pub returns-clause-status : goal.returns-clause-status
returns-clause-status c = ap (λ (x : Held). x.status) (c.run.ensures ∙ ap₂ (λ v x. held_steps v c.args.steps x) (c.problem.ensures ∙ ap problem_in c.seen-seen.ensures) (c.machine-machine.ensures ∙ ap loaded c.seen-seen.ensures))
