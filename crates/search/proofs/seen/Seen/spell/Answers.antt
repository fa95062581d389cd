use Rattle.std.proofs.Common.{length, ap₂, ◌∙◌}
use Rattle.rules.specs.Answers.{written}
use Rattle.search.specs.Spelled.{spelled_in}
use Rattle.search.proofs.seen.Seen.spell.Goals as goal

pub returns-clause-value : goal.returns-clause-value
returns-clause-value c = c.spell.ensures.value ∙ ap₂ (λ v x. length (spelled_in v x)) c.problem.ensures c.machine.ensures

pub returns-clause-after : goal.returns-clause-after
returns-clause-after c = c.spell.ensures.after ∙ ap₂ (λ v x. written c.args.out.now 0 (spelled_in v x)) c.problem.ensures c.machine.ensures
