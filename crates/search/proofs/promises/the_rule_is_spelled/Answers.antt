use Rattle.search.proofs.FindsTheFirst.{spells_the_rule}
use Rattle.search.proofs.promises.the_rule_is_spelled.Goals as goal

pub returns : goal.returns
returns c = spells_the_rule
