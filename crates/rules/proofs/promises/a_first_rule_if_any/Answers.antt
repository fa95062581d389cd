use Rattle.rules.proofs.promises.a_first_rule_if_any.Goals as goal
use Rattle.rules.proofs.AllRules.{first_there}

pub returns : goal.returns
returns c = first_there
