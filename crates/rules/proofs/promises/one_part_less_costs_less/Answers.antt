use Rattle.rules.proofs.promises.one_part_less_costs_less.Goals as goal
use Rattle.rules.proofs.IdleParts.{less_costs}

pub returns : goal.returns
returns c = less_costs
