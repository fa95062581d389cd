use Rattle.rules.proofs.promises.parts_make_parts.Goals as goal
use Rattle.rules.proofs.PartsMake.{parts_make}

pub returns : goal.returns
returns c = parts_make
