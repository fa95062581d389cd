use Rattle.candidates.proofs.SmallExamples.{bytes_small}
use Rattle.candidates.proofs.small.is_small_text.Goals as goal

pub returns : goal.returns
returns c = bytes_small c.args.text.now c.type_inv.text
