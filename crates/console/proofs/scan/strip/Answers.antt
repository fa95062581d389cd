use Rattle.std.proofs.lemmas.Slice.Eq.{strip_prefix_is}
use Rattle.console.proofs.WordsStrip.{strip_told}
use Rattle.console.proofs.scan.strip.Goals as goal
use Rattle.std.proofs.lemmas.Bool.Decides.{Decides-eqb}

pub returns : goal.returns
returns c = strip_told c.args.word.now c.args.text.now c.strip_prefix.result (strip_prefix_is Decides-eqb c.args.text.now c.args.word.now c.strip_prefix.result c.strip_prefix.ensures.cases)
