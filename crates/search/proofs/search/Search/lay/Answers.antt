-- The numbers of the problem lie behind those of the machine.
use Rattle.std.proofs.Common.{refl}
use Rattle.candidates.specs.Values.{the_examples}
use Rattle.candidates.proofs.SmallExamples.{small_short}
use Rattle.search.proofs.BegunInMemory.{problem_laid}
use Rattle.search.proofs.search.Search.lay.Goals as goal

pub lay-requires-clause-short : goal.lay-requires-clause-short
lay-requires-clause-short c = small_short (the_examples c.args.examples.now) c.requires

pub returns : goal.returns
returns c = record { same_reference = refl; memory = problem_laid (the_examples c.args.examples.now) c.args.self.now.memory.now _ c.requires c.args.self.now.size c.lay.ensures }
