-- Where nothing is refused, the problem is laid down behind the machine, which then begins.
use Rattle.std.proofs.Common.{ap, ◌∙◌}
use Rattle.search.specs.Memory.{loaded, problem_in}
use Rattle.search.proofs.BegunInMemory.{machine_begins}
use Rattle.search.proofs.RefusalsTold.{begun_left}
use Rattle.search.proofs.search.Search.begin.Goals as goal

pub returns-clause-becomes : goal.returns-clause-becomes
returns-clause-becomes c = record {
  same_reference = c.keep.ensures.same_reference ∙ c.lay.ensures.same_reference;
  memory = begun_left _ _ _ _ _ c.in_ok-check_examples.ensures (machine_begins _ _ _ _ _ _ _ c.lay.ensures.memory (c.machine-machine.ensures ∙ ap loaded c.seen-seen.ensures) (c.problem.ensures ∙ ap problem_in c.seen-seen.ensures) c.begin.ensures c.keep.ensures.memory);
}
