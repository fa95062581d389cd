use Rattle.search.proofs.FramesInMemory.{FramesLaid}
use Rattle.search.proofs.machine.Machine.store.Given as goal

abbrev pub invariant-loop-i : goal.invariant-loop-i
invariant-loop-i l = FramesLaid l.initial.memory l.self.frames l.memory l.i
