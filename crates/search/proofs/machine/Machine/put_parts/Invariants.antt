use Rattle.std.proofs.Common.{◌≡◌, ◌+◌, ◌*◌, ◌≤◌}
use Rattle.rules.specs.Writing.{the_writing, lender, wrote}
use Rattle.candidates.specs.Viewed.{the_view}
use Rattle.search.specs.Spelled.{frames_spelled}
use Rattle.search.proofs.machine.Machine.put_parts.Given as goal

abbrev pub invariant-loop-frame : goal.invariant-loop-frame
invariant-loop-frame l = record {
  same_reference : lender l.writer ≡ lender l.initial.writer;
  wrote : the_writing l.writer ≡ wrote (the_writing l.initial.writer) (frames_spelled (the_view l.problem) l.frame-index l.fn.self.frames);
  bound : (the_writing l.writer).at ≤ (the_writing l.initial.writer).at + 66 * l.frame-index;
}
