use Rattle.std.proofs.Common.{◌≡◌}
use Rattle.rules.specs.Writing.{the_writing, lender}
use Rattle.rules.proofs.MakesInto.{so_far, Written}
use Rattle.rules.proofs.makes.write_parts.Given as goal

abbrev pub invariant-loop-part : goal.invariant-loop-part
invariant-loop-part l = record {
  same_reference : lender l.writer ≡ lender l.initial.writer;
  written : Written (so_far l.parts l.text l.part-index) l.fn.out (the_writing l.writer);
}
