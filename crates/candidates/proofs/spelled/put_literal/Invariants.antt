use Rattle.std.proofs.Common.{◌≡◌}
use Rattle.rules.specs.Writing.{the_writing, lender, wrote}
use Rattle.candidates.proofs.BytesInTurn.{bytes_to}
use Rattle.candidates.proofs.spelled.put_literal.Given as goal

-- the numbers so far are written as bytes
abbrev pub invariant-loop-number : goal.invariant-loop-number
invariant-loop-number l = record {
  same_reference : lender l.writer ≡ lender l.initial.writer;
  wrote : the_writing l.writer ≡ wrote (the_writing l.initial.writer) (bytes_to l.literal l.number-index);
}
