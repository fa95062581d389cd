use Rattle.std.proofs.Common.{refl, ap, ◌∙◌, rules}
use Rattle.rules.specs.Rules.{makes}
use Rattle.rules.specs.Writing.{the_writing, lender}
use Rattle.rules.proofs.MakesInto.{none_written, next_piece_fits, written_more, written_never, written_all}
use Rattle.rules.proofs.makes.write_parts.Goals as goal
use Rattle.rules.proofs.makes.write_parts.Goals.{in-Some, in_default}

pub loop-part-init : goal.loop-part-init
unfolding makes
loop-part-init c = record { same_reference = refl; written = none_written _ _ c.new-writer.ensures.unwritten }

pub put-requires : goal.put-requires
put-requires c = next_piece_fits _ _ _ _ c.loop-part-test.true c.part-item.is _ _ c.loop-part.invariant.written c.requires _ c.in-Some.ensures

pub loop-part-preserved : goal.loop-part-preserved
loop-part-preserved c =
    elim c.match-makes.branch [
      | in-Some w ↦ record {
        same_reference = ap lender w.writer-is ∙ w.put.ensures.same_reference ∙ c.loop-part.invariant.same_reference;
        written = written_more _ _ _ _ c.loop-part-test.true c.part-item.is _ _ c.loop-part.invariant.written c.requires _ _ w.in-Some.ensures (ap the_writing w.writer-is ∙ w.put.ensures.wrote);
      }
      | in_default w ↦ absurd (written_never _ _ _ _ c.loop-part-test.true c.part-item.is _ _ c.loop-part.invariant.written c.requires w.in_default.ensures)
    ]

pub returns : goal.returns
returns c = let all = written_all _ _ _ _ _ c.loop-part.invariant.written c.loop-part-test.false c.requires in search rules
