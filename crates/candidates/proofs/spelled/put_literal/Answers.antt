use Rattle.std.proofs.Common.{[], ◌∷◌, length, ap, ◌∙◌}
use Rattle.std.proofs.lemmas.List.{get_or_default}
use Rattle.rules.specs.Lists.{each}
use Rattle.rules.specs.Writing.{the_writing, wrote}
use Rattle.rules.proofs.WrittenBytes.{room_next, wrote_next}
use Rattle.candidates.specs.Spelled.{as_byte}
use Rattle.candidates.proofs.BytesInTurn.{all_bytes, byte_written_too}
use Rattle.candidates.proofs.spelled.put_literal.Goals as goal

pub loop-number-preserved : goal.loop-number-preserved
loop-number-preserved c =
    let ns = c.args.literal.now in
    let room = room_next _ _ (0 ∷ length ns ∷ []) (each as_byte ns) c.requires.room c.put.ensures.wrote in
    let is = get_or_default ns c.loop-number.number-index _ _ c.loop-number-test.true in
    record {
      same_reference = c.put-in-loop-number.ensures.same_reference ∙ c.loop-number.invariant.same_reference;
      wrote = byte_written_too ns _ room _ c.loop-number-test.true _ _ _ _ c.loop-number.invariant.wrote c.put-in-loop-number.ensures.wrote is c.as_byte.ensures;
    }

pub returns : goal.returns
returns c =
    let ns = c.args.literal.now in
    record {
      same_reference = c.loop-number.invariant.same_reference ∙ c.put.ensures.same_reference;
      wrote = wrote_next _ _ _ (0 ∷ length ns ∷ []) (each as_byte ns) c.requires.room c.put.ensures.wrote
          (c.loop-number.invariant.wrote ∙ ap (wrote (the_writing c.put.new.self)) (all_bytes ns _ c.loop-number-test.false));
    }
