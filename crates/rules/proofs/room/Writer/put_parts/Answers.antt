use Rattle.std.proofs.Common.{sym, ◌∙◌, subst}
use Rattle.rules.specs.Lists.{flat}
use Rattle.rules.specs.Order.{part_spelled}
use Rattle.rules.specs.Values.{the_parts}
use Rattle.rules.specs.Writing.{the_writing, HasRoom}
use Rattle.rules.proofs.SpellsParts.{part_has_room, part_spelled_too}
use Rattle.rules.proofs.SumOverParts.{is_a_part}
use Rattle.rules.proofs.room.Writer.put_parts.Goals as goal

pub put_part-requires : goal.put_part-requires
put_part-requires c =
    let room = subst (λ ps. HasRoom (the_writing c.args.self.now) (flat part_spelled (the_parts ps))) (sym c.parts-parts.ensures.parts) c.requires in
    record {
      part = is_a_part _ c.parts-parts.ensures.rule _ _ c.loop-part-test.true c.part-item.is;
      room = part_has_room _ _ room _ _ c.loop-part-test.true c.part-item.is _ c.loop-part.invariant.wrote;
    }

pub loop-part-preserved : goal.loop-part-preserved
loop-part-preserved c =
    let room = subst (λ ps. HasRoom (the_writing c.args.self.now) (flat part_spelled (the_parts ps))) (sym c.parts-parts.ensures.parts) c.requires in
    record {
      same_reference = c.put_part.ensures.same_reference ∙ c.loop-part.invariant.same_reference;
      wrote = part_spelled_too _ _ room _ _ c.loop-part-test.true c.part-item.is _ _ c.loop-part.invariant.wrote c.put_part.ensures.wrote;
    }
