use Rattle.std.proofs.Common.{[], ◌∷◌, length, ◌∙◌}
use Rattle.rules.specs.Order.{part_spelled}
use Rattle.rules.proofs.WrittenBytes.{room_first, room_next, wrote_next}
use Rattle.rules.proofs.room.Writer.put_literal.Goals as goal

pub put-requires : goal.put-requires
unfolding part_spelled
put-requires c = room_first _ (0 ∷ length c.args.literal.now ∷ []) c.args.literal.now c.requires.room

pub put-requires-2 : goal.put-requires-2
unfolding part_spelled
put-requires-2 c = room_next _ _ (0 ∷ length c.args.literal.now ∷ []) c.args.literal.now c.requires.room c.put.ensures.wrote

pub returns : goal.returns
unfolding part_spelled
returns c = record {
  same_reference = c.put-2.ensures.same_reference ∙ c.put.ensures.same_reference;
  wrote = wrote_next _ _ _ (0 ∷ length c.args.literal.now ∷ []) c.args.literal.now c.requires.room c.put.ensures.wrote c.put-2.ensures.wrote;
}
