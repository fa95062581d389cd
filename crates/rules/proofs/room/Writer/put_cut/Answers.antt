use Rattle.std.proofs.Common.{[], ◌∷◌, ◌++◌, ◌∙◌}
use Rattle.rules.specs.Order.{place_spelled, part_spelled}
use Rattle.rules.specs.Values.{the_place}
use Rattle.rules.proofs.WrittenBytes.{room_first, room_next, wrote_next}
use Rattle.rules.proofs.room.Writer.put_cut.Goals as goal

pub put-requires : goal.put-requires
unfolding part_spelled
put-requires c = room_first _ (1 ∷ []) (place_spelled (the_place c.args.pair.from) ++ place_spelled (the_place c.args.pair.to)) c.requires

pub put_place-requires : goal.put_place-requires
unfolding part_spelled
put_place-requires c =
    let from = place_spelled (the_place c.args.pair.from) in
    let to = place_spelled (the_place c.args.pair.to) in
    room_first _ from to (room_next _ _ (1 ∷ []) (from ++ to) c.requires c.put.ensures.wrote)

pub put_place-requires-2 : goal.put_place-requires-2
unfolding part_spelled
put_place-requires-2 c =
    let from = place_spelled (the_place c.args.pair.from) in
    let to = place_spelled (the_place c.args.pair.to) in
    room_next _ _ from to (room_next _ _ (1 ∷ []) (from ++ to) c.requires c.put.ensures.wrote) c.put_place.ensures.wrote

pub returns : goal.returns
unfolding part_spelled
returns c =
    let from = place_spelled (the_place c.args.pair.from) in
    let to = place_spelled (the_place c.args.pair.to) in
    let room = room_next _ _ (1 ∷ []) (from ++ to) c.requires c.put.ensures.wrote in
    record {
      same_reference = c.put_place-2.ensures.same_reference ∙ c.put_place.ensures.same_reference ∙ c.put.ensures.same_reference;
      wrote = wrote_next _ _ _ (1 ∷ []) (from ++ to) c.requires c.put.ensures.wrote (wrote_next _ _ _ from to room c.put_place.ensures.wrote c.put_place-2.ensures.wrote);
    }
