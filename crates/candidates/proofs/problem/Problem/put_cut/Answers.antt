use Rattle.std.proofs.Common.{[], ◌∷◌, ◌++◌, ◌∙◌}
use Rattle.rules.proofs.WrittenBytes.{room_next, wrote_next}
use Rattle.candidates.specs.Spelled.{row_spelled}
use Rattle.candidates.proofs.problem.Problem.put_cut.Goals as goal

pub returns : goal.returns
returns c =
    let from = row_spelled c.args.self.rows.numbers.now c.args.from in
    let to = row_spelled c.args.self.rows.numbers.now c.args.to in
    let room = room_next _ _ (1 ∷ []) (from ++ to) c.requires.room c.put.ensures.wrote in
    record {
      same_reference = c.put_place-2.ensures.same_reference ∙ c.put_place.ensures.same_reference ∙ c.put.ensures.same_reference;
      wrote = wrote_next _ _ _ (1 ∷ []) (from ++ to) c.requires.room c.put.ensures.wrote (wrote_next _ _ _ from to room c.put_place.ensures.wrote c.put_place-2.ensures.wrote);
    }
