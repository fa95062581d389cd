-- The piece stands next where what is left begins with it.
use Rattle.std.proofs.Common.{◌∙◌}
use Rattle.std.proofs.lemmas.List.{take_rest}
use Rattle.candidates.proofs.PieceStands.{no_room, begins}
use Rattle.candidates.proofs.look.next_position.Goals as goal

pub returns-in_err-rest : goal.returns-in_err-rest
returns-in_err-rest c = c.from_residual.ensures ∙ no_room c.args.piece.now c.args.wanted.now c.args.at c.in_err-rest.ensures.lookup.0

pub returns : goal.returns
returns c =
    let rest = c.in_ok-rest.ensures.lookup.0 in
    c.then_some.ensures ∙ begins c.args.piece.now c.args.wanted.now c.args.at c.starts_with.result c.in_ok-rest.rest.now (rest.2 ∙ take_rest c.args.wanted.now c.args.at) rest.0 c.starts_with.ensures.bound c.starts_with.ensures.value
