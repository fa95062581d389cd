-- Where the piece leads is what its definition says, whatever the piece came from.
use Rattle.std.proofs.Common.{ap, ◌∙◌}
use Rattle.candidates.specs.Looked.{next_by, next_position}
use Rattle.candidates.specs.Problem.{wanted_in}
use Rattle.candidates.specs.Viewed.{the_view}
use Rattle.candidates.proofs.problem.Problem.next.Goals as goal

pub returns-in_err-piece : goal.returns-in_err-piece
unfolding next_by
returns-in_err-piece c = c.from_residual.ensures ∙ ap (λ m. next_by m (wanted_in (the_view c.args.self) c.args.e) c.args.at) c.in_err-piece.ensures

pub returns : goal.returns
unfolding next_by
returns c =
    c.next_position.ensures ∙ ap (λ w. next_position c.in_ok-piece.piece.now w c.args.at) c.wanted.ensures.value
    ∙ ap (λ m. next_by m (wanted_in (the_view c.args.self) c.args.e) c.args.at) c.in_ok-piece.ensures
