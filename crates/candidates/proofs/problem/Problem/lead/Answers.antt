-- The loop has gone through as many examples as the definitions count.
use Rattle.std.proofs.Common.{sym, ◌∙◌, arith, length-set}
use Rattle.candidates.specs.Looked.{pieces}
use Rattle.candidates.specs.Viewed.{the_view}
use Rattle.candidates.proofs.PiecesLead.{lead_none, moved_none, lead_more, lead_stops}
use Rattle.candidates.proofs.problem.Problem.lead.Goals as goal

pub loop-e-init : goal.loop-e-init
loop-e-init c = (moved_none (the_view c.args.self) (pieces (the_view c.args.self) c.args.candidate) _, lead_none (the_view c.args.self) (pieces (the_view c.args.self) c.args.candidate) _, c.told-state)

pub returns-in_err-next : goal.returns-in_err-next
returns-in_err-next c =
    c.from_residual.ensures ∙ lead_stops (the_view c.args.self) (pieces (the_view c.args.self) c.args.candidate) _ c.loop-e.e (omega arith) (sym c.in_err-next.ensures)

pub loop-e-preserved : goal.loop-e-preserved
loop-e-preserved c =
    let m = lead_more (the_view c.args.self) (pieces (the_view c.args.self) c.args.candidate) c.args.state.now c.loop-e.e c.in_ok-next.field-0 c.loop-e.next c.loop-e.invariant.0 c.loop-e.invariant.1 (sym c.in_ok-next.ensures) in
    (m.0, m.1, simp length-set c.loop-e.invariant.2)
