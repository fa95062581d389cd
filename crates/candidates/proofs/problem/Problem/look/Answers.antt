-- What was found for the candidate is what a look at its number says.
use Rattle.std.proofs.Common.{◌∙◌, sym, subst}
use Rattle.candidates.specs.Looked.{pieces, Light}
use Rattle.candidates.specs.Viewed.{the_view}
use Rattle.candidates.proofs.LookSays.{look_leads, look_stops}
use Rattle.candidates.proofs.problem.Problem.look.Goals as goal

pub returns-in_err-next : goal.returns-in_err-next
returns-in_err-next c = record {
  value = c.from_residual.ensures ∙ look_stops (the_view c.args.self) c.args.state.now c.args.index (pieces (the_view c.args.self) c.candidate-chosen.result) c.candidate-chosen.ensures.value c.in_err-next.ensures;
  bound = subst Light (sym c.from_residual.ensures) tt;
}

pub returns : goal.returns
returns c = record {
  value = look_leads (the_view c.args.self) c.args.state.now c.args.index (pieces (the_view c.args.self) c.candidate-chosen.result) c.candidate-chosen.ensures.value c.in_ok-next.next c.weight.result c.in_ok-next.ensures (c.weight.ensures.value ∙ c.candidate-chosen.ensures.weight);
  bound = c.weight.ensures.bound;
}
