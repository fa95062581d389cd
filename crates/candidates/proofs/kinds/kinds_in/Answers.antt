use Rattle.std.proofs.Common.{sym, ap, ◌∙◌, arith}
use Rattle.candidates.proofs.KindsCollected.{collected_none, collected_more, collected_absent, collected_none_there, collected_all}
use Rattle.candidates.proofs.kinds.kinds_in.Goals as goal
use Rattle.candidates.proofs.kinds.kinds_in.Goals.{in-Ok+then-stands_in, in-Ok+else-stands_in, in_default}

pub loop-number-init : goal.loop-number-init
loop-number-init c = collected_none _ _ c.new-kinds.ensures

pub loop-number-preserved : goal.loop-number-preserved
loop-number-preserved c =
    elim c.match-try_from.branch [
      | in-Ok+then-stands_in w ↦ collected_more _ _ _ c.loop-number.invariant _ _ w.in-Ok.ensures.0 w.in-Ok.ensures.1 (sym w.if-stands_in.ensures)
          (ap (λ k. k.items) w.kinds-is ∙ w.push.ensures.items)
      | in-Ok+else-stands_in w ↦ collected_absent _ _ _ c.loop-number.invariant _ _ w.in-Ok.ensures.0 w.in-Ok.ensures.1
          (sym w.if-stands_in.ensures) (ap (λ k. k.items) w.kinds-is)
      | in_default w ↦ collected_none_there _ _ _ c.loop-number.invariant _ w.in_default.ensures.1 (ap (λ k. k.items) w.kinds-is)
    ]

pub returns : goal.returns
returns c = collected_all _ _ _ c.loop-number.invariant (omega arith)
