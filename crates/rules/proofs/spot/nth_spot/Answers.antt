use Rattle.std.proofs.Common.{◌+◌, sym, rules}
use Rattle.rules.specs.Values.{kind_number}
use Rattle.rules.proofs.NthSpot.{Counted, counted_fits, counted_not, counted_found, counted_all}
use Rattle.rules.proofs.spot.nth_spot.Goals as goal
use Rattle.rules.proofs.spot.nth_spot.Goals.{Joined-is_at, then-is_at+else-count-n, else-is_at}

pub returns-then-count-n : goal.returns-then-count-n
returns-then-count-n c =
    counted_found _ _ _ _ _ _ _ _ c.loop-step.invariant (search rules) c.position-at.ensures (sym c.if-is_at.ensures) c.if-count-n.true

-- after a turn, one position more is counted
one_more : (c : Joined-is_at) → Counted c.args.text.now (kind_number c.args.sides.left) (kind_number c.args.sides.right) c.args.n c.args.back c.if-is_at.count (c.loop-step.step + 1)
one_more c =
    elim c.if-is_at.branch [
      | then-is_at+else-count-n w ↦ counted_fits _ _ _ _ _ _ _ _ c.loop-step.invariant (search rules) c.position-at.ensures _ w.count-is (sym w.if-is_at.ensures) w.if-count-n.false
      | else-is_at w ↦ counted_not _ _ _ _ _ _ _ _ c.loop-step.invariant (search rules) c.position-at.ensures _ w.count-is (sym w.if-is_at.ensures)
    ]

pub loop-step-preserved : goal.loop-step-preserved
loop-step-preserved c = one_more (goal.at.loop-step-preserved c).Joined-is_at

pub returns-after-is_at : goal.returns-after-is_at
returns-after-is_at c = counted_all _ _ _ _ _ _ _ (one_more (goal.at.returns-after-is_at c).Joined-is_at) (search rules)
