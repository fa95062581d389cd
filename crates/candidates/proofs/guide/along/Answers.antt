-- The loop's steps are those of the lemmas.
use Rattle.std.proofs.Common.{min, get_or, sym, ap, ◌∙◌, arith, length-take}
use Rattle.std.proofs.lemmas.List.{get_or-take}
use Rattle.candidates.proofs.LeastCosts.{min_smaller}
use Rattle.candidates.proofs.StepsLaid.{along_starts, along_goes_on, along_stops_apart, along_ends}
use Rattle.candidates.proofs.guide.along.Goals as goal

pub loop-d-init : goal.loop-d-init
loop-d-init c = along_starts c.args.from c.args.costs.now c.args.given.now c.args.wanted.now c.args.room.now

pub returns-then-byte-wanted : goal.returns-then-byte-wanted
returns-then-byte-wanted c =
    let there = length-take c.min-both.result c.args.given.now in
    let byte = get_or-take c.min-both.result c.args.given.now c.loop-d.d 0 (omega arith) in
    along_stops_apart c.args.from c.args.costs.now c.args.given.now c.args.wanted.now c.args.room.now c.loop-d.d c.loop-d.room
    (omega arith) (omega arith) (λ e. c.if-byte-wanted.true (byte ∙ e)) c.loop-d.invariant

pub loop-d-preserved : goal.loop-d-preserved
loop-d-preserved c =
    let there = length-take c.min-both.result c.args.given.now in
    let byte = get_or-take c.min-both.result c.args.given.now c.loop-d.d 0 (omega arith) in
    along_goes_on c.args.from c.args.costs.now c.args.given.now c.args.wanted.now c.args.room.now c.loop-d.d c.loop-d.room
    c.min.result (omega arith) (omega arith) (omega arith) (omega arith) (sym byte ∙ c.if-byte-wanted.false)
    (c.min.ensures ∙ ap (min (get_or c.loop-d.room c.loop-d.d 0)) c.cut_weight.ensures ∙ min_smaller _ _) c.loop-d.invariant

pub returns : goal.returns
returns c =
    let there = length-take c.min-both.result c.args.given.now in
    along_ends c.args.from c.args.costs.now c.args.given.now c.args.wanted.now c.args.room.now c.loop-d.d c.loop-d.room
    (omega arith) c.loop-d.invariant
