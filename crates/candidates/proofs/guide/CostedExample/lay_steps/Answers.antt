-- The loops' steps are those of the lemmas.
use Rattle.std.proofs.Common.{◌≡◌, ◌+◌, ◌-◌, length, get_or, take, drop, sym, ap, ◌∙◌, subst, arith, length-drop, take_all, rules}
use Rattle.std.proofs.lemmas.List.{take_rest}
use Rattle.candidates.specs.Guide.{along, NoneAbove}
use Rattle.candidates.proofs.StepsLaid.{literals_laid, cuts_start, cuts_go_on, cuts_end, steps_small}
use Rattle.candidates.proofs.guide.CostedExample.lay_steps.Goals as goal

pub loop-x-init : goal.loop-x-init
loop-x-init c =
    cuts_start c.args.self.costs.now c.args.self.given.now c.args.self.wanted.now c.loop-d.room
    (literals_laid c.args.self.wanted.now c.loop-d.room (omega arith) (λ i h. c.loop-d.invariant i (omega arith)))

pub loop-x-preserved : goal.loop-x-preserved
loop-x-preserved c =
    let size : length c.args.self.costs.now ≡ 65 = search rules in
    let rest : take (65 - (c.loop-x.x + 1)) (drop (c.loop-x.x + 1) c.args.self.costs.now) ≡ drop (c.loop-x.x + 1) c.args.self.costs.now =
    take_all (65 - (c.loop-x.x + 1)) (drop (c.loop-x.x + 1) c.args.self.costs.now) (omega (arith, length-drop (c.loop-x.x + 1) c.args.self.costs.now)) in
    cuts_go_on c.args.self.costs.now c.args.self.given.now c.args.self.wanted.now c.loop-x.x c.loop-x.room c.along.new.room (omega arith) (omega arith)
    (c.along.ensures
    ∙ ap (λ l. along (get_or c.args.self.costs.now c.loop-x.x 0) l (take (length c.args.self.given.now - c.loop-x.x) (drop c.loop-x.x c.args.self.given.now)) c.args.self.wanted.now c.loop-x.room) rest
    ∙ ap (λ l. along (get_or c.args.self.costs.now c.loop-x.x 0) (drop (c.loop-x.x + 1) c.args.self.costs.now) l c.args.self.wanted.now c.loop-x.room) (take_rest c.args.self.given.now c.loop-x.x))
    c.loop-x.invariant

pub returns : goal.returns
returns c =
    let laid = cuts_end c.args.self.costs.now c.args.self.given.now c.args.self.wanted.now c.loop-x.x c.loop-x.room (omega arith) c.loop-x.invariant in
    record { laid = laid; small = subst (λ l. NoneAbove 4177 l) (sym laid) (steps_small c.args.self.costs.now c.args.self.given.now c.args.self.wanted.now c.args.self.wanted_short) }
