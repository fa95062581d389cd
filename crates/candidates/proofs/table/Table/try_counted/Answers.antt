use Rattle.std.proofs.Common.{◌≡◌, [], ◌∷◌, ◌++◌, sym, ap, ◌∙◌, append_assoc, append-nil, arith}
use Rattle.rules.specs.Lists.{each, up_to}
use Rattle.rules.specs.Places.{from_first, from_last}
use Rattle.candidates.proofs.TriedInTurn.{tried_none, tried_one, tried_same, each_next}
use Rattle.candidates.proofs.table.Table.try_counted.Goals as goal

pub loop-n-init : goal.loop-n-init
unfolding up_to
loop-n-init c = tried_none _ _

pub loop-n-preserved : goal.loop-n-preserved
loop-n-preserved c = tried_one c.args.question _ _ _ _ _ _ c.loop-n.invariant c.try_place.ensures (each_next (λ n. from_first n) c.loop-n.n)

pub loop-n-2-init : goal.loop-n-2-init
unfolding up_to
loop-n-2-init c =
    let all : 65 ≡ c.loop-n.n = omega arith in
    tried_same _ _ _ _ _ c.loop-n.invariant (append-nil (each (λ n. from_first n) (up_to 65)) ∙ ap (λ m. each (λ n. from_first n) (up_to m)) all)

pub loop-n-2-preserved : goal.loop-n-2-preserved
loop-n-2-preserved c =
    let first = each (λ n. from_first n) (up_to 65) in
    tried_one c.args.question _ _ _ _ _ _ c.loop-n-2.invariant c.try_place-in-loop-n-2.ensures
    (ap (λ l. first ++ l) (each_next (λ n. from_last n) c.loop-n-2.n)
    ∙ sym (append_assoc first (each (λ n. from_last n) (up_to c.loop-n-2.n)) (from_last c.loop-n-2.n ∷ [])))
