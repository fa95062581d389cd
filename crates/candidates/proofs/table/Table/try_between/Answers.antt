use Rattle.std.proofs.Common.{◌≡◌, rules, ap, ◌∙◌, arith}
use Rattle.rules.specs.Lists.{flat, up_to}
use Rattle.rules.specs.Values.{kind_number}
use Rattle.candidates.specs.Places.{both_ways, places_between}
use Rattle.candidates.proofs.TriedInTurn.{tried_none, tried_one, tried_same, tried_end, flat_next}
use Rattle.candidates.proofs.PlacesTried.{between_nothing, between_kinds, ways_next, ways_all}
use Rattle.candidates.proofs.table.Table.try_between.Goals as goal

pub returns-then-are_anything : goal.returns-then-are_anything
returns-then-are_anything c =
    tried_end c.args.question _ _ _ _ (tried_none c.args.question c.args.self.now) (between_nothing _ _ _ (search rules))

pub loop-n-init : goal.loop-n-init
unfolding up_to
loop-n-init c = tried_none _ _

pub loop-back-preserved : goal.loop-back-preserved
loop-back-preserved c =
    tried_one c.args.question _ _ _ _ _ _ c.loop-back.invariant c.try_place.ensures
    (ways_next _ _ c.loop-n.n c.loop-back.back-index _ _ c.loop-back-test.true)

pub loop-n-preserved : goal.loop-n-preserved
loop-n-preserved c =
    tried_same _ _ _ _ _ c.loop-back.invariant
    (flat_next (both_ways (kind_number c.args.sides.left) (kind_number c.args.sides.right)) c.loop-n.n
    ∙ ways_all _ _ c.loop-n.n c.loop-back.back-index _ c.loop-back-test.false)

pub returns : goal.returns
returns c =
    let all : c.loop-n.n ≡ c.fits-n-end.result = omega arith in
    tried_end c.args.question _ _ _ _ c.loop-n.invariant
    (ap (λ m. flat (both_ways (kind_number c.args.sides.left) (kind_number c.args.sides.right)) (up_to m)) all
    ∙ between_kinds c.first_given.result.now _ _ _ (search rules) c.fits-n-end.ensures.value
    ∙ ap (λ t. places_between t (kind_number c.args.sides.left) (kind_number c.args.sides.right)) c.first_given.ensures)
