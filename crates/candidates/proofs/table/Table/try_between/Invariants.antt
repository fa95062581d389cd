use Rattle.std.proofs.Common.{◌++◌, take}
use Rattle.rules.specs.Lists.{flat, up_to}
use Rattle.rules.specs.Values.{kind_number}
use Rattle.candidates.specs.Places.{both_ways}
use Rattle.candidates.proofs.TriedInTurn.{Tried}
use Rattle.candidates.proofs.table.Table.try_between.Given as goal

abbrev pub invariant-loop-n : goal.invariant-loop-n
invariant-loop-n l = Tried l.question l.fn.self (flat (both_ways (kind_number l.sides.left) (kind_number l.sides.right)) (up_to l.n)) l.self

abbrev pub invariant-loop-back : goal.invariant-loop-back
invariant-loop-back l =
    Tried l.question l.fn.self
    (flat (both_ways (kind_number l.sides.left) (kind_number l.sides.right)) (up_to l.n) ++ take l.back-index
    (both_ways (kind_number l.sides.left) (kind_number l.sides.right) l.n)) l.self
