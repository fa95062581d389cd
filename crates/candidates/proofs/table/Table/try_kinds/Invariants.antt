use Rattle.std.proofs.Common.{◌++◌}
use Rattle.candidates.specs.Tables.{first_of}
use Rattle.candidates.proofs.PlacesTried.{lefts, rights}
use Rattle.candidates.proofs.TriedInTurn.{Tried}
use Rattle.candidates.proofs.table.Table.try_kinds.Given as goal

abbrev pub invariant-loop-left : goal.invariant-loop-left
invariant-loop-left l = Tried l.question l.fn.self (lefts (first_of l.question) l.kinds l.left-index) l.self

abbrev pub invariant-loop-right : goal.invariant-loop-right
invariant-loop-right l =
    Tried l.question l.fn.self (lefts (first_of l.question) l.kinds l.left-index ++ rights (first_of l.question) l.kinds l.left l.right-index) l.self
