use Rattle.std.proofs.Common.{◌++◌}
use Rattle.rules.specs.Lists.{each, up_to}
use Rattle.rules.specs.Places.{from_first, from_last}
use Rattle.candidates.proofs.TriedInTurn.{Tried}
use Rattle.candidates.proofs.table.Table.try_counted.Given as goal

abbrev pub invariant-loop-n : goal.invariant-loop-n
invariant-loop-n l = Tried l.question l.fn.self (each (λ n. from_first n) (up_to l.n)) l.self

abbrev pub invariant-loop-n-2 : goal.invariant-loop-n-2
invariant-loop-n-2 l = Tried l.question l.fn.self (each (λ n. from_first n) (up_to 65) ++ each (λ n. from_last n) (up_to l.n)) l.self
