use Rattle.std.proofs.Common.{◌≡◌}
use Rattle.candidates.specs.Viewed.{the_view}
use Rattle.search.specs.Steps.{held_steps}
use Rattle.search.specs.Holds.{the_held}
use Rattle.search.proofs.machine.Machine.run.Given as goal

abbrev pub invariant-loop : goal.invariant-loop
invariant-loop l = the_held l.self ≡ held_steps (the_view l.problem) l.counter (the_held l.initial.self)
