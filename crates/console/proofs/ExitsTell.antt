-- What the exit of a `?` tells: that the reading failed, or that there is no memory.
use Rattle.std.proofs.Common.{ℕ, List, ap}
use Rattle.console.specs.declared.failed.Stopped.{Stopped}
use Rattle.console.specs.declared.failed.Stopped.TheVariants.{Failed as At, Memory}
use Rattle.console.specs.Reading.{Read, next}
use Rattle.console.specs.Told.{Stops}

-- a failure is handed on
pub stops_next : {A B : Type 0} (x : Read A) (f : A → List ℕ → Read B) (s : Stopped) → Stops x s → Stops (next x f) s
stops_next x f (At e) h = ap (λ y. next y f) h
stops_next x f Memory h = tt
