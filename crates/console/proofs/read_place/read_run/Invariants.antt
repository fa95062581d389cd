use Rattle.std.proofs.Common.{◌≡◌, [], ◌∷◌, drop}
use Rattle.rules.specs.Lists.{each}
use Rattle.rules.specs.Values.{kind_number}
use Rattle.console.specs.Reading.{read_run}
use Rattle.console.proofs.read_place.read_run.Given as goal

-- the kinds that are left give what all give
abbrev pub invariant-loop-kind : goal.invariant-loop-kind
invariant-loop-kind l = read_run l.ends (each kind_number (drop l.kind-index l.kind-items)) l.text ≡ read_run l.ends (1 ∷ 2 ∷ 3 ∷ 4 ∷ 5 ∷ []) l.text
