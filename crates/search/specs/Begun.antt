-- What it leaves in memory to begin a search. Assumes nothing: these are definitions.
use Rattle.std.specs.Prelude.{ℕ, List, [], take, drop, Some, None, Ok, Err, Option, Result}
use Rattle.rules.specs.Answers.{written}
use Rattle.rules.specs.Examples.{Example}
use Rattle.candidates.specs.LaidProblem.{laid_problem}
use Rattle.search.specs.ByExamples.{held_begun}
use Rattle.search.specs.Memory.{loaded, stored, problem_in}
use Rattle.search.specs.declared.refusal.Refusal.{Refusal}

-- the problem of the examples is laid down
abbrev pub with_problem : List Example → List ℕ → List ℕ
with_problem es m = written m 92 (laid_problem es [] (take 109866 (drop 92 m)))

-- and the machine begins
abbrev pub machine_begun : List ℕ → List ℕ
machine_begun m = stored (held_begun (problem_in m) (loaded m).frames) m

unfoldable pub begun_in : List Example → List ℕ → List ℕ
begun_in es m = machine_begun (with_problem es m)

-- what is told, and what is left: if the examples are refused, the memory as it was
abbrev pub told_by : Option Refusal → Result (Unit {0}) Refusal
told_by None = Ok tt
told_by (Some r) = Err r

abbrev pub left_by : Option Refusal → List ℕ → List ℕ → List ℕ
left_by None begun m = begun
left_by (Some r) begun m = m
