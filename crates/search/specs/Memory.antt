-- A search in memory: 4 numbers that say how far it has come, eight frames of 11 numbers, and the numbers of the problem. Assumes nothing: these are definitions.
use Rattle.std.specs.Prelude.{ℕ, zero, suc, min, List, [], ◌∷◌, ◌++◌, take, drop, ◌==◌, slice_index}
use Rattle.rules.specs.Lists.{pick, flat}
use Rattle.rules.specs.Answers.{written}
use Rattle.rules.specs.Rules.{Rule}
use Rattle.candidates.specs.Problem.{View, view_of}
use Rattle.search.specs.Steps.{Held, held, held_steps}
use Rattle.search.specs.ByExamples.{rule_in}
use Rattle.search.specs.declared.frame.Frame.{Frame}
use Rattle.search.specs.declared.status.Status.{Status}
use Rattle.search.specs.declared.status.Status.TheVariants.{Going, Found, NoRule}

-- 92 numbers and those of the problem
abbrev pub memory_size : ℕ
memory_size = 109958

abbrev pub status_number : Status → ℕ
status_number Going = 0
status_number Found = 1
status_number NoRule = 2

abbrev pub status_from : ℕ → Status
status_from n = pick (n == 0) Going (pick (n == 1) Found NoRule)

-- the state, what is left and the next candidate
abbrev pub frame_numbers : Frame → List ℕ
frame_numbers f = f.state ++ (f.left ∷ f.index ∷ [])

abbrev pub frame_from : List ℕ → Frame
frame_from ns = record { state = take 9 ns; left = slice_index ns 9; index = slice_index ns 10 }

unfoldable pub frames_from : ℕ → List ℕ → List Frame
frames_from zero ns = []
frames_from (suc k) ns = frame_from ns ∷ frames_from k (drop 11 ns)

-- the machine that is in memory; numbers that no search leaves there are cut down to those that one can
unfoldable pub loaded : List ℕ → Held
loaded m = held (status_from (slice_index m 0)) (min (slice_index m 1) 33416) (min (slice_index m 2) 65536) (min (slice_index m 3) 8) (frames_from 8 (drop 4 m))

abbrev pub held_numbers : Held → List ℕ
held_numbers x = (status_number x.status ∷ x.budget ∷ x.short ∷ x.depth ∷ []) ++ flat frame_numbers x.frames

-- memory with the machine laid down
abbrev pub stored : Held → List ℕ → List ℕ
stored x m = written m 0 (held_numbers x)

-- the problem in memory
abbrev pub problem_in : List ℕ → View
problem_in m = view_of (take 109866 (drop 92 m))

-- the memory after so many steps
abbrev pub stepped_by : ℕ → List ℕ → List ℕ
stepped_by n m = stored (held_steps (problem_in m) n (loaded m)) m

-- the memory after a piece of the search: 64 steps
unfoldable pub advanced : List ℕ → List ℕ
advanced m = stepped_by 64 m

-- the memory after so many pieces
unfoldable pub advances : ℕ → List ℕ → List ℕ
advances zero m = m
advances (suc n) m = advanced (advances n m)

-- the rule that was found
abbrev pub rule_found : List ℕ → Rule
rule_found m = rule_in (problem_in m) (loaded m)
