-- The search for a rule that does some examples: their automaton, and what the search goes by in memory. Assumes nothing: these are definitions.
use Rattle.std.specs.Prelude.{ℕ, zero, suc, ◌+◌, ◌-◌, ◌/◌, ◌%◌, List, [], ◌∷◌, ◌++◌, take, drop, nat_lt, slice_index, slice_index_or}
use Rattle.rules.specs.Lists.{pick}
use Rattle.rules.specs.Rules.{Part, bytes, cut, Rule}
use Rattle.rules.specs.Examples.{Example}
use Rattle.candidates.specs.Moves as moves
use Rattle.candidates.specs.Candidates as candidates
use Rattle.candidates.specs.Problem.{View, wanted_in, literals_in, greatest, all_at_end}
use Rattle.candidates.specs.RowTable.{place_in}
use Rattle.candidates.specs.Laid.{rows_of}
use Rattle.search.specs.Automaton.{Automaton, Guided}
use Rattle.search.specs.Machine as machines
use Rattle.search.specs.Steps.{Held, held, no_frame, round_with}
use Rattle.search.specs.declared.frame.Frame.{Frame}
use Rattle.search.specs.declared.status.Status.{Status}
use Rattle.search.specs.declared.status.Status.TheVariants.{Going, Found, NoRule}

-- a state is how far each wanted text has been made; a part moves it on; all are at their end where it accepts
abbrev pub automaton_of : List Example → Automaton (List ℕ)
automaton_of es = record { start = moves.start; goes = moves.goes es; after = moves.moved es; accepts = moves.at_end es }

abbrev pub guided_by : List Example → View → Guided (List ℕ)
guided_by es v = record {
  automaton = automaton_of es;
  count = candidates.count es (rows_of v);
  candidate = candidates.candidate es (rows_of v);
  guide = λ k s. greatest v k v.examples s;
}

-- A machine that a program holds is one over any automaton: its frames in use, the last first.
abbrev pub frame_of : Frame → machines.Frame (List ℕ)
frame_of f = record { state = f.state; left = f.left; index = f.index }

unfoldable pub stack_of : ℕ → List Frame → List (machines.Frame (List ℕ))
stack_of zero fs = []
stack_of (suc d) fs = frame_of (slice_index_or fs d no_frame) ∷ stack_of d fs

abbrev pub status_of : Status → machines.Status
status_of Going = machines.going
status_of Found = machines.found_it
status_of NoRule = machines.there_is_none

abbrev pub machine_of : Held → machines.Machine (List ℕ)
machine_of x = machines.machine (status_of x.status) x.budget x.short (stack_of x.depth x.frames)

-- a search that begins: over at once if nothing is wanted, else in the first round
abbrev pub held_begun : View → List Frame → Held
held_begun v fs = pick (all_at_end v v.examples moves.start) (held Found 0 0 0 fs) (round_with (greatest v 8 v.examples moves.start) fs)

-- THE RULE THAT WAS FOUND
-- candidate i at a state, as the memory has it
abbrev pub part_in : View → List ℕ → ℕ → Part
part_in v s i =
    pick (nat_lt i (literals_in v s)) (bytes (take (i + 1) (drop (slice_index s 0) (wanted_in v 0))))
    (cut (place_in v.table ((i - literals_in v s) / v.rows)) (place_in v.table ((i - literals_in v s) % v.rows)))

-- the part that a frame has chosen: the candidate that was looked at last
abbrev pub part_of_frame : View → Frame → Part
part_of_frame v f = part_in v f.state (f.index - 1)

unfoldable pub parts_in : View → ℕ → List Frame → Rule
parts_in v zero fs = []
parts_in v (suc d) fs = parts_in v d fs ++ part_of_frame v (slice_index_or fs d no_frame) ∷ []

abbrev pub rule_in : View → Held → Rule
rule_in v x = parts_in v x.depth x.frames
