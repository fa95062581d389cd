-- How the rule that a search has found is spelled, by what lies in memory. Assumes nothing: these are definitions.
use Rattle.std.specs.Prelude.{ℕ, zero, suc, ◌-◌, List, [], ◌∷◌, ◌++◌, slice_index_or}
use Rattle.candidates.specs.Problem.{View}
use Rattle.candidates.specs.Spelled.{candidate_spelled}
use Rattle.search.specs.Steps.{Held, no_frame}
use Rattle.search.specs.declared.frame.Frame.{Frame}

-- the part that a frame has chosen: the candidate that was looked at last
abbrev pub frame_spelled : View → Frame → List ℕ
frame_spelled v f = candidate_spelled v f.state (f.index - 1)

-- the parts of the first d frames
unfoldable pub frames_spelled : View → ℕ → List Frame → List ℕ
frames_spelled v zero fs = []
frames_spelled v (suc d) fs = frames_spelled v d fs ++ frame_spelled v (slice_index_or fs d no_frame)

-- the number of parts, and then the parts
abbrev pub spelled_in : View → Held → List ℕ
spelled_in v x = x.depth ∷ frames_spelled v x.depth x.frames
