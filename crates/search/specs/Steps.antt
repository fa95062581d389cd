-- A step of a search over a problem in memory. Assumes nothing: these are definitions.
use Rattle.std.specs.Prelude.{ℕ, zero, suc, ◌+◌, ◌-◌, ◌≤◌, min, List, [], Some, None, Option, nat_le, nat_lt, slice_index_or, slice_set}
use Rattle.rules.specs.Lists.{pick}
use Rattle.candidates.specs.Weights.{far}
use Rattle.candidates.specs.Problem.{View, count_in, all_at_end, greatest}
use Rattle.candidates.specs.Looked.{looked}
use Rattle.candidates.specs.Moves.{start}
use Rattle.candidates.specs.declared.look.Move.{Move}
use Rattle.search.specs.Round.{Look, over, ends, enters}
use Rattle.search.specs.Machine.{limit}
use Rattle.search.specs.declared.frame.Frame.{Frame}
use Rattle.search.specs.declared.status.Status.{Status}
use Rattle.search.specs.declared.status.Status.TheVariants.{Going, Found, NoRule}
use Rattle.search.specs.declared.judge.Outcome.{Outcome}
use Rattle.search.specs.declared.judge.Outcome.TheVariants.{Over, Ends, Enters}

abbrev pub the_look : Outcome → Look (List ℕ)
the_look (Over n) = over n
the_look Ends = ends
the_look (Enters s l) = enters s l

-- the shortfall that is noted is no more than before
abbrev pub Near : Outcome → ℕ → Type 0
Near (Over n) m = n ≤ m
Near Ends m = Unit {0}
Near (Enters s l) m = Unit {0}

-- what a move needs at least, with k parts behind it
abbrev pub need_in : View → Move → ℕ → ℕ
need_in v m k = m.weight + greatest v k v.examples m.state

-- what comes of a move, with k parts at most behind it, so much left of the budget and the shortfall n noted so far
abbrev pub weigh_in : View → Move → ℕ → ℕ → ℕ → Look (List ℕ)
weigh_in v m k left n =
    pick (nat_le (need_in v m k) left) (pick (all_at_end v v.examples m.state) ends (enters m.state (left - m.weight))) (over (min n (need_in v m k - left)))

abbrev pub look_of : View → ℕ → ℕ → ℕ → Option Move → Look (List ℕ)
look_of v k left n None = over n
look_of v k left n (Some m) = weigh_in v m k left n

-- what comes of a look at the next candidate of a frame
abbrev pub look_in : View → Frame → ℕ → ℕ → Look (List ℕ)
look_in v f k n = look_of v k f.left n (looked v f.state f.index)

-- A machine that a program holds: eight frames, of which the first `depth` are in use.
pub record Held : Type 0 where
  pub status : Status
  pub budget : ℕ
  pub short : ℕ
  pub depth : ℕ
  pub frames : List Frame

abbrev pub held : Status → (budget short depth : ℕ) → List Frame → Held
held st b n d fs = record { status = st; budget = b; short = n; depth = d; frames = fs }

abbrev pub entered_at : List ℕ → ℕ → Frame
entered_at s left = record { state = s; left = left; index = 0 }

abbrev pub moved_on : Frame → Frame
moved_on f = record { state = f.state; left = f.left; index = f.index + 1 }

-- a frame to read where there is none
abbrev pub no_frame : Frame
no_frame = entered_at [] 0

-- a round with this budget, or the end if no rule weighs as much
abbrev pub round_with : ℕ → List Frame → Held
round_with b fs = pick (nat_le b limit) (held Going b far 1 (slice_set fs 0 (entered_at start b))) (held NoRule 0 0 0 fs)

-- the frames after a look at frame d, with one more for the state that is entered, if there may be more parts
abbrev pub after_look : (budget n d : ℕ) → List Frame → Look (List ℕ) → Held
after_look b n d fs (over m) = held Going b m (d + 1) fs
after_look b n d fs ends = held Found b n (d + 1) fs
after_look b n d fs (enters s l) = pick (nat_lt d 7) (held Going b n (d + 2) (slice_set fs (d + 1) (entered_at s l))) (held Going b n (d + 1) fs)

-- a look at the next candidate of frame d, the last in use, or back to the one before it
abbrev pub frame_step : View → (budget n d : ℕ) → List Frame → Frame → Held
frame_step v b n d fs f =
    pick (nat_le (count_in v f.state) f.index) (held Going b n d fs) (after_look b n d (slice_set fs d (moved_on f)) (look_in v f (7 - d) n))

unfoldable pub going_step : View → (budget n d : ℕ) → List Frame → Held
going_step v b n zero fs = round_with (b + n) fs
going_step v b n (suc d) fs = frame_step v b n d fs (slice_index_or fs d no_frame)

-- a step; a machine that has ended stays as it is
abbrev pub step_of : View → Held → Status → Held
step_of v x Going = going_step v x.budget x.short x.depth x.frames
step_of v x Found = x
step_of v x NoRule = x

unfoldable pub held_step : View → Held → Held
held_step v x = step_of v x x.status

unfoldable pub held_steps : View → ℕ → Held → Held
held_steps v zero x = x
held_steps v (suc n) x = held_step v (held_steps v n x)
