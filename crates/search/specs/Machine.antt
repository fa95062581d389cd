-- The search in small steps, as a program carries it out. Assumes nothing: these are definitions.
use Rattle.std.specs.Prelude.{ℕ, zero, suc, ◌+◌, ◌-◌, List, [], ◌∷◌, ◌++◌, length, ◌==◌, nat_le}
use Rattle.rules.specs.Lists.{pick}
use Rattle.rules.specs.Rules.{Rule}
pub use Rattle.candidates.specs.Weights.{far}
use Rattle.search.specs.Automaton.{Guided}
use Rattle.search.specs.Round.{Look, over, ends, enters, look}

-- a state on the way, how much of the budget is left there, and which candidate to look at next
pub record Frame (S : Type 0) : Type 0 where
  pub state : S
  pub left : ℕ
  pub index : ℕ

pub data Status : Type 0 where
  going : Status
  found_it : Status
  there_is_none : Status

-- the budget of the round, the shortfall noted in it so far, and the frames, the last entered first
pub record Machine (S : Type 0) : Type 0 where
  pub status : Status
  pub budget : ℕ
  pub short : ℕ
  pub frames : List (Frame S)

-- no rule weighs more: eight parts, each 64 bytes
abbrev pub limit : ℕ
limit = 33416

abbrev pub machine : {S : Type 0} → Status → (budget short : ℕ) → List (Frame S) → Machine S
machine st b n fs = record { status = st; budget = b; short = n; frames = fs }

abbrev pub entered : {S : Type 0} → S → ℕ → Frame S
entered s left = record { state = s; left = left; index = 0 }

-- the frame after a look at its candidate
abbrev pub moved : {S : Type 0} → Frame S → Frame S
moved f = record { state = f.state; left = f.left; index = f.index + 1 }

-- a round that begins
abbrev pub fresh : {S : Type 0} → Guided S → ℕ → Machine S
fresh g b = machine going b far (entered g.automaton.start b ∷ [])

abbrev pub next_round : {S : Type 0} → Guided S → ℕ → Machine S
next_round g b = pick (nat_le b limit) (fresh g b) (machine there_is_none 0 0 [])

abbrev pub begun : {S : Type 0} → Guided S → Machine S
begun g = pick (g.automaton.accepts g.automaton.start) (machine found_it 0 0 []) (next_round g (g.guide 8 g.automaton.start))

-- how many parts there may be after that of a frame, by the frames under it
abbrev pub parts_after : {S : Type 0} → List (Frame S) → ℕ
parts_after fs = 7 - length fs

-- the frame and those under it, with one more for the state that is entered, unless that were too many
abbrev pub deeper : {S : Type 0} → (k : ℕ) → S → ℕ → List (Frame S) → List (Frame S)
deeper k t l fs = pick (k == 0) fs (entered t l ∷ fs)

-- what comes of a look at the candidate of the frame f
abbrev pub looked : {S : Type 0} → (k budget n : ℕ) → Frame S → List (Frame S) → Look S → Machine S
looked k b n f fs (over m) = machine going b m (moved f ∷ fs)
looked k b n f fs ends = machine found_it b n (moved f ∷ fs)
looked k b n f fs (enters t l) = machine going b n (deeper k t l (moved f ∷ fs))

-- a step of a machine that is going on: a next round, or a frame whose candidates are all done is left, or a look
unfoldable pub stepped : {S : Type 0} → Guided S → (budget n : ℕ) → List (Frame S) → Machine S
stepped g b n [] = next_round g (b + n)
stepped g b n (f ∷ fs) =
    pick (nat_le (g.count f.state) f.index) (machine going b n fs) (looked (parts_after fs) b n f fs (look g (parts_after fs) f.state f.left f.index n))

-- a step; one that has ended stays as it is
abbrev pub micro_at : {S : Type 0} → Guided S → Machine S → Status → Machine S
micro_at g x going = stepped g x.budget x.short x.frames
micro_at g x found_it = x
micro_at g x there_is_none = x

unfoldable pub micro : {S : Type 0} → Guided S → Machine S → Machine S
micro g x = micro_at g x x.status

unfoldable pub runs : {S : Type 0} → ℕ → Guided S → Machine S → Machine S
runs zero g x = x
runs (suc n) g x = runs n g (micro g x)

-- the rule that the frames of a machine that has found it stand for
unfoldable pub chosen : {S : Type 0} → Guided S → List (Frame S) → Rule
chosen g [] = []
chosen g (f ∷ fs) = chosen g fs ++ g.candidate f.state (f.index - 1) ∷ []
