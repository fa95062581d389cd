-- What a look at a candidate answers. Assumes nothing: these are definitions.
use Rattle.std.specs.Prelude.{ℕ, ◌+◌, ◌*◌, ◌<◌, ◌≤◌, List, length, Some, None, Option}
use Rattle.rules.specs.Lists.{pick}
use Rattle.rules.specs.Rules.{Made, nothing, made}
use Rattle.candidates.specs.Problem.{View, piece_goes, cut_piece, cut_weighs, all_go, all_moved, candidate_piece, candidate_weight}
use Rattle.candidates.specs.declared.candidate.Candidate.{Candidate}
use Rattle.candidates.specs.declared.candidate.Candidate.TheVariants.{Literal, Cut}
use Rattle.candidates.specs.declared.look.Move.{Move}

-- behind the piece, if it stands next
abbrev pub next_position : List ℕ → List ℕ → ℕ → Option ℕ
next_position b w j = pick (piece_goes (made b) w j) (Some (j + length b)) None

-- the same of a piece or nothing
unfoldable pub next_by : Made → List ℕ → ℕ → Option ℕ
next_by nothing w j = None
next_by (made b) w j = next_position b w j

-- what a candidate makes of each example
abbrev pub pieces : View → Candidate → ℕ → Made
pieces v (Literal b) e = made b.now
pieces v (Cut from to) e = cut_piece v from to e

-- and what it weighs
abbrev pub weighs : View → Candidate → ℕ
weighs v (Literal b) = 16 * (5 + 4 * length b.now) + 1
weighs v (Cut from to) = cut_weighs v from to

-- it has up to 64 bytes, or its rows are within the table
abbrev pub Within : Candidate → Type 0
Within (Literal b) = length b.now ≤ 64
Within (Cut from to) = (from < 6500) × (to < 6500)

-- where pieces lead from a state, if they go in every example
abbrev pub moved_by : View → (ℕ → Made) → List ℕ → Option (List ℕ)
moved_by v piece s = pick (all_go v piece v.examples s) (Some (all_moved piece v.examples s)) None

-- where candidate i leads from a state, if it goes
abbrev pub looked : View → List ℕ → ℕ → Option Move
looked v s i =
    pick (all_go v (candidate_piece v s i) v.examples s)
    (Some (record { state = all_moved (candidate_piece v s i) v.examples s; weight = candidate_weight v s i })) None

-- a candidate weighs less than 16,384
abbrev pub Light : Option Move → Type 0
Light None = Unit {0}
Light (Some m) = m.weight < 16384
