-- The candidate parts at a state, in the order of their spelling: literals, then cuts by two rows. Assumes nothing: these are definitions.
use Rattle.std.specs.Prelude.{◌≡◌, ℕ, ◌+◌, ◌-◌, ◌*◌, ◌/◌, ◌%◌, ◌<◌, true, false, ◌⊎◌, List, [], ◌∷◌, length, take, drop, nat_lt, slice_index}
use Rattle.rules.specs.Lists.{pick, earlier}
use Rattle.rules.specs.Rules.{Part, bytes, cut}
use Rattle.rules.specs.Order.{part_spelled}
use Rattle.rules.specs.Examples.{Example}
use Rattle.candidates.specs.Weights.{part_weight}
use Rattle.candidates.specs.Moves.{goes, moved}
use Rattle.candidates.specs.Rows.{Rows}

abbrev pub first_wanted : List Example → List ℕ
first_wanted [] = []
first_wanted (e ∷ es) = e.wanted

-- how many bytes of the first wanted text are still to be made: so many literals can go on
abbrev pub literals : List Example → List ℕ → ℕ
literals es s = length (first_wanted es) - slice_index s 0

abbrev pub count : List Example → Rows → List ℕ → ℕ
count es R s = literals es s + R.count * R.count

-- the cut by two rows, which are numbered together
abbrev pub cut_by : Rows → ℕ → Part
cut_by R i = cut (R.place (i / R.count)) (R.place (i % R.count))

-- the next i + 1 bytes of the first wanted text; then the cuts
unfoldable pub candidate : List Example → Rows → List ℕ → ℕ → Part
candidate es R s i = pick (nat_lt i (literals es s)) (bytes (take (i + 1) (drop (slice_index s 0) (first_wanted es)))) (cut_by R (i - literals es s))

-- candidate i makes the same move as p, and is lighter, or as light and not later in spelling
pub record StandsFor (es : List Example) (R : Rows) (s : List ℕ) (p : Part) (i : ℕ) : Type 0 where
  pub below : i < count es R s
  pub goes_too : goes es (candidate es R s i) s ≡ true
  pub same_move : moved es (candidate es R s i) s ≡ moved es p s
  pub no_later : (part_weight (candidate es R s i) < part_weight p) ⊎ ((part_weight (candidate es R s i) ≡ part_weight p) × (earlier (part_spelled p) (part_spelled (candidate es R s i)) ≡ false))
