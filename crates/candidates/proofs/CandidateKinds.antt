-- The first candidates are literals, and behind them are the cuts by two rows.
use Rattle.std.proofs.Common.{◌≡◌, ℕ, ◌+◌, ◌-◌, ◌*◌, ◌<◌, ◌≤◌, List, get_or, take, drop, refl}
use Rattle.std.proofs.lemmas.Nat.{div-mul-add, mod-mul-add}
use Rattle.std.proofs.lemmas.Bool.{lt-ltb, le-ltb}
use Rattle.rules.specs.Rules.{bytes, cut}
use Rattle.rules.specs.Examples.{Example}
use Rattle.candidates.specs.Rows.{Rows}
use Rattle.candidates.specs.Candidates.{first_wanted, literals, cut_by, candidate}

pub candidate_literal : (es : List Example) (R : Rows) (s : List ℕ) (i : ℕ) → i < literals es s → candidate es R s i ≡ bytes (take (i + 1) (drop (get_or s 0 0) (first_wanted es)))
unfolding candidate
candidate_literal es R s i h = rw (lt-ltb i (literals es s) h) refl

pub candidate_cut : (es : List Example) (R : Rows) (s : List ℕ) (i : ℕ) → literals es s ≤ i → candidate es R s i ≡ cut_by R (i - literals es s)
unfolding candidate
candidate_cut es R s i h = rw (le-ltb i (literals es s) h) refl

-- the cut by rows a and b
pub cut_by_rows : (R : Rows) (a b : ℕ) → b < R.count → cut_by R (a * R.count + b) ≡ cut (R.place a) (R.place b)
cut_by_rows R a b h = rw (div-mul-add a R.count b h, mod-mul-add a R.count b h) refl
