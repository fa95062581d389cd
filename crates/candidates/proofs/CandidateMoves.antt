-- Whether a candidate goes on in one example, and how far: a literal by the bytes that stand next in the first wanted text and in this one, a cut by where its rows lie.
use Rattle.std.proofs.Common.{◌≡◌, ℕ, ◌+◌, ◌-◌, ◌*◌, ◌/◌, ◌%◌, ◌<◌, ◌&&◌, leb, List, length, take, drop, ap, ◌∙◌}
use Rattle.rules.specs.Lists.{same}
use Rattle.rules.specs.Rules.{bytes, cut, part_of}
use Rattle.rules.specs.Promises.{made_length}
use Rattle.rules.specs.Examples.{Example}
use Rattle.candidates.specs.Moves.{goes_on}
use Rattle.candidates.specs.Rows.{Rows, GoodRows, given_of, wanted_of, example_at}
use Rattle.candidates.specs.Candidates.{cut_by}
use Rattle.candidates.proofs.CandidatesValid.{next_length, rows_below}
use Rattle.candidates.proofs.MovesByRows.{goes_on_bytes, bytes_length, cut_length, goes_on_cut}

-- the next n bytes of a text
abbrev next : List ℕ → ℕ → ℕ → List ℕ
next w j n = take n (drop j w)

pub goes_on_literal :
    (e : Example) (w : List ℕ) (k j i : ℕ) → i < length w - k →
    goes_on e (bytes (take (i + 1) (drop k w))) j ≡ same (take (i + 1) (drop k w)) (take (i + 1) (drop j e.wanted))
goes_on_literal e w k j i h =
    goes_on_bytes e (next w k (i + 1)) j ∙ ap (λ n. same (next w k (i + 1)) (take n (drop j e.wanted))) (next_length w k i h)

pub literal_length : (t w : List ℕ) (k i : ℕ) → i < length w - k → made_length (part_of t (bytes (take (i + 1) (drop k w)))) ≡ i + 1
literal_length t w k i h = bytes_length t (next w k (i + 1)) ∙ next_length w k i h

pub goes_on_rows :
    (es : List Example) (asked : List (List ℕ)) (R : Rows) (a b e j : ℕ) → GoodRows es asked R → a < R.count → b < R.count → e < length es →
    goes_on (example_at es e) (cut (R.place a) (R.place b)) j
    ≡ (leb (R.at a e) (R.at b e)
    && same (take (R.at b e - R.at a e) (drop (R.at a e) (given_of es e))) (take (R.at b e - R.at a e) (drop j (wanted_of es e))))
goes_on_rows es asked R a b e j g h k l = goes_on_cut (example_at es e) (R.place a) (R.place b) j (R.at a e) (R.at b e) (g.lies a e h l) (g.lies b e k l)

pub rows_length :
    (es : List Example) (asked : List (List ℕ)) (R : Rows) (a b e : ℕ) → GoodRows es asked R → a < R.count → b < R.count → e < length es →
    made_length (part_of (given_of es e) (cut (R.place a) (R.place b))) ≡ R.at b e - R.at a e
rows_length es asked R a b e g h k l = cut_length (given_of es e) (R.place a) (R.place b) (R.at a e) (R.at b e) (g.lies a e h l) (g.lies b e k l)

-- the same for rows that are numbered together
pub goes_on_cut_by :
    (es : List Example) (asked : List (List ℕ)) (R : Rows) (i e j : ℕ) → GoodRows es asked R → i < R.count * R.count → e < length es →
    goes_on (example_at es e) (cut_by R i) j
    ≡ (leb (R.at (i / R.count) e) (R.at (i % R.count) e)
    && same (take (R.at (i % R.count) e - R.at (i / R.count) e) (drop (R.at (i / R.count) e) (given_of es e))) (take (R.at (i % R.count) e - R.at (i / R.count) e) (drop j (wanted_of es e))))
goes_on_cut_by es asked R i e j g h l = let b = rows_below R.count i h in goes_on_rows es asked R (i / R.count) (i % R.count) e j g b.0 b.1 l

pub cut_by_length :
    (es : List Example) (asked : List (List ℕ)) (R : Rows) (i e : ℕ) → GoodRows es asked R → i < R.count * R.count → e < length es →
    made_length (part_of (given_of es e) (cut_by R i)) ≡ R.at (i % R.count) e - R.at (i / R.count) e
cut_by_length es asked R i e g h l = let b = rows_below R.count i h in rows_length es asked R (i / R.count) (i % R.count) e g b.0 b.1 l
