-- What is promised of rows, candidates and the guide. Each is a statement; a function of src/promises.rt has it as its contract. Assumes nothing.
use Rattle.std.specs.Prelude.{◌≡◌, ℕ, ◌<◌, ◌≤◌, true, false, List, ◌∷◌, length}
use Rattle.rules.specs.Lists.{every, earlier}
use Rattle.rules.specs.Rules.{Part, Rule, a_part}
use Rattle.rules.specs.Order.{part_spelled}
use Rattle.rules.specs.Examples.{Example, does}
use Rattle.candidates.specs.Weights.{weight}
use Rattle.candidates.specs.Moves.{goes, leads, start}
use Rattle.candidates.specs.Rows.{Rows, GoodRows, small_examples}
use Rattle.candidates.specs.Places.{places_in}
use Rattle.candidates.specs.RowTable.{table_for, table_size, most_rows, rows_in, row_at, alike}
use Rattle.candidates.specs.Candidates.{count, candidate, StandsFor}
use Rattle.candidates.specs.Problem.{View, view_of, problem_size, greatest}
use Rattle.candidates.specs.LaidProblem.{laid_problem}
use Rattle.candidates.specs.Laid.{Laid}

-- no more places are tried than the table has rows
abbrev pub PlacesFew : Type 0
PlacesFew = (t : List ℕ) → length t ≤ 64 → length (places_in t) ≤ most_rows

-- the table that is laid down has, in strict order of spelling, a row for each valid place that is there in all given texts: with the same positions, no
-- dearer and, if as dear, not later; each row's place is valid and lies where the row says
abbrev pub RowsGood : Type 0
RowsGood =
    (e : Example) (es : List Example) (asked : List (List ℕ)) (ns : List ℕ) → small_examples (e ∷ es) ≡ true → length asked ≤ 1 → length ns ≡ table_size →
    GoodRows (e ∷ es) asked (rows_in (table_for (e ∷ es) asked ns).numbers (table_for (e ∷ es) asked ns).rows)

-- and no two rows lie alike
abbrev pub RowsApart : Type 0
RowsApart =
    (e : Example) (es : List Example) (asked : List (List ℕ)) (ns : List ℕ) → small_examples (e ∷ es) ≡ true → length ns ≡ table_size →
    (i j : ℕ) → i < j → j < (table_for (e ∷ es) asked ns).rows → alike (row_at (table_for (e ∷ es) asked ns).numbers i) (row_at (table_for (e ∷ es) asked ns).numbers j) ≡ false

-- a rule does the examples exactly if its parts lead from the start to the end
abbrev pub DoesLeads : Type 0
DoesLeads = (es : List Example) (q : Rule) → length es ≤ 8 → does es q ≡ leads es start q

-- candidates are parts there are
abbrev pub CandidatesValid : Type 0
CandidatesValid =
    (e : Example) (es : List Example) (asked : List (List ℕ)) (R : Rows) (s : List ℕ) (i : ℕ) → small_examples (e ∷ es) ≡ true → GoodRows (e ∷ es) asked R →
    i < count (e ∷ es) R s → a_part (candidate (e ∷ es) R s i) ≡ true

-- in strictly increasing order of spelling
abbrev pub CandidatesOrdered : Type 0
CandidatesOrdered =
    (es : List Example) (asked : List (List ℕ)) (R : Rows) (s : List ℕ) (i j : ℕ) → GoodRows es asked R → i < j → j < count es R s →
    earlier (part_spelled (candidate es R s i)) (part_spelled (candidate es R s j)) ≡ true

-- and for each valid part that goes at a state there is one with the same move that is lighter, or as light and not later
abbrev pub Exchange : Type 0
Exchange =
    (e : Example) (es : List Example) (asked : List (List ℕ)) (R : Rows) (s : List ℕ) (p : Part) → GoodRows (e ∷ es) asked R → a_part p ≡ true → goes (e ∷ es) p s ≡ true →
    (i : ℕ) × StandsFor (e ∷ es) R s p i

-- a problem that is laid down in memory holds its examples, good rows for them and a guide
abbrev pub ProblemLaid : Type 0
ProblemLaid =
    (e : Example) (es : List Example) (asked : List (List ℕ)) (ns : List ℕ) → small_examples (e ∷ es) ≡ true → length asked ≤ 1 → length ns ≡ problem_size →
    Laid (e ∷ es) asked (view_of (laid_problem (e ∷ es) asked ns))

-- and the guide is a lower bound: any parts, k at most, that lead from a state to the end weigh at least as much
abbrev pub GuideLower : Type 0
GuideLower =
    (e : Example) (es : List Example) (asked : List (List ℕ)) (v : View) → Laid (e ∷ es) asked v → (k : ℕ) (s : List ℕ) (q : Rule) → k ≤ 8 → length q ≤ k →
    every a_part q ≡ true → leads (e ∷ es) s q ≡ true → greatest v k v.examples s ≤ weight q
