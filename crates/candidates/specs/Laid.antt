-- What a search for some examples needs of a view. Assumes nothing: these are definitions.
use Rattle.std.specs.Prelude.{◌≡◌, ℕ, ◌<◌, ◌≤◌, true, List, length, slice_index}
use Rattle.rules.specs.Lists.{every}
use Rattle.rules.specs.Rules.{Rule, place_cost, a_part}
use Rattle.rules.specs.Examples.{Example}
use Rattle.candidates.specs.Weights.{weight}
use Rattle.candidates.specs.Moves.{leads}
use Rattle.candidates.specs.Rows.{given_of, wanted_of, Rows, GoodRows}
use Rattle.candidates.specs.RowTable.{rows_in, place_in}
use Rattle.candidates.specs.Problem.{View, given_in, wanted_in, row_cost, guide_in}

-- the rows that a view holds
abbrev pub rows_of : View → Rows
rows_of v = rows_in v.table v.rows

-- a view holds the examples, good rows for them with what they cost, and a guide that is a lower bound
pub record Laid (es : List Example) (asked : List (List ℕ)) (v : View) : Type 0 where
  pub examples : v.examples ≡ length es
  pub given : (e : ℕ) → e < length es → given_in v e ≡ given_of es e
  pub wanted : (e : ℕ) → e < length es → wanted_in v e ≡ wanted_of es e
  pub good : GoodRows es asked (rows_of v)
  pub costs : (i : ℕ) → i < v.rows → row_cost v i ≡ place_cost (place_in v.table i)
  pub lower : (k e : ℕ) (s : List ℕ) (q : Rule) → e < length es → k ≤ 8 → length q ≤ k → every a_part q ≡ true → leads es s q ≡ true → guide_in v k e (slice_index s e) ≤ weight q
