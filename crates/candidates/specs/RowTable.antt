-- A table of rows in memory: how a row is laid down, and how the table is filled. Assumes nothing: these are definitions.
use Rattle.std.specs.Prelude.{ℕ, zero, suc, ◌+◌, ◌-◌, ◌*◌, Bool, List, [], ◌∷◌, ◌++◌, take, drop, ◌==◌, nat_lt, slice_index}
use Rattle.rules.specs.Lists.{pick, same}
use Rattle.rules.specs.Places.{Place, from_first, from_last, nth_of}
use Rattle.rules.specs.Rules.{place_cost}
use Rattle.rules.specs.Order.{flag}
use Rattle.rules.specs.Examples.{Example}
use Rattle.candidates.specs.Positions.{position, positions_in}
use Rattle.candidates.specs.Rows.{Rows, lies_in_all}
use Rattle.candidates.specs.Places.{places_in}

-- A row has 16 numbers: the place in five (0 first, 1 last or 2 nth; the kinds before and behind; n; 1 if it is counted from the end), its cost, where it
-- lies in the eight given texts, where it lies in the text that is asked about, and 0.
unfoldable pub place_numbers : Place → List ℕ
place_numbers (from_first n) = 0 ∷ 0 ∷ 0 ∷ n ∷ 0 ∷ []
place_numbers (from_last n) = 1 ∷ 0 ∷ 0 ∷ n ∷ 0 ∷ []
place_numbers (nth_of l r n back) = 2 ∷ l ∷ r ∷ n ∷ flag back ∷ []

-- where the place lies in the text that is asked about, if there is one, else 0
abbrev pub asked_position : List (List ℕ) → Place → ℕ
asked_position [] p = 0
asked_position (t ∷ ts) p = position t p

abbrev pub row_of : List Example → List (List ℕ) → Place → List ℕ
row_of es asked p = place_numbers p ++ (place_cost p ∷ (positions_in es 8 p ++ (asked_position asked p ∷ 0 ∷ [])))

-- as many rows as there can be, and their numbers
abbrev pub most_rows : ℕ
most_rows = 6500

abbrev pub table_size : ℕ
table_size = 104000

-- number f of row i
abbrev pub row_number : List ℕ → ℕ → ℕ → ℕ
row_number t i f = slice_index t (16 * i + f)

-- row i
abbrev pub row_at : List ℕ → ℕ → List ℕ
row_at t i = take 16 (drop (16 * i) t)

-- t with row i replaced
abbrev pub with_row : List ℕ → ℕ → List ℕ → List ℕ
with_row t i x = take (16 * i) t ++ (x ++ drop (16 * i + 16) t)

-- two rows lie alike
abbrev pub alike : List ℕ → List ℕ → Bool
alike x y = same (drop 6 x) (drop 6 y)

-- the first of m rows from i on that lies like x, or the one behind them
unfoldable pub alike_at : List ℕ → List ℕ → ℕ → ℕ → ℕ
alike_at t x i zero = i
alike_at t x i (suc m) = pick (alike (row_at t i) x) i (alike_at t x (i + 1) m)

-- m rows from i + 1 on, each moved down by one
unfoldable pub moved_down : List ℕ → ℕ → ℕ → List ℕ
moved_down t i zero = t
moved_down t i (suc m) = moved_down (with_row t i (row_at t (i + 1))) (i + 1) m

-- a table: its numbers, and how many rows it has
pub record Table : Type 0 where
  pub numbers : List ℕ
  pub rows : ℕ

-- row i is taken out, and x put behind the others
abbrev pub in_place_of : Table → ℕ → List ℕ → Table
in_place_of t i x = record { numbers = with_row (moved_down t.numbers i (t.rows - (i + 1))) (t.rows - 1) x; rows = t.rows }

-- x put behind the others, if there is room
abbrev pub pushed : Table → List ℕ → Table
pushed t x = pick (nat_lt t.rows most_rows) (record { numbers = with_row t.numbers t.rows x; rows = t.rows + 1 }) t

-- x added, where i is the first row that lies like it: in place of that row if x is cheaper; not at all if not; behind the others if there is none
abbrev pub added_at : Table → List ℕ → ℕ → Table
added_at t x i = pick (nat_lt i t.rows) (pick (nat_lt (slice_index x 5) (row_number t.numbers i 5)) (in_place_of t i x) t) (pushed t x)

unfoldable pub added : Table → List ℕ → Table
added t x = added_at t x (alike_at t.numbers x 0 t.rows)

-- a place tried: added if it is there in every given text
unfoldable pub tried : List Example → List (List ℕ) → Table → Place → Table
tried es asked t p = pick (lies_in_all es p) (added t (row_of es asked p)) t

unfoldable pub all_tried : List Example → List (List ℕ) → Table → List Place → Table
all_tried es asked t [] = t
all_tried es asked t (p ∷ ps) = all_tried es asked (tried es asked t p) ps

abbrev pub first_given : List Example → List ℕ
first_given [] = []
first_given (e ∷ es) = e.given

-- the table for some examples, laid down over some numbers: the places that are there in the first given text, tried in the order of their spelling
unfoldable pub table_for : List Example → List (List ℕ) → List ℕ → Table
table_for es asked ns = all_tried es asked (record { numbers = ns; rows = 0 }) (places_in (first_given es))

-- the place that five numbers say
unfoldable pub place_from : ℕ → ℕ → ℕ → ℕ → ℕ → Place
place_from tag l r n b = pick (tag == 0) (from_first n) (pick (tag == 1) (from_last n) (nth_of l r n (b == 1)))

-- the five numbers that say the place of row i
abbrev pub place_says : List ℕ → ℕ → List ℕ
place_says t i = row_number t i 0 ∷ row_number t i 1 ∷ row_number t i 2 ∷ row_number t i 3 ∷ row_number t i 4 ∷ []

abbrev pub place_in : List ℕ → ℕ → Place
place_in t i = place_from (row_number t i 0) (row_number t i 1) (row_number t i 2) (row_number t i 3) (row_number t i 4)

-- the rows that numbers hold
abbrev pub rows_in : List ℕ → ℕ → Rows
rows_in t n = record { count = n; place = λ i. place_in t i; at = λ i e. row_number t i (6 + e) }
