-- A problem in memory: some examples, the rows of their places and the guide; and what a look at a candidate says. Assumes nothing: these are definitions.
use Rattle.std.specs.Prelude.{ℕ, zero, suc, ◌+◌, ◌-◌, ◌*◌, ◌/◌, ◌%◌, min, max, Bool, true, false, ◌&&◌, List, length, take, drop, ◌==◌, nat_le, nat_lt, slice_index, slice_range, slice_set}
use Rattle.rules.specs.Lists.{pick, same}
use Rattle.rules.specs.Rules.{Made, nothing, made}
use Rattle.rules.specs.Promises.{made_length}
use Rattle.candidates.specs.RowTable.{row_number}

-- The numbers of a problem: 16 of which the first is how many examples there are and the second how many rows; 9 texts given and wanted, 130 for each, of
-- which the ninth is kept for the text that is asked about; the guide, 585 for each of 8 examples; the table of rows.
pub record View : Type 0 where
  pub examples : ℕ
  pub rows : ℕ
  pub texts : List ℕ
  pub guide : List ℕ
  pub table : List ℕ

abbrev pub problem_size : ℕ
problem_size = 109866

abbrev pub view_of : List ℕ → View
view_of t = record { examples = min (slice_index t 0) 8; rows = min (slice_index t 1) 6500; texts = take 1170 (drop 16 t); guide = take 4680 (drop 1186 t); table = take 104000 (drop 5866 t) }

-- An example has 130 numbers: the lengths of the given and the wanted text, and 64 bytes for each.
abbrev pub given_in : View → ℕ → List ℕ
given_in v e = take (min (slice_index v.texts (130 * e)) 64) (drop (130 * e + 2) v.texts)

abbrev pub wanted_in : View → ℕ → List ℕ
wanted_in v e = take (min (slice_index v.texts (130 * e + 1)) 64) (drop (130 * e + 66) v.texts)

-- MOVES
-- the piece stands next in the text, from position j on, and there is room for it
unfoldable pub piece_goes : Made → List ℕ → ℕ → Bool
piece_goes nothing w j = false
piece_goes (made b) w j = nat_le (j + length b) (length w) && same b (take (length b) (drop j w))

-- the pieces of the first m examples stand next in their wanted texts
unfoldable pub all_go : View → (ℕ → Made) → ℕ → List ℕ → Bool
all_go v piece zero s = true
all_go v piece (suc m) s = all_go v piece m s && piece_goes (piece m) (wanted_in v m) (slice_index s m)

-- the positions of the first m examples moved on behind their pieces
unfoldable pub all_moved : (ℕ → Made) → ℕ → List ℕ → List ℕ
all_moved piece zero s = s
all_moved piece (suc m) s = slice_set (all_moved piece m s) m (slice_index s m + made_length (piece m))

-- the text from a to b, if it has both positions in this order
abbrev pub middle_in : List ℕ → ℕ → ℕ → Made
middle_in t a b = pick (nat_le a b && nat_le b (length t)) (made (slice_range t a b)) nothing

-- what a literal of n bytes makes of each example: the next of the first wanted text
abbrev pub literal_piece : View → List ℕ → ℕ → ℕ → Made
literal_piece v s n e = made (take n (drop (slice_index s 0) (wanted_in v 0)))

-- what the cut by rows i and k makes of example e
abbrev pub cut_piece : View → ℕ → ℕ → ℕ → Made
cut_piece v i k e = middle_in (given_in v e) (row_number v.table i (6 + e)) (row_number v.table k (6 + e))

-- so many literals can go on
abbrev pub literals_in : View → List ℕ → ℕ
literals_in v s = length (wanted_in v 0) - slice_index s 0

abbrev pub count_in : View → List ℕ → ℕ
count_in v s = literals_in v s + v.rows * v.rows

-- the costs of a row are bytes
abbrev pub row_cost : View → ℕ → ℕ
row_cost v i = row_number v.table i 5 % 256

-- the cut by rows i and k weighs so much
abbrev pub cut_weighs : View → ℕ → ℕ → ℕ
cut_weighs v i k = 16 * (7 + row_cost v i + row_cost v k) + 1

-- what candidate i makes of each example, and what it weighs
abbrev pub candidate_piece : View → List ℕ → ℕ → ℕ → Made
candidate_piece v s i =
    pick (nat_lt i (literals_in v s)) (literal_piece v s (i + 1)) (cut_piece v ((i - literals_in v s) / v.rows) ((i - literals_in v s) % v.rows))

abbrev pub candidate_weight : View → List ℕ → ℕ → ℕ
candidate_weight v s i =
    pick (nat_lt i (literals_in v s)) (16 * (5 + 4 * length (take (i + 1) (drop (slice_index s 0) (wanted_in v 0)))) + 1)
    (cut_weighs v ((i - literals_in v s) / v.rows) ((i - literals_in v s) % v.rows))

-- every wanted text of the first m examples has been made
unfoldable pub all_at_end : View → ℕ → List ℕ → Bool
all_at_end v zero s = true
all_at_end v (suc m) s = all_at_end v m s && slice_index s m == length (wanted_in v m)

-- the guide of example e at position j with k parts; the numbers are below 2 ^ 32
abbrev pub guide_in : View → ℕ → ℕ → ℕ → ℕ
guide_in v k e j = pick (nat_le j 64) (slice_index v.guide (585 * e + 9 * j + k) % 4294967296) 0

-- the greatest over the first m examples
unfoldable pub greatest : View → ℕ → ℕ → List ℕ → ℕ
greatest v k zero s = 0
greatest v k (suc m) s = max (greatest v k m s) (guide_in v k m (slice_index s m))
