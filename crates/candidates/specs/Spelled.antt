-- How a candidate is spelled, by the numbers that lie in memory. Assumes nothing: these are definitions.
use Rattle.std.specs.Prelude.{ℕ, ◌+◌, ◌-◌, ◌*◌, ◌/◌, ◌%◌, List, [], ◌∷◌, ◌++◌, length, take, drop, ◌==◌, nat_lt, slice_index}
use Rattle.rules.specs.Lists.{pick, each}
use Rattle.rules.specs.Order.{flag}
use Rattle.candidates.specs.Problem.{View, wanted_in, literals_in}
use Rattle.candidates.specs.RowTable.{row_number}
use Rattle.candidates.specs.declared.candidate.Candidate.{Candidate}
use Rattle.candidates.specs.declared.candidate.Candidate.TheVariants.{Literal, Cut}

-- Any number is taken as a byte, so that there is a spelling whatever lies in memory.
abbrev pub as_byte : ℕ → ℕ
as_byte n = n % 256

-- the place that five numbers say
unfoldable pub numbers_spelled : (tag l r n b : ℕ) → List ℕ
numbers_spelled tag l r n b =
    pick (tag == 0) (0 ∷ as_byte n ∷ []) (pick (tag == 1) (1 ∷ as_byte n ∷ [])
    (2 ∷ as_byte (l / 256) ∷ as_byte l ∷ as_byte (r / 256) ∷ as_byte r ∷ as_byte n ∷ flag (b == 1) ∷ []))

-- the place of row i
abbrev pub row_spelled : List ℕ → ℕ → List ℕ
row_spelled t i = numbers_spelled (row_number t i 0) (row_number t i 1) (row_number t i 2) (row_number t i 3) (row_number t i 4)

abbrev pub literal_spelled : List ℕ → List ℕ
literal_spelled b = 0 ∷ length b ∷ each as_byte b

-- the cut by rows i and k
abbrev pub cut_spelled : View → ℕ → ℕ → List ℕ
cut_spelled v i k = 1 ∷ row_spelled v.table i ++ row_spelled v.table k

-- a candidate
abbrev pub spelled_as : View → Candidate → List ℕ
spelled_as v (Literal b) = literal_spelled b.now
spelled_as v (Cut from to) = cut_spelled v from to

-- candidate i; no bytes where there is none of this number
unfoldable pub candidate_spelled : View → List ℕ → ℕ → List ℕ
candidate_spelled v s i =
    pick (nat_lt i (literals_in v s)) (literal_spelled (take (i + 1) (drop (slice_index s 0) (wanted_in v 0))))
    (pick (nat_lt (i - literals_in v s) (v.rows * v.rows)) (cut_spelled v ((i - literals_in v s) / v.rows) ((i - literals_in v s) % v.rows)) [])
