-- A lower bound of what one example alone still needs, for each position of its wanted text and each number of parts. Assumes nothing: these are definitions.
use Rattle.std.specs.Prelude.{ℕ, zero, suc, ◌+◌, ◌*◌, ◌≤◌, List, [], ◌∷◌, ◌++◌, length, take, drop, replicate, ◌==◌, slice_index, slice_index_or, slice_set}
use Rattle.rules.specs.Lists.{pick, flat}
use Rattle.rules.specs.Examples.{Example}
use Rattle.candidates.specs.Weights.{smaller, far}
use Rattle.candidates.specs.Rows.{given_of, wanted_of}
use Rattle.candidates.specs.RowTable.{row_number}

-- what a literal of d bytes weighs, and a cut between places of these costs
abbrev pub literal_weight : ℕ → ℕ
literal_weight d = 16 * (5 + 4 * d) + 1

abbrev pub cut_weight : ℕ → ℕ → ℕ
cut_weight a b = 16 * (7 + a + b) + 1

-- Steps: for each number of bytes from 1 on, the least weight of a part that makes so many of the wanted text.
-- literals from d + 1 bytes on, one for each wanted byte
unfoldable pub literal_steps : ℕ → List ℕ → List ℕ
literal_steps d [] = []
literal_steps d (b ∷ bs) = literal_weight (d + 1) ∷ literal_steps (d + 1) bs

-- Given and wanted gone through side by side as long as they are alike: cuts from a place that costs a, to each place on the way, of the given costs.
unfoldable pub along : ℕ → List ℕ → List ℕ → List ℕ → List ℕ → List ℕ
along a cs gs ws [] = []
along a cs gs [] (n ∷ ns) = n ∷ ns
along a cs [] (w ∷ ws) (n ∷ ns) = n ∷ ns
along a [] (g ∷ gs) (w ∷ ws) (n ∷ ns) = n ∷ ns
along a (c ∷ cs) (g ∷ gs) (w ∷ ws) (n ∷ ns) = pick (g == w) (smaller n (cut_weight a c) ∷ along a cs gs ws ns) (n ∷ ns)

-- cuts from every position of the given text, whose places have these costs
unfoldable pub cut_steps : List ℕ → List ℕ → List ℕ → List ℕ → List ℕ
cut_steps [] gs ws ns = ns
cut_steps (c ∷ cs) [] ws ns = ns
cut_steps (c ∷ cs) (g ∷ gs) ws ns = cut_steps cs gs ws (along c cs (g ∷ gs) ws ns)

abbrev pub steps : List ℕ → List ℕ → List ℕ → List ℕ
steps cs gs ws = cut_steps cs gs ws (literal_steps 0 ws)

-- the least of a step and what is needed behind it with k parts
unfoldable pub least_sum : ℕ → List ℕ → List (List ℕ) → ℕ
least_sum k [] columns = far
least_sum k (n ∷ ns) [] = far
least_sum k (n ∷ ns) (c ∷ cs) = smaller (n + slice_index c k) (least_sum k ns cs)

-- what is needed with 0 to 8 parts, where bytes are still wanted
abbrev pub column : List ℕ → List (List ℕ) → List ℕ
column ns cs =
    far ∷ least_sum 0 ns cs ∷ least_sum 1 ns cs ∷ least_sum 2 ns cs ∷ least_sum 3 ns cs ∷ least_sum 4 ns cs ∷ least_sum 5 ns cs ∷ least_sum 6 ns cs ∷ least_sum 7 ns cs ∷ []

-- a column for each position of the wanted text, the last for its end, where nothing is needed
unfoldable pub columns : List ℕ → List ℕ → List ℕ → List (List ℕ)
columns cs gs [] = (0 ∷ 0 ∷ 0 ∷ 0 ∷ 0 ∷ 0 ∷ 0 ∷ 0 ∷ 0 ∷ []) ∷ []
columns cs gs (w ∷ ws) = column (steps cs gs (w ∷ ws)) (columns cs gs ws) ∷ columns cs gs ws

-- THE COSTS
-- the cost at a position lowered to this one, if that is less
abbrev pub lowered : List ℕ → ℕ → ℕ → List ℕ
lowered cs at cost = slice_set cs at (smaller (slice_index cs at) cost)

-- the least cost of a place at each position 0 to 64 of given text e, over n rows of a table; 255 where there is none
unfoldable pub least_costs : List ℕ → ℕ → ℕ → List ℕ → List ℕ
least_costs t e zero cs = cs
least_costs t e (suc n) cs = lowered (least_costs t e n cs) (row_number t n (6 + e)) (row_number t n 5)

-- IN MEMORY
-- the least of a step and what is needed behind it with k parts, where the columns lie one behind the other in m
unfoldable pub least_in : ℕ → List ℕ → List ℕ → ℕ
least_in k [] m = far
least_in k (n ∷ ns) m = smaller (n + slice_index m k) (least_in k ns (drop 9 m))

-- what is needed with k parts: with none, no rule will do
abbrev pub needed_with : List ℕ → List ℕ → ℕ → ℕ
needed_with ns m zero = far
needed_with ns m (suc k) = least_in k ns m

-- the column before those in m
abbrev pub column_in : List ℕ → List ℕ → List ℕ
column_in ns m =
    far ∷ least_in 0 ns m ∷ least_in 1 ns m ∷ least_in 2 ns m ∷ least_in 3 ns m ∷ least_in 4 ns m ∷ least_in 5 ns m ∷ least_in 6 ns m ∷ least_in 7 ns m ∷ []

-- no number is above n
abbrev pub NoneAbove : ℕ → List ℕ → Type 0
NoneAbove n xs = (i : ℕ) → slice_index xs i ≤ n

-- ns with a column laid down at a position
abbrev pub with_column : List ℕ → ℕ → List ℕ → List ℕ
with_column ns at c = take at ns ++ (c ++ drop (at + 9) ns)

-- the columns laid down over some numbers
abbrev pub laid_columns : List (List ℕ) → List ℕ → List ℕ
laid_columns cols ns = flat (λ c. c) cols ++ drop (9 * length cols) ns

-- what is needed at position j with k parts
abbrev pub guide_number : List ℕ → ℕ → ℕ → ℕ
guide_number ns j k = slice_index ns (9 * j + k)

-- the costs for eight given texts, over n rows of a table
abbrev pub all_costs : List ℕ → ℕ → List (List ℕ)
all_costs t n =
    least_costs t 0 n (replicate 65 255) ∷ least_costs t 1 n (replicate 65 255) ∷ least_costs t 2 n (replicate 65 255) ∷ least_costs t 3 n (replicate 65 255)
    ∷ least_costs t 4 n (replicate 65 255) ∷ least_costs t 5 n (replicate 65 255) ∷ least_costs t 6 n (replicate 65 255) ∷ least_costs t 7 n (replicate 65 255) ∷ []

-- the columns of example e over its costs
abbrev pub columns_of : List (List ℕ) → List Example → ℕ → List (List ℕ)
columns_of css es e = columns (slice_index_or css e []) (given_of es e) (wanted_of es e)

-- ns with columns laid down in the place of example e
abbrev pub with_guide : List ℕ → ℕ → List (List ℕ) → List ℕ
with_guide ns e cols = take (585 * e) ns ++ (laid_columns cols (take 585 (drop (585 * e) ns)) ++ drop (585 * e + 585) ns)

-- the guides of the first m examples, those of one behind those of the other, laid down over some numbers
unfoldable pub guides_laid : List (List ℕ) → List Example → ℕ → List ℕ → List ℕ
guides_laid css es zero ns = ns
guides_laid css es (suc m) ns = with_guide (guides_laid css es m ns) m (columns_of css es m)
