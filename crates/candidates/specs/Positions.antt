-- Where a place lies in texts. Assumes nothing: these are definitions.
use Rattle.std.specs.Prelude.{ℕ, zero, suc, List, [], ◌∷◌, slice_index_or}
use Rattle.rules.specs.Places.{Place, spot}
use Rattle.rules.specs.Examples.{Example}

-- where a place lies in a text, or 255 if it is missing there
abbrev pub position : List ℕ → Place → ℕ
position t p = slice_index_or (spot t p) 0 255

-- where it lies in each given text, in n numbers, 0 past the last example
abbrev pub positions_in : List Example → ℕ → Place → List ℕ
positions_in es zero p = []
positions_in [] (suc n) p = 0 ∷ positions_in [] n p
positions_in (e ∷ es) (suc n) p = position e.given p ∷ positions_in es n p
