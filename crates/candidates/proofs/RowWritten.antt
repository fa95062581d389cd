-- The numbers of a row, written part by part over 16 zeros, are the row of a place.
use Rattle.std.proofs.Common.{◌≡◌, ℕ, List, [], ◌∷◌, ◌++◌, length, set, sym, refl, ap, ◌∙◌, ap₂, append_assoc, arith, length-append}
use borrow.Rule.Slice.PartMut.{put_mid}
use Rattle.std.proofs.lemmas.List.{set_at}
use Rattle.rules.specs.Places.{Place, from_first, from_last, nth_of}
use Rattle.rules.specs.Rules.{place_cost}
use Rattle.rules.specs.Examples.{Example}
use Rattle.candidates.specs.Positions.{positions_in}
use Rattle.candidates.specs.RowTable.{place_numbers, asked_position, row_of}
use Rattle.candidates.proofs.RowNumbers.{positions_long}

-- as the code writes them
abbrev pub numbers_of : List ℕ → ℕ → List ℕ → ℕ → List ℕ
numbers_of says cost at asked_at = set (put_mid 6 8 (set (says ++ (0 ∷ 0 ∷ 0 ∷ 0 ∷ 0 ∷ 0 ∷ 0 ∷ 0 ∷ 0 ∷ 0 ∷ 0 ∷ [])) 5 cost) at) 14 asked_at

place_long : (p : Place) → length (place_numbers p) ≡ 5
unfolding place_numbers
place_long (from_first n) = refl
place_long (from_last n) = refl
place_long (nth_of l r n back) = refl

-- the place, its cost and where it lies in the given texts
front_written : (p : Place) (cost : ℕ) (at : List ℕ)
    → put_mid 6 8 (set (place_numbers p ++ (0 ∷ 0 ∷ 0 ∷ 0 ∷ 0 ∷ 0 ∷ 0 ∷ 0 ∷ 0 ∷ 0 ∷ 0 ∷ [])) 5 cost) at ≡ place_numbers p ++ (cost ∷ (at ++ (0 ∷ 0 ∷ [])))
unfolding place_numbers
front_written (from_first n) cost at = refl
front_written (from_last n) cost at = refl
front_written (nth_of l r n back) cost at = refl

all_written : (p : Place) (cost : ℕ) (at : List ℕ) (asked_at : ℕ) → length at ≡ 8
    → numbers_of (place_numbers p) cost at asked_at ≡ place_numbers p ++ (cost ∷ (at ++ (asked_at ∷ 0 ∷ [])))
all_written p cost at asked_at long =
    let front_long : length (place_numbers p ++ (cost ∷ at)) ≡ 14 = omega (arith, length-append (place_numbers p) (cost ∷ at), place_long p) in
    ap (λ l. set l 14 asked_at) (front_written p cost at ∙ sym (append_assoc (place_numbers p) (cost ∷ at) (0 ∷ 0 ∷ [])))
    ∙ set_at (place_numbers p ++ (cost ∷ at)) 0 (0 ∷ []) asked_at 14 front_long ∙ append_assoc (place_numbers p) (cost ∷ at) (asked_at ∷ 0 ∷ [])

pub row_written : (es : List Example) (asked : List (List ℕ)) (p : Place) (says : List ℕ) (cost : ℕ) (at : List ℕ) (asked_at : ℕ) → says ≡ place_numbers p
    → cost ≡ place_cost p → at ≡ positions_in es 8 p → asked_at ≡ asked_position asked p → numbers_of says cost at asked_at ≡ row_of es asked p
row_written es asked p says cost at asked_at s c a q =
    ap₂ (λ x y. numbers_of x y at asked_at) s c ∙ ap₂ (λ x y. numbers_of (place_numbers p) (place_cost p) x y) a q
    ∙ all_written p (place_cost p) (positions_in es 8 p) (asked_position asked p) (positions_long es 8 p)
