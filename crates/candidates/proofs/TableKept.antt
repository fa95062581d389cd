-- Filling a table keeps its size, and it never has more rows than there is room for.
use Rattle.std.proofs.Common.{◌≡◌, ℕ, zero, suc, ◌+◌, ◌-◌, ◌*◌, ◌<◌, ◌≤◌, ltb, List, [], ◌∷◌, ◌++◌, length, get_or, take, drop, refl, ◌∙◌, arith, length-append, length-drop, length-take}
use Rattle.std.proofs.lemmas.List.{length-take-le}
use Rattle.std.proofs.lemmas.Bool.{ltb-true}
use Rattle.rules.specs.Lists.{pick}
use Rattle.rules.specs.Places.{Place}
use Rattle.rules.specs.Examples.{Example}
use Rattle.rules.proofs.Tests.{pick_both}
use Rattle.candidates.specs.Places.{places_in}
use Rattle.candidates.specs.Rows.{lies_in_all}
use Rattle.candidates.specs.RowTable.{Table, row_of, row_at, row_number, with_row, moved_down, alike_at, in_place_of, pushed, added_at, added, tried, all_tried, first_given, table_for}
use Rattle.candidates.proofs.RowNumbers.{row_long}

with_row_long : (t : List ℕ) (i : ℕ) (x : List ℕ) → length x ≡ 16 → 16 * i + 16 ≤ length t → length (with_row t i x) ≡ length t
with_row_long t i x sixteen room =
    let a = length-append (take (16 * i) t) (x ++ drop (16 * i + 16) t) in
    let b = length-append x (drop (16 * i + 16) t) in
    let c = length-take-le (16 * i) t (omega arith) in
    let d = length-drop (16 * i + 16) t in
    omega arith

row_at_long : (t : List ℕ) (i : ℕ) → 16 * i + 16 ≤ length t → length (row_at t i) ≡ 16
row_at_long t i room = let a = length-take 16 (drop (16 * i) t) in let b = length-drop (16 * i) t in omega arith

moved_down_long : (t : List ℕ) (i m : ℕ) → 16 * (i + m) + 16 ≤ length t → length (moved_down t i m) ≡ length t
unfolding moved_down
moved_down_long t i zero room = refl
moved_down_long t i (suc m) room =
    let one = with_row_long t i (row_at t (i + 1)) (row_at_long t (i + 1) (omega arith)) (omega arith) in
    moved_down_long (with_row t i (row_at t (i + 1))) (i + 1) m (omega arith) ∙ one

-- a table of its size with no more rows than there is room for
abbrev pub Fits : Table → Type 0
Fits t = (length t.numbers ≡ 104000) × (t.rows ≤ 6500)

module _ (t : Table) (x : List ℕ) (sixteen : length x ≡ 16) (fits : Fits t) where
  in_place_fits : (i : ℕ) → i < t.rows → Fits (in_place_of t i x)
  in_place_fits i h =
      let down = moved_down_long t.numbers i (t.rows - (i + 1)) (omega (arith, fits.0, fits.1)) in
      (with_row_long (moved_down t.numbers i (t.rows - (i + 1))) (t.rows - 1) x sixteen (omega (arith, fits.0, fits.1)) ∙ down ∙ fits.0, fits.1)

  pushed_fits : Fits (pushed t x)
  pushed_fits =
      pick_both (ltb t.rows 6500) (record { numbers = with_row t.numbers t.rows x; rows = t.rows + 1 }) t Fits
      (λ e. let h = ltb-true t.rows 6500 e in (with_row_long t.numbers t.rows x sixteen (omega (arith, fits.0)) ∙ fits.0, omega arith)) (λ _. fits)

  added_at_fits : (i : ℕ) → Fits (added_at t x i)
  added_at_fits i =
      pick_both (ltb i t.rows) (pick (ltb (get_or x 5 0) (row_number t.numbers i 5)) (in_place_of t i x) t) (pushed t x) Fits
      (λ e. pick_both (ltb (get_or x 5 0) (row_number t.numbers i 5)) (in_place_of t i x) t Fits (λ _. in_place_fits i (ltb-true i t.rows e)) (λ _. fits))
      (λ _. pushed_fits)

  added_fits : Fits (added t x)
  unfolding added
  added_fits = added_at_fits (alike_at t.numbers x 0 t.rows)

module _ (es : List Example) (asked : List (List ℕ)) where
  all_tried_fits : (t : Table) (ps : List Place) → Fits t → Fits (all_tried es asked t ps)
  unfolding tried all_tried
  all_tried_fits t [] fits = fits
  all_tried_fits t (p ∷ ps) fits =
      all_tried_fits (tried es asked t p) ps
      (pick_both (lies_in_all es p) (added t (row_of es asked p)) t Fits (λ _. added_fits t (row_of es asked p) (row_long es asked p) fits) (λ _. fits))

  pub table_fits : (ns : List ℕ) → length ns ≡ 104000 → Fits (table_for es asked ns)
  unfolding table_for
  table_fits ns size = all_tried_fits (record { numbers = ns; rows = 0 }) (places_in (first_given es)) (size, omega arith)
