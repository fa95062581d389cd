-- The rows of a table, read as arrays of 16 numbers: what one of them holds, and the first that lies like another.
use Rattle.std.proofs.Common.{◌≡◌, ℕ, zero, suc, ◌+◌, ◌*◌, ◌<◌, ◌≤◌, Bool, true, false, cond, not, eqb, ltb, ◌⊎◌, List, ◌∷◌, length, get_or, take, drop, Some, None, Option, sym, refl, ap, ◌∙◌, subst, ap₂, inl, inr, arith, length-drop}
use Rattle.std.specs.List.{position, position_or_len}
use Rattle.std.specs.Cmp.Lexicographic.{pointwise}
use Rattle.std.specs.Simd.{first_chunks}
use Rattle.std.proofs.lemmas.List.{drop-drop, take_all, get_or-take, get_or-drop}
use Rattle.std.proofs.lemmas.Slice.Eq.{slice_eq-Decides}
use Rattle.std.proofs.lemmas.Bool.{lt-ltb, le-ltb, cases_lt}
use Rattle.std.proofs.lemmas.List.Sums.{prefix_len-le-length}
use Rattle.std.proofs.lemmas.Bool.Decides.{same_from_decides, Decides-eqb}
use Rattle.rules.specs.Lists.{pick}
use Rattle.candidates.specs.RowTable.{row_at, row_number, alike, alike_at}
use Rattle.candidates.specs.Tables.{IsFirstAlike}
use Rattle.candidates.proofs.SameNumbers.{same_decides}

-- the last ten numbers of two rows, compared
pub told_alike : (x y : List ℕ) (r : Bool) → length x ≡ 16 → length y ≡ 16 → r ≡ pointwise eqb (take 10 (drop 6 x)) (take 10 (drop 6 y)) → r ≡ alike x y
told_alike x y r long same_long e =
    let first : take 10 (drop 6 x) ≡ drop 6 x = take_all 10 (drop 6 x) (omega (arith, length-drop 6 x)) in
    let second : take 10 (drop 6 y) ≡ drop 6 y = take_all 10 (drop 6 y) (omega (arith, length-drop 6 y)) in
    same_from_decides r (alike x y) (slice_eq-Decides Decides-eqb (drop 6 x) (drop 6 y) r (e ∙ ap₂ (pointwise eqb) first second))
    (same_decides (drop 6 x) (drop 6 y))

-- the first m rows from row i on
abbrev pub rows_from : List ℕ → ℕ → ℕ → List (List ℕ)
rows_from t i m = first_chunks 16 m (drop (16 * i) t)

next_rows : (t : List ℕ) (i m : ℕ) → rows_from t i (suc m) ≡ row_at t i ∷ rows_from t (i + 1) m
next_rows t i m = ap (λ l. row_at t i ∷ first_chunks 16 m l) (drop-drop 16 (16 * i) t ∙ ap (λ n. drop n t) (omega arith))

pub fewer_chunks : (t : List ℕ) (n m : ℕ) → n ≤ m → take n (first_chunks 16 m t) ≡ first_chunks 16 n t
fewer_chunks t zero m h = refl
fewer_chunks t (suc n) zero h = absurd (omega arith)
fewer_chunks t (suc n) (suc m) h = ap (λ l. take 16 t ∷ l) (fewer_chunks (drop 16 t) n m (omega arith))

chunks_long : (t : List ℕ) (n : ℕ) → length (first_chunks 16 n t) ≡ n
chunks_long t zero = refl
chunks_long t (suc n) = ap suc (chunks_long (drop 16 t) n)

row_in : (t : List ℕ) (k i m : ℕ) (d : List ℕ) → i < m → get_or (rows_from t k m) i d ≡ row_at t (k + i)
row_in t k i zero d h = absurd (omega arith)
row_in t k zero (suc m) d h = ap (λ l. get_or l 0 d) (next_rows t k m) ∙ ap (row_at t) (omega arith)
row_in t k (suc i) (suc m) d h = ap (λ l. get_or l (suc i) d) (next_rows t k m) ∙ row_in t (k + 1) i m d (omega arith) ∙ ap (row_at t) (omega arith)

-- a number that is read of row i
pub number_in : (t : List ℕ) (rows : List (List ℕ)) (n i f : ℕ) (d : List ℕ) → rows ≡ first_chunks 16 n t → i < n → f < 16
    → get_or (get_or rows i d) f 0 ≡ row_number t i f
number_in t rows n i f d e h k =
    ap (λ l. get_or (get_or l i d) f 0) e ∙ ap (λ l. get_or l f 0) (row_in t 0 i n d h ∙ ap (row_at t) (omega arith))
    ∙ get_or-take 16 (drop (16 * i) t) f 0 k ∙ get_or-drop (16 * i) t f 0

module _ (t x : List ℕ) where
  -- one row more
  alike_next : (i m behind : ℕ) (b : Bool) → alike_at t x (i + 1) m ≡ i + 1 + behind → pick b i (alike_at t x (i + 1) m) ≡ i + cond (not b) (1 + behind) 0
  alike_next i m behind true e = omega arith
  alike_next i m behind false e = omega arith

  -- the first that lies like x
  alike_among : (i m : ℕ) → alike_at t x i m ≡ i + position_or_len (λ o. alike o x) (rows_from t i m)
  unfolding alike_at
  alike_among i zero = omega arith
  alike_among i (suc m) =
      alike_next i m (position_or_len (λ o. alike o x) (rows_from t (i + 1) m)) (alike (row_at t i) x) (alike_among (i + 1) m)
      ∙ ap (λ l. i + position_or_len (λ o. alike o x) l) (sym (next_rows t i m))

  found_or_not : (n p long : ℕ) → alike_at t x 0 n ≡ 0 + p → long ≡ n → p ≤ long
      → IsFirstAlike (record { numbers = t; rows = n }) x (cond (ltb p long) (Some p) None)
  found_or_not n p long e h k = go (cases_lt p long)
    where
      go : (p < long) ⊎ (long ≤ p) → IsFirstAlike (record { numbers = t; rows = n }) x (cond (ltb p long) (Some p) None)
      go (inl c) = subst (λ b. IsFirstAlike (record { numbers = t; rows = n }) x (cond b (Some p) None)) (sym (lt-ltb p long c)) (omega arith, omega arith)
      go (inr c) = subst (λ b. IsFirstAlike (record { numbers = t; rows = n }) x (cond b (Some p) None)) (sym (le-ltb p long c)) (omega arith)

  pub first_alike_found : (rows : List (List ℕ)) (n : ℕ) (r : Option ℕ) → rows ≡ first_chunks 16 n t → r ≡ position (λ o. alike o x) rows
      → IsFirstAlike (record { numbers = t; rows = n }) x r
  first_alike_found rows n r e f =
      subst (IsFirstAlike (record { numbers = t; rows = n }) x) (sym (f ∙ ap (position (λ o. alike o x)) e))
      (found_or_not n (position_or_len (λ o. alike o x) (first_chunks 16 n t)) (length (first_chunks 16 n t)) (alike_among 0 n) (chunks_long t n)
      (prefix_len-le-length (λ o. not (alike o x)) (first_chunks 16 n t)))
