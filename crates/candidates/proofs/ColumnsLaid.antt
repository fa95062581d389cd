-- The columns laid down in memory, one behind the other, from the last to the first.
use Rattle.std.proofs.Common.{◌≡◌, ℕ, zero, suc, ◌+◌, ◌-◌, ◌*◌, ◌<◌, ◌≤◌, ◌⊎◌, List, [], ◌∷◌, ◌++◌, length, get_or, take, drop, sym, refl, ap, ◌∙◌, subst, inl, inr, append_assoc, arith, length-append, length-drop, length-take-le, drop-cons, take-take}
use lib.Seq.{take-append-le}
use Rattle.std.proofs.lemmas.List.{drop_all, take_at, drop_at, get_or_append_left, get_or_past}
use Rattle.std.proofs.lemmas.Bool.{cases_lt}
use Rattle.rules.specs.Lists.{flat}
use Rattle.candidates.specs.Weights.{smaller, far}
use Rattle.candidates.specs.Guide.{steps, least_sum, least_in, column, column_in, with_column, columns, laid_columns, NoneAbove}
use Rattle.candidates.proofs.GuideSteps.{length_steps}
use Rattle.candidates.proofs.GuideFalls.{least_sum_far, column_entry, end_entry, length_columns}

-- each column has nine numbers
abbrev pub Nines : List (List ℕ) → Type 0
Nines [] = Unit {0}
Nines (c ∷ cs) = (length c ≡ 9) × Nines cs

pub columns_nines : (cs gs ws : List ℕ) → Nines (columns cs gs ws)
unfolding columns
columns_nines cs gs [] = (refl, tt)
columns_nines cs gs (w ∷ ws) = (refl, columns_nines cs gs ws)

abbrev pub together : List (List ℕ) → List ℕ
together cols = flat (λ c. c) cols

length_together : (cols : List (List ℕ)) → Nines cols → length (together cols) ≡ 9 * length cols
length_together [] h = refl
length_together (c ∷ cols) h = let n = length-append c (together cols) in let ih = length_together cols h.1 in omega (arith, h.0)

pub length_columns_together : (cs gs ws : List ℕ) → length (together (columns cs gs ws)) ≡ 9 * suc (length ws)
length_columns_together cs gs ws = length_together (columns cs gs ws) (columns_nines cs gs ws) ∙ ap (λ n. 9 * n) (length_columns cs gs ws)

-- sums in memory are those over columns
least_in_together : (k : ℕ) (ns : List ℕ) (cols : List (List ℕ)) → k < 9 → length ns ≤ length cols → Nines cols → least_in k ns (together cols) ≡ least_sum k ns cols
unfolding least_in least_sum
least_in_together k [] cols h l e = refl
least_in_together k (n ∷ ns) [] h l e = absurd (omega arith)
least_in_together k (n ∷ ns) (c ∷ cols) h l e =
    let here : get_or (c ++ together cols) k 0 ≡ get_or c k 0 = get_or_append_left c (together cols) 0 k (omega (arith, e.0)) in
    let past : drop 9 (c ++ together cols) ≡ together cols = drop_at c (together cols) 9 e.0 in
    let ih = least_in_together k ns cols h (omega arith) e.1 in
    ap (λ z. smaller (n + z) (least_in k ns (drop 9 (c ++ together cols)))) here ∙ ap (λ z. smaller (n + get_or c k 0) (least_in k ns z)) past
    ∙ ap (λ z. smaller (n + get_or c k 0) z) ih

column_in_together : (ns : List ℕ) (cols : List (List ℕ)) → length ns ≤ length cols → Nines cols → column_in ns (together cols) ≡ column ns cols
column_in_together ns cols l e =
    let at : (k : ℕ) → k < 9 → least_in k ns (together cols) ≡ least_sum k ns cols = λ k h. least_in_together k ns cols h l e in
    cc (at 0 (omega arith), at 1 (omega arith), at 2 (omega arith), at 3 (omega arith), at 4 (omega arith), at 5 (omega arith), at 6 (omega arith), at 7 (omega arith))

-- the column of what is wanted, from those in memory behind it
pub columns_more : (cs gs : List ℕ) (w : ℕ) (ws : List ℕ) →
    together (columns cs gs (w ∷ ws)) ≡ column_in (steps cs gs (w ∷ ws)) (together (columns cs gs ws)) ++ together (columns cs gs ws)
unfolding columns
columns_more cs gs w ws =
    let n = length_steps cs gs (w ∷ ws) in
    let m = length_columns cs gs ws in
    ap (λ c. c ++ together (columns cs gs ws)) (sym (column_in_together (steps cs gs (w ∷ ws)) (columns cs gs ws) (omega arith) (columns_nines cs gs ws)))

-- no number is above far
none_above_more : (n x : ℕ) (xs : List ℕ) → x ≤ n → NoneAbove n xs → NoneAbove n (x ∷ xs)
none_above_more n x xs h k zero = h
none_above_more n x xs h k (suc i) = k i

none_above_append : (n : ℕ) (xs ys : List ℕ) → NoneAbove n xs → NoneAbove n ys → NoneAbove n (xs ++ ys)
none_above_append n [] ys h k = k
none_above_append n (x ∷ xs) ys h k = none_above_more n x (xs ++ ys) (h 0) (none_above_append n xs ys (λ i. h (suc i)) k)

column_far : (ns : List ℕ) (cols : List (List ℕ)) → NoneAbove far (column ns cols)
column_far ns cols zero = omega arith
column_far ns cols (suc k) = by_place (cases_lt k 8)
  where
    by_place : (k < 8) ⊎ (8 ≤ k) → get_or (column ns cols) (suc k) 0 ≤ far
    by_place (inl h) = let e = column_entry ns cols k h in let top = least_sum_far k ns cols in omega arith
    by_place (inr h) = let e = get_or_past (column ns cols) (suc k) 0 (omega arith) in omega arith

pub columns_far : (cs gs ws : List ℕ) → NoneAbove 65536 (together (columns cs gs ws))
unfolding columns
columns_far cs gs [] = λ i. let e = end_entry cs gs i in omega arith
columns_far cs gs (w ∷ ws) =
    none_above_append far (column (steps cs gs (w ∷ ws)) (columns cs gs ws)) (together (columns cs gs ws)) (column_far (steps cs gs (w ∷ ws)) (columns cs gs ws)) (columns_far cs gs ws)

-- what a column laid down at a leaves as it was
module _ (xs c : List ℕ) (a : ℕ) (room : a + 9 ≤ length xs) (nine : length c ≡ 9) where
  take_with_column : (n : ℕ) → n ≤ a → take n (with_column xs a c) ≡ take n xs
  take_with_column n h =
      take-append-le n (take a xs) (c ++ drop (a + 9) xs) (omega (arith, length-take-le a xs (omega arith))) ∙ take-take n a xs h

  drop_with_column : (n : ℕ) → n ≡ a + 9 → drop n (with_column xs a c) ≡ drop n xs
  drop_with_column n e =
      let size : length (take a xs ++ c) ≡ n = let l = length-append (take a xs) c in let m = length-take-le a xs (omega arith) in omega arith in
      ap (drop n) (sym (append_assoc (take a xs) c (drop (a + 9) xs))) ∙ drop_at (take a xs ++ c) (drop (a + 9) xs) n size ∙ ap (λ m. drop m xs) (sym e)

abbrev pub zeros : List ℕ
zeros = 0 ∷ 0 ∷ 0 ∷ 0 ∷ 0 ∷ 0 ∷ 0 ∷ 0 ∷ 0 ∷ []

end_together : (cs gs : List ℕ) → together (columns cs gs []) ≡ zeros
unfolding columns
end_together cs gs = refl

module _ (cs gs ws was : List ℕ) where
  -- the columns from j on have been laid down over what was there
  unfoldable pub LaidSoFar : ℕ → List ℕ → Type 0
  LaidSoFar j S = S ≡ take (9 * j) was ++ (together (columns cs gs (drop j ws)) ++ drop (9 * suc (length ws)) was)

  -- where they begin and end
  pub laid_starts : (first : List ℕ) → 9 * length ws + 9 ≤ length first → was ≡ with_column first (9 * length ws) zeros → LaidSoFar (length ws) was
  unfolding LaidSoFar
  laid_starts first room e =
      let a : ℕ = 9 * length ws in
      let front : take a was ≡ take a first = ap (take a) e ∙ take_with_column first zeros a room refl a (omega arith) in
      let back : drop (9 * suc (length ws)) was ≡ drop (a + 9) first =
      ap (drop (9 * suc (length ws))) e ∙ drop_with_column first zeros a room refl (9 * suc (length ws)) (omega arith) ∙ ap (λ n. drop n first) (omega arith) in
      let middle : together (columns cs gs (drop (length ws) ws)) ≡ zeros = ap (λ l. together (columns cs gs l)) (drop_all (length ws) ws (omega arith)) ∙ end_together cs gs in
      e ∙ ap (λ l. l ++ (zeros ++ drop (a + 9) first)) (sym front) ∙ ap (λ l. take a was ++ (zeros ++ l)) (sym back)
      ∙ ap (λ l. take a was ++ (l ++ drop (9 * suc (length ws)) was)) (sym middle)

  pub laid_ends : (first S : List ℕ) → 9 * length ws + 9 ≤ length first → was ≡ with_column first (9 * length ws) zeros → LaidSoFar 0 S → S ≡ laid_columns (columns cs gs ws) first
  unfolding LaidSoFar
  laid_ends first S room e so =
      let n = length_columns cs gs ws in
      let back : drop (9 * suc (length ws)) was ≡ drop (9 * length (columns cs gs ws)) first =
      ap (drop (9 * suc (length ws))) e ∙ drop_with_column first zeros (9 * length ws) room refl (9 * suc (length ws)) (omega arith) ∙ ap (λ n. drop n first) (omega arith) in
      so ∙ ap (λ l. together (columns cs gs ws) ++ l) back

  module _ (room : 9 * length ws + 9 ≤ length was) (j : ℕ) (S : List ℕ) (below : j < length ws) (so : LaidSoFar (suc j) S) where
    -- what lies behind column j
    pub laid_behind : drop (9 * j + 9) S ≡ together (columns cs gs (drop (suc j) ws)) ++ drop (9 * suc (length ws)) was
    unfolding LaidSoFar
    laid_behind =
        ap (drop (9 * j + 9)) so
        ∙ drop_at (take (9 * suc j) was) (together (columns cs gs (drop (suc j) ws)) ++ drop (9 * suc (length ws)) was) (9 * j + 9) (length-take-le (9 * suc j) was (omega arith) ∙ omega arith)

    pub laid_read : take (9 * length ws + 9 - (9 * j + 9)) (drop (9 * j + 9) S) ≡ together (columns cs gs (drop (suc j) ws))
    laid_read =
        let n = length_columns_together cs gs (drop (suc j) ws) in
        let m = length-drop (suc j) ws in
        ap (take (9 * length ws + 9 - (9 * j + 9))) laid_behind
        ∙ take_at (together (columns cs gs (drop (suc j) ws))) (drop (9 * suc (length ws)) was) (9 * length ws + 9 - (9 * j + 9)) (omega arith)

    -- as much as is wanted from j on, and nothing above far
    pub laid_enough : length (take (9 * length ws + 9 - (9 * j + 9)) (drop (9 * j + 9) S)) ≡ 9 * length (drop j ws)
    laid_enough =
        let n = length_columns_together cs gs (drop (suc j) ws) in
        let m = length-drop (suc j) ws in
        let r = ap length laid_read in
        let d = length-drop j ws in
        omega arith

    pub laid_far : NoneAbove 65536 (take (9 * length ws + 9 - (9 * j + 9)) (drop (9 * j + 9) S))
    laid_far = subst (λ l. NoneAbove 65536 l) (sym laid_read) (columns_far cs gs (drop (suc j) ws))

    pub laid_goes_on : (S' : List ℕ) → S' ≡ with_column S (9 * j) (column_in (steps cs gs (drop j ws)) (take (9 * length ws + 9 - (9 * j + 9)) (drop (9 * j + 9) S))) → LaidSoFar j S'
    unfolding LaidSoFar
    laid_goes_on S' e =
        let T : List ℕ = together (columns cs gs (drop (suc j) ws)) in
        let R : List ℕ = drop (9 * suc (length ws)) was in
        let w : ℕ = get_or ws j 0 in
        let next : drop j ws ≡ w ∷ drop (suc j) ws = drop-cons ws j 0 below in
        let C : List ℕ = column_in (steps cs gs (drop j ws)) T in
        let front : take (9 * j) S ≡ take (9 * j) was =
        ap (take (9 * j)) so ∙ take-append-le (9 * j) (take (9 * suc j) was) (T ++ R) (omega (arith, length-take-le (9 * suc j) was (omega arith))) ∙ take-take (9 * j) (9 * suc j) was (omega arith) in
        let more : together (columns cs gs (drop j ws)) ≡ C ++ T =
        ap (λ l. together (columns cs gs l)) next ∙ columns_more cs gs w (drop (suc j) ws) ∙ ap (λ l. column_in (steps cs gs l) T ++ T) (sym next) in
        e ∙ ap (λ l. with_column S (9 * j) (column_in (steps cs gs (drop j ws)) l)) laid_read
        ∙ ap (λ l. l ++ (C ++ drop (9 * j + 9) S)) front
        ∙ ap (λ l. take (9 * j) was ++ (C ++ l)) laid_behind
        ∙ ap (λ l. take (9 * j) was ++ l) (sym (append_assoc C T R))
        ∙ ap (λ l. take (9 * j) was ++ (l ++ R)) (sym more)
