-- Rows one behind the other in memory: what is read of them, and what they are after one is replaced or taken out.
use Rattle.std.proofs.Common.{◌≡◌, ℕ, suc, ◌+◌, ◌-◌, ◌*◌, ◌<◌, true, false, not, ◌⊎◌, List, [], ◌∷◌, ◌++◌, length, get_or, take, drop, sym, refl, ap, ◌∙◌, inl, inr, append_assoc, append-nil, arith, length-append}
use Rattle.std.proofs.lemmas.List.{take-append-drop, drop_more, length-take-le, take_at, drop_at, drop-drop, get_or_append_left, get_or-append-add, length_push}
use Rattle.std.proofs.lemmas.Bool.{cases_Bool, and_from, not_from_false}
use Rattle.rules.specs.Lists.{pick, every, flat}
use Rattle.candidates.specs.RowTable.{row_at, row_number, with_row, moved_down, alike, alike_at}

pub flat_append : {A B : Type 0} (f : A → List B) (xs ys : List A) → flat f (xs ++ ys) ≡ flat f xs ++ flat f ys
flat_append f [] ys = refl
flat_append f (x ∷ xs) ys = ap (λ l. f x ++ l) (flat_append f xs ys) ∙ sym (append_assoc (f x) (flat f xs) (flat f ys))

-- one list, and 16 numbers behind it
row_there : (front x rest : List ℕ) (i : ℕ) → length front ≡ 16 * i → length x ≡ 16 → row_at (front ++ (x ++ rest)) i ≡ x
row_there front x rest i h k = ap (take 16) (drop_at front (x ++ rest) (16 * i) h) ∙ take_at x rest 16 k

number_there : (front x rest : List ℕ) (i f : ℕ) → length front ≡ 16 * i → f < length x → row_number (front ++ (x ++ rest)) i f ≡ get_or x f 0
number_there front x rest i f h k =
    ap (λ n. get_or (front ++ (x ++ rest)) (n + f) 0) (sym h) ∙ get_or-append-add front (x ++ rest) f 0 ∙ get_or_append_left x rest 0 f k

replaced_there : (front y rest : List ℕ) (i : ℕ) (x : List ℕ) → length front ≡ 16 * i → length y ≡ 16 → with_row (front ++ (y ++ rest)) i x ≡ front ++ (x ++ rest)
replaced_there front y rest i x h k =
    ap (λ l. l ++ (x ++ drop (16 * i + 16) (front ++ (y ++ rest)))) (take_at front (y ++ rest) (16 * i) h)
    ∙ ap (λ l. front ++ (x ++ l)) (sym (drop-drop 16 (16 * i) (front ++ (y ++ rest))) ∙ ap (drop 16) (drop_at front (y ++ rest) (16 * i) h) ∙ drop_at y rest 16 k)

-- the rows of some elements one behind the other, and anything behind them
abbrev pub laid : {A : Type 0} → (A → List ℕ) → List A → List ℕ → List ℕ
laid row xs rest = flat row xs ++ rest

-- what is said of the first row from i on that lies like x: there is none, or it is one of these
abbrev pub Found : {A : Type 0} → (A → List ℕ) → List A → List ℕ → ℕ → ℕ → Type 0
Found {A} row zs x i n =
    ((every (λ z. not (alike (row z) x)) zs ≡ true) × (n ≡ i + length zs))
    ⊎ ((cs : List A) × (c : A) × (ds : List A) × (zs ≡ cs ++ c ∷ ds) × (alike (row c) x ≡ true) × (n ≡ i + length cs))

module _ {A : Type 0} (row : A → List ℕ) (long : (a : A) → length (row a) ≡ 16) where
  pub laid_long : (xs : List A) → length (flat row xs) ≡ 16 * length xs
  laid_long [] = refl
  laid_long (x ∷ xs) = let ih = laid_long xs in let e = length-append (row x) (flat row xs) in let l = long x in omega arith

  pub laid_append : (xs ys : List A) (rest : List ℕ) → laid row (xs ++ ys) rest ≡ laid row xs (laid row ys rest)
  laid_append xs ys rest = ap (λ l. l ++ rest) (flat_append row xs ys) ∙ append_assoc (flat row xs) (flat row ys) rest

  pub laid_cons : (x : A) (xs : List A) (rest : List ℕ) → laid row (x ∷ xs) rest ≡ row x ++ laid row xs rest
  laid_cons x xs rest = append_assoc (row x) (flat row xs) rest

  -- one row on
  pub laid_push : (xs : List A) (y : A) (rest : List ℕ) → laid row xs (row y ++ rest) ≡ laid row (xs ++ y ∷ []) rest
  laid_push xs y rest = sym (laid_append xs (y ∷ []) rest ∙ ap (laid row xs) (laid_cons y [] rest))

  -- the rows split at one of them
  pub laid_split : (xs : List A) (y : A) (zs : List A) (rest : List ℕ) → laid row (xs ++ y ∷ zs) rest ≡ laid row xs (row y ++ laid row zs rest)
  laid_split xs y zs rest = laid_append xs (y ∷ zs) rest ∙ ap (laid row xs) (laid_cons y zs rest)

  module _ (xs : List A) (i : ℕ) (at : length xs ≡ i) where
    front_long : length (flat row xs) ≡ 16 * i
    front_long = let e = laid_long xs in omega arith

    pub laid_number : (y : A) (rest : List ℕ) (f : ℕ) → f < 16 → row_number (laid row xs (row y ++ rest)) i f ≡ get_or (row y) f 0
    laid_number y rest f h = number_there (flat row xs) (row y) rest i f front_long (let l = long y in omega arith)

    pub laid_row : (y : A) (rest : List ℕ) → row_at (laid row xs (row y ++ rest)) i ≡ row y
    laid_row y rest = row_there (flat row xs) (row y) rest i front_long (long y)

    pub laid_replaced : (y rest x : List ℕ) → length y ≡ 16 → with_row (laid row xs (y ++ rest)) i x ≡ laid row xs (x ++ rest)
    laid_replaced y rest x h = replaced_there (flat row xs) y rest i x front_long h

  -- what is read of row i
  module _ (xs : List A) (i : ℕ) (d : A) (rest : List ℕ) (h : i < length xs) where
    split : laid row xs rest ≡ laid row (take i xs) (row (get_or xs i d) ++ laid row (drop (i + 1) xs) rest)
    split =
        ap (λ l. laid row l rest) (sym (take-append-drop i xs) ∙ ap (λ l. take i xs ++ l) (drop_more xs i d h))
        ∙ laid_split (take i xs) (get_or xs i d) (drop (i + 1) xs) rest

    before : length (take i xs) ≡ i
    before = length-take-le i xs (omega arith)

    pub number_at : (f : ℕ) → f < 16 → row_number (laid row xs rest) i f ≡ get_or (row (get_or xs i d)) f 0
    number_at f k = ap (λ t. row_number t i f) split ∙ laid_number (take i xs) i before (get_or xs i d) (laid row (drop (i + 1) xs) rest) f k

    pub whole_at : row_at (laid row xs rest) i ≡ row (get_or xs i d)
    whole_at = ap (λ t. row_at t i) split ∙ laid_row (take i xs) i before (get_or xs i d) (laid row (drop (i + 1) xs) rest)

  -- the row in the middle is overwritten by those behind it, so that the last stands there twice
  pub laid_moved : (xs : List A) (i : ℕ) (y : List ℕ) (zs : List A) (rest : List ℕ) → length xs ≡ i → length y ≡ 16
      → (z : List ℕ) × (length z ≡ 16) × (moved_down (laid row xs (y ++ laid row zs rest)) i (length zs) ≡ laid row (xs ++ zs) (z ++ rest))
  unfolding moved_down
  laid_moved xs i y [] rest h k = (y, k, ap (λ l. laid row l (y ++ rest)) (sym (append-nil xs)))
  laid_moved xs i y (z ∷ zs) rest h k =
      let ih = laid_moved (xs ++ z ∷ []) (i + 1) (row z) zs rest (length_push xs z ∙ ap (λ n. n + 1) h) (long z) in
      (ih.0, ih.1, ap (λ t. moved_down t (i + 1) (length zs)) step ∙ ih.2 ∙ ap (λ l. laid row l (ih.0 ++ rest)) (append_assoc xs (z ∷ []) zs))
    where
      all : List ℕ
      all = laid row xs (y ++ laid row (z ∷ zs) rest)

      next : row_at all (i + 1) ≡ row z
      next =
          ap (λ t. row_at t (i + 1)) (ap (λ l. laid row xs (y ++ l)) (laid_cons z zs rest) ∙ sym (append_assoc (flat row xs) y (row z ++ laid row zs rest)))
          ∙ row_there (flat row xs ++ y) (row z) (laid row zs rest) (i + 1) (let e = length-append (flat row xs) y in let f = laid_long xs in omega arith) (long z)

      step : with_row all i (row_at all (i + 1)) ≡ laid row (xs ++ z ∷ []) (row z ++ laid row zs rest)
      step =
          ap (with_row all i) next ∙ laid_replaced xs i h y (laid row (z ∷ zs) rest) (row z) k ∙ laid_push xs z (laid row (z ∷ zs) rest)
          ∙ ap (laid row (xs ++ z ∷ [])) (laid_cons z zs rest)

  -- a row is taken out, and x put behind the others
  pub laid_in_place_of : (xs : List A) (i : ℕ) (y : A) (zs : List A) (rest : List ℕ) (x : A) (n : ℕ) → length xs ≡ i → n ≡ length (xs ++ y ∷ zs)
      → with_row (moved_down (laid row (xs ++ y ∷ zs) rest) i (n - (i + 1))) (n - 1) (row x) ≡ laid row ((xs ++ zs) ++ x ∷ []) rest
  laid_in_place_of xs i y zs rest x n h k =
      let m = laid_moved xs i (row y) zs rest h (long y) in
      ap (λ t. with_row (moved_down t i (n - (i + 1))) (n - 1) (row x)) (laid_split xs y zs rest)
      ∙ ap (λ j. with_row (moved_down (laid row xs (row y ++ laid row zs rest)) i j) (n - 1) (row x)) behind
      ∙ ap (λ t. with_row t (n - 1) (row x)) m.2
      ∙ laid_replaced (xs ++ zs) (n - 1) last m.0 rest (row x) m.1
      ∙ laid_push (xs ++ zs) x rest
    where
      behind : n - (i + 1) ≡ length zs
      behind = let e = length-append xs (y ∷ zs) in omega arith

      last : length (xs ++ zs) ≡ n - 1
      last = let e = length-append xs (y ∷ zs) in let f = length-append xs zs in omega arith

  pub laid_alike : (xs : List A) (i : ℕ) (zs : List A) (rest x : List ℕ) → length xs ≡ i → Found row zs x i (alike_at (laid row xs (laid row zs rest)) x i (length zs))
  unfolding alike_at
  laid_alike xs i [] rest x h = inl (refl, omega arith)
  laid_alike xs i (z ∷ zs) rest x h = go (cases_Bool (alike (row z) x)) (laid_alike (xs ++ z ∷ []) (i + 1) zs rest x (length_push xs z ∙ ap (λ n. n + 1) h))
    where
      all : List ℕ
      all = laid row xs (laid row (z ∷ zs) rest)

      here : alike (row_at all i) x ≡ alike (row z) x
      here = ap (λ r. alike r x) (ap (λ l. row_at (laid row xs l) i) (laid_cons z zs rest) ∙ laid_row xs i h z (laid row zs rest))

      further : all ≡ laid row (xs ++ z ∷ []) (laid row zs rest)
      further = ap (laid row xs) (laid_cons z zs rest) ∙ laid_push xs z (laid row zs rest)

      behind : alike (row z) x ≡ false → alike_at all x i (suc (length zs)) ≡ alike_at (laid row (xs ++ z ∷ []) (laid row zs rest)) x (i + 1) (length zs)
      behind e = ap (λ b. pick b i (alike_at all x (i + 1) (length zs))) (here ∙ e) ∙ ap (λ t. alike_at t x (i + 1) (length zs)) further

      on : alike (row z) x ≡ false → (n m : ℕ) → n ≡ m → Found row zs x (i + 1) m → Found row (z ∷ zs) x i n
      on e n m k (inl f) = inl (and_from (not (alike (row z) x)) (every (λ z. not (alike (row z) x)) zs) (not_from_false (alike (row z) x) e) f.0, (let g = f.1 in omega arith))
      on e n m k (inr f) = inr (z ∷ f.0, f.1, f.2, ap (λ l. z ∷ l) f.3, f.4, (let g = f.5 in omega arith))

      next : ℕ
      next = alike_at (laid row (xs ++ z ∷ []) (laid row zs rest)) x (i + 1) (length zs)

      go : (alike (row z) x ≡ true) ⊎ (alike (row z) x ≡ false) → Found row zs x (i + 1) next → Found row (z ∷ zs) x i (alike_at all x i (suc (length zs)))
      go (inl e) ih = inr ([], z, zs, refl, e, (let k : pick (alike (row_at all i) x) i (alike_at all x (i + 1) (length zs)) ≡ i = ap (λ b. pick b i (alike_at all x (i + 1) (length zs))) (here ∙ e) in omega arith))
      go (inr e) ih = on e (alike_at all x i (suc (length zs))) next (behind e) ih
