-- Counting the elements of a list that pass a test finds the nth of them; and the positions of a text, from either end, as such a list.
use Rattle.std.proofs.Common.{◌≡◌, ℕ, zero, suc, ◌+◌, ◌-◌, ◌<◌, ◌≤◌, Bool, true, false, cond, eqb, List, [], ◌∷◌, ◌++◌, reverse, length, get_or, take, drop, sym, refl, ap, ◌∙◌, ap₂, ⊎_elim, append-nil, add-one, arith, length-append}
use Rattle.std.proofs.lemmas.List.{take-append-drop, drop_more, take_more, drop_all, drop_at, get_or_at, get_or_append_left, get_or-reverse, length_push, length-reverse, reverse-append}
use Rattle.std.proofs.lemmas.Bool.{ne_eqb, cases_eq}
use Rattle.std.specs.List.{filter, range_with_len}
use Rattle.rules.specs.Lists.{pick, those, up_to, backwards}
use Rattle.rules.specs.Places.{nth}

module _ (f : ℕ → Bool) where
  pub those-++ : (xs ys : List ℕ) → those f (xs ++ ys) ≡ those f xs ++ those f ys
  those-++ [] ys = refl
  those-++ (x ∷ xs) ys = let ih = those-++ xs ys in grind arith

  pub those_backwards : (xs : List ℕ) → those f (backwards xs) ≡ backwards (those f xs)
  unfolding backwards
  those_backwards [] = refl
  those_backwards (x ∷ xs) = those-++ (backwards xs) (x ∷ []) ∙ ap (λ l. l ++ those f (x ∷ [])) (those_backwards xs) ∙ ends (f x)
    where
      ends : (b : Bool) → backwards (those f xs) ++ pick b (x ∷ []) [] ≡ backwards (pick b (x ∷ those f xs) (those f xs))
      ends true = refl
      ends false = append-nil _

  -- the library's word for them
  pub filter_is : (xs : List ℕ) → filter f xs ≡ those f xs
  filter_is [] = refl
  filter_is (x ∷ xs) = ap (λ l. cond (f x) (x ∷ l) l) (filter_is xs) ∙ same (f x)
    where
      same : (b : Bool) → cond b (x ∷ those f xs) (those f xs) ≡ pick b (x ∷ those f xs) (those f xs)
      same true = refl
      same false = refl

  -- one element more: the count rises where it passes
  pub counts_more : (xs : List ℕ) (i x : ℕ) → i < length xs → x ≡ get_or xs i 0 → length (those f (take (i + 1) xs)) ≡ pick (f x) (length (those f (take i xs)) + 1) (length (those f (take i xs)))
  counts_more xs i x h e =
      ap (λ l. length (those f l)) (take_more xs i 0 h) ∙ ap (λ y. length (those f (take i xs ++ y ∷ []))) (sym e)
      ∙ ap length (those-++ (take i xs) (x ∷ [])) ∙ length-append (those f (take i xs)) (those f (x ∷ [])) ∙ grind arith

  those_split : (xs : List ℕ) (i x : ℕ) → i < length xs → x ≡ get_or xs i 0 → f x ≡ true → those f xs ≡ those f (take i xs) ++ x ∷ those f (drop (i + 1) xs)
  those_split xs i x h e t =
      ap (those f) (sym (take-append-drop i xs)) ∙ those-++ (take i xs) (drop i xs)
      ∙ ap (λ l. those f (take i xs) ++ those f l) (drop_more xs i 0 h ∙ ap (λ y. y ∷ drop (i + 1) xs) (sym e))
      ∙ ap (λ b. those f (take i xs) ++ pick b (x ∷ those f (drop (i + 1) xs)) (those f (drop (i + 1) xs))) t

  -- the element with which the count comes to n is the nth
  pub nth_found : (xs : List ℕ) (i x n : ℕ) → i < length xs → x ≡ get_or xs i 0 → f x ≡ true → length (those f (take i xs)) + 1 ≡ n → nth (those f xs) n ≡ x ∷ []
  nth_found xs i x n h e t c =
      let some : eqb n 0 ≡ false = ne_eqb n 0 (λ z. omega arith) in
      let before : length (those f (take i xs)) ≡ n - 1 = omega arith in
      ap (λ b. pick b [] (take 1 (drop (n - 1) (those f xs)))) some
      ∙ ap (λ l. take 1 (drop (n - 1) l)) (those_split xs i x h e t)
      ∙ ap (take 1) (drop_at (those f (take i xs)) (x ∷ those f (drop (i + 1) xs)) (n - 1) before)

  -- where the count stays below n there is no nth
  pub nth_missing : (xs : List ℕ) (n : ℕ) → (0 < n → length (those f xs) < n) → nth (those f xs) n ≡ []
  nth_missing xs zero few = refl
  nth_missing xs (suc n) few =
      let some : eqb (suc n) 0 ≡ false = ne_eqb (suc n) 0 (λ z. omega arith) in
      ap (λ b. pick b [] (take 1 (drop (suc n - 1) (those f xs)))) some
      ∙ ap (take 1) (drop_all (suc n - 1) (those f xs) (let k = few (omega arith) in omega arith))

-- THE POSITIONS OF A TEXT
pub length_up_to : (n : ℕ) → length (up_to n) ≡ n
unfolding up_to
length_up_to zero = refl
length_up_to (suc n) = length_push (up_to n) n ∙ ap (λ k. k + 1) (length_up_to n) ∙ add-one n

pub up_to_at : (n i : ℕ) → i < n → get_or (up_to n) i 0 ≡ i
unfolding up_to
up_to_at zero i h = absurd (omega arith)
up_to_at (suc n) i h =
    let l = length_up_to n in
    ⊎_elim
    (λ e. get_or_at (up_to n) n [] 0 i (l ∙ sym e) ∙ sym e)
    (λ ne. get_or_append_left (up_to n) (n ∷ []) 0 i (omega arith) ∙ up_to_at n i (omega arith))
    (cases_eq i n)

pub up_to_is : (n : ℕ) → range_with_len 0 n ≡ up_to n
unfolding up_to
up_to_is zero = refl
up_to_is (suc n) = let z : 0 + n ≡ n = omega arith in one_more 0 n ∙ ap₂ (λ l x. l ++ x ∷ []) (up_to_is n) z
  where
    one_more : (a k : ℕ) → range_with_len a (suc k) ≡ range_with_len a k ++ (a + k) ∷ []
    one_more a zero = ap (λ x. x ∷ []) (let z : a ≡ a + 0 = omega arith in z)
    one_more a (suc k) = ap (λ l. a ∷ l) (one_more (a + 1) k ∙ ap (λ x. range_with_len (a + 1) k ++ x ∷ []) (let z : a + 1 + k ≡ a + suc k = omega arith in z))

pub backwards_is : (xs : List ℕ) → backwards xs ≡ reverse xs
unfolding backwards
backwards_is [] = refl
backwards_is (x ∷ xs) = ap (λ l. l ++ x ∷ []) (backwards_is xs) ∙ sym (reverse-append (x ∷ []) xs)

-- all positions of a text of n bytes, from either end
abbrev pub positions : ℕ → Bool → List ℕ
positions n back = pick back (backwards (up_to (suc n))) (up_to (suc n))

pub length_positions : (n : ℕ) (back : Bool) → length (positions n back) ≡ suc n
length_positions n true = ap length (backwards_is (up_to (suc n))) ∙ length-reverse (up_to (suc n)) ∙ length_up_to (suc n)
length_positions n false = length_up_to (suc n)

pub positions_at : (n i : ℕ) (back : Bool) → i ≤ n → pick back (n - i) i ≡ get_or (positions n back) i 0
positions_at n i true h =
    let l = length_up_to (suc n) in
    sym (ap (λ x. get_or x i 0) (backwards_is (up_to (suc n))) ∙ get_or-reverse (up_to (suc n)) i 0 (omega arith)
    ∙ ap (λ k. get_or (up_to (suc n)) k 0) (let k : length (up_to (suc n)) - 1 - i ≡ n - i = omega arith in k) ∙ up_to_at (suc n) (n - i) (omega arith))
positions_at n i false h = sym (up_to_at (suc n) i (omega arith))

-- those of the positions that pass, from the end or the beginning
pub those_positions : (f : ℕ → Bool) (n : ℕ) (back : Bool) → those f (positions n back) ≡ pick back (backwards (those f (up_to (suc n)))) (those f (up_to (suc n)))
those_positions f n true = those_backwards f (up_to (suc n))
those_positions f n false = refl
