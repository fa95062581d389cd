-- What is read of the four parts of a problem: the numbers in front, the texts, the guide and the table.
use Rattle.std.proofs.Common.{◌≡◌, ℕ, ◌+◌, ◌<◌, ◌≤◌, List, [], ◌++◌, length, get_or, take, drop, sym, refl, ap, ◌∙◌, append_assoc, append-nil, arith, length-append, length-drop, take-append-drop, length-take}
use Rattle.std.proofs.lemmas.List.{take_all, take_at, drop_at, drop-drop, get_or_append_left}

-- a part between two others
module _ (a k : ℕ) (p q s xs : List ℕ) (front : length p ≡ a) (size : length q ≡ k) (is : xs ≡ p ++ (q ++ s)) where
  part_read : take k (drop a xs) ≡ q
  part_read = ap (take k) (ap (drop a) is ∙ drop_at p (q ++ s) a front) ∙ take_at q s k size

-- the four parts of a problem are all of it
module _ (ns : List ℕ) (size : length ns ≡ 109866) where
  rest : (a k : ℕ) → take k (drop a ns) ++ drop (a + k) ns ≡ drop a ns
  rest a k = ap (λ l. take k (drop a ns) ++ l) (sym (drop-drop k a ns)) ∙ take-append-drop k (drop a ns)

  pub four_parts : ns ≡ take 16 ns ++ (take 1170 (drop 16 ns) ++ (take 4680 (drop 1186 ns) ++ take 104000 (drop 5866 ns)))
  four_parts =
      let last : take 104000 (drop 5866 ns) ≡ drop 5866 ns = take_all 104000 (drop 5866 ns) (omega (arith, length-drop 5866 ns)) in
      sym (ap (λ l. take 16 ns ++ (take 1170 (drop 16 ns) ++ (take 4680 (drop 1186 ns) ++ l))) last
      ∙ ap (λ l. take 16 ns ++ (take 1170 (drop 16 ns) ++ l)) (rest 1186 4680) ∙ ap (λ l. take 16 ns ++ l) (rest 16 1170) ∙ take-append-drop 16 ns)

  pub part_long : (a k : ℕ) → a + k ≤ 109866 → length (take k (drop a ns)) ≡ k
  part_long a k h = let t = length-take k (drop a ns) in let d = length-drop a ns in omega arith

-- what is read of four parts
module _ (h t g b : List ℕ) (head : length h ≡ 16) (texts : length t ≡ 1170) (guide : length g ≡ 4680) (table : length b ≡ 104000) where
  abbrev whole : List ℕ
  whole = h ++ (t ++ (g ++ b))

  pub four_long : length whole ≡ 109866
  four_long = let x = length-append h (t ++ (g ++ b)) in let y = length-append t (g ++ b) in let z = length-append g b in omega arith

  pub texts_part : take 1170 (drop 16 whole) ≡ t
  texts_part = part_read 16 1170 h t (g ++ b) whole head texts refl

  two_long : length (h ++ t) ≡ 1186
  two_long = let x = length-append h t in omega arith

  three_long : length (h ++ (t ++ g)) ≡ 5866
  three_long = let x = length-append h (t ++ g) in let y = length-append t g in omega arith

  -- grouped around the guide, and around the table
  two : whole ≡ (h ++ t) ++ (g ++ b)
  two = sym (append_assoc h t (g ++ b))

  three : whole ≡ (h ++ (t ++ g)) ++ (b ++ [])
  three = sym (append_assoc h (t ++ g) (b ++ []) ∙ ap (λ l. h ++ l) (append_assoc t g (b ++ [])) ∙ ap (λ l. h ++ (t ++ (g ++ l))) (append-nil b))

  pub guide_part : take 4680 (drop 1186 whole) ≡ g
  guide_part = part_read 1186 4680 (h ++ t) g b whole two_long guide two

  pub table_part : take 104000 (drop 5866 whole) ≡ b
  table_part = part_read 5866 104000 (h ++ (t ++ g)) b [] whole three_long table three

  pub head_number : (i : ℕ) → i < 16 → get_or whole i 0 ≡ get_or h i 0
  head_number i l = get_or_append_left h (t ++ (g ++ b)) 0 i (omega arith)
