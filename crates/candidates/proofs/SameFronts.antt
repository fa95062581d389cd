-- Lists with the same front have the same numbers and the same parts there.
use Rattle.std.proofs.Common.{◌≡◌, ℕ, ◌+◌, ◌<◌, ◌≤◌, List, get_or, take, drop, sym, ap, ◌∙◌}
use Rattle.std.proofs.lemmas.List.{take-take, get_or-take, drop-take}

module _ (n : ℕ) (xs ys : List ℕ) (same : take n xs ≡ take n ys) where
  pub same_shorter : (m : ℕ) → m ≤ n → take m xs ≡ take m ys
  same_shorter m h = sym (take-take m n xs h) ∙ ap (take m) same ∙ take-take m n ys h

  pub same_number : (i : ℕ) → i < n → get_or xs i 0 ≡ get_or ys i 0
  same_number i h = sym (get_or-take n xs i 0 h) ∙ ap (λ l. get_or l i 0) same ∙ get_or-take n ys i 0 h

  pub same_part : (a k : ℕ) → a + k ≤ n → take k (drop a xs) ≡ take k (drop a ys)
  same_part a k h = sym (drop-take a k xs) ∙ ap (drop a) (same_shorter (a + k) h) ∙ drop-take a k ys
