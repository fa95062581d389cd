-- `each` and `every` over what a loop has gone through of a list, and over what is left of it.
use Rattle.std.proofs.Common.{◌≡◌, ℕ, zero, suc, ◌+◌, ◌<◌, Bool, true, List, [], ◌∷◌, ◌++◌, length, get_or, take, drop, sym, refl, ap, ◌∙◌, subst, arith}
use Rattle.std.proofs.lemmas.List.{at_drop_more, take_more}
use Rattle.std.proofs.lemmas.Bool.{and_from, and_parts}
use Rattle.rules.specs.Lists.{every, each}

module _ {A B : Type 0} (f : A → B) where
  -- what is left begins with the element that is read
  pub each_left : (xs : List A) (i : ℕ) (x : A) → i < length xs → x ≡ get_or xs i x → each f (drop i xs) ≡ f x ∷ each f (drop (i + 1) xs)
  each_left xs i x h e = at_drop_more (each f) xs i x h ∙ ap (λ y. f y ∷ each f (drop (i + 1) xs)) (sym e)

  pub each_append : (xs ys : List A) → each f (xs ++ ys) ≡ each f xs ++ each f ys
  each_append [] ys = refl
  each_append (x ∷ xs) ys = ap (λ l. f x ∷ l) (each_append xs ys)

  -- and what was gone through then ends with it
  pub each_past : (xs : List A) (i : ℕ) (x : A) → i < length xs → x ≡ get_or xs i x → each f (take (i + 1) xs) ≡ each f (take i xs) ++ f x ∷ []
  each_past xs i x h e = ap (each f) (take_more xs i x h) ∙ each_append (take i xs) (get_or xs i x ∷ []) ∙ ap (λ y. each f (take i xs) ++ f y ∷ []) (sym e)

  pub each_length : (xs : List A) → length (each f xs) ≡ length xs
  each_length [] = refl
  each_length (x ∷ xs) = ap suc (each_length xs)

pub every_push : {A : Type 0} (p : A → Bool) (xs : List A) (x : A) → every p xs ≡ true → p x ≡ true → every p (xs ++ x ∷ []) ≡ true
every_push p [] x h e = and_from _ _ e refl
every_push p (y ∷ xs) x h e = let parts = and_parts (p y) (every p xs) h in and_from _ _ parts.0 (every_push p xs x parts.1 e)

-- what holds of each holds of the one that is read
pub every_at : {A B : Type 0} (f : A → B) (p : B → Bool) (xs : List A) (i : ℕ) (x : A) → every p (each f xs) ≡ true → i < length xs → x ≡ get_or xs i x → p (f x) ≡ true
every_at f p [] i x all h e = absurd (omega arith)
every_at f p (y ∷ xs) zero x all h e = subst (λ z. p (f z) ≡ true) (sym e) (and_parts (p (f y)) (every p (each f xs)) all).0
every_at f p (y ∷ xs) (suc i) x all h e = every_at f p xs i x (and_parts (p (f y)) (every p (each f xs)) all).1 (omega arith) e
