-- What is in a list: in one that is made from others, by its number, and what holds of each.
use Rattle.std.proofs.Common.{◌≡◌, ℕ, zero, suc, ◌<◌, Bool, true, ◌⊎◌, List, [], ◌∷◌, ◌++◌, length, get_or, sym, refl, ap, ◌∙◌, inl, inr, arith}
use mathlib.Core.List.Memᴰ.{append_cases as in_parts}
use mathlib.Core.List.Memᴰ.{append_left as in_left}
use mathlib.Core.List.Memᴰ.{append_right as in_right}
use mathlib.Core.List.Memᴰ.{cases_cons as in_cases}
use mathlib.Core.List.Memᴰ.{head as here}
use mathlib.Core.List.Memᴰ.{tail as later}
use mathlib.Core.List.{Memᴰ as In}
use Rattle.std.proofs.lemmas.Bool.{cases_eq, and_parts, and_from, both_ways}
use Rattle.rules.specs.Lists.{pick, every, each, those, flat, up_to}
use Rattle.rules.proofs.Tests.{pick_both}

pub in_up_to : (n k : ℕ) → k < n → In k (up_to n)
unfolding up_to
in_up_to zero k h = absurd (omega arith)
in_up_to (suc n) k h = go (cases_eq k n) (in_up_to n k)
  where
    go : (k ≡ n) ⊎ (k ≡ n → ⊥) → (k < n → In k (up_to n)) → In k (up_to n ++ n ∷ [])
    go (inl e) ih = in_right (up_to n) (here e)
    go (inr d) ih = in_left (n ∷ []) (ih (omega arith))

module _ {A : Type 0} (f : A → Bool) where
  pub in_those : (xs : List A) (a : A) → In a xs → f a ≡ true → In a (those f xs)
  in_those [] a i h = elim i [ ]
  in_those (x ∷ xs) a i h = go (in_cases i) (in_those xs a)
    where
      go : (a ≡ x) ⊎ In a xs → (In a xs → f a ≡ true → In a (those f xs)) → In a (pick (f x) (x ∷ those f xs) (those f xs))
      go (inl e) ih = pick_both (f x) (x ∷ those f xs) (those f xs) (λ l. In a l) (λ _. here e) (λ k. absurd (both_ways (f x) k (sym (ap f e) ∙ h)))
      go (inr j) ih = pick_both (f x) (x ∷ those f xs) (those f xs) (λ l. In a l) (λ _. later (ih j h)) (λ _. ih j h)

  pub every_in : (xs : List A) (a : A) → every f xs ≡ true → In a xs → f a ≡ true
  every_in [] a h i = elim i [ ]
  every_in (x ∷ xs) a h i = go (and_parts (f x) (every f xs) h) (in_cases i) (every_in xs a)
    where
      go : (f x ≡ true) × (every f xs ≡ true) → (a ≡ x) ⊎ In a xs → (every f xs ≡ true → In a xs → f a ≡ true) → f a ≡ true
      go p (inl e) ih = ap f e ∙ p.0
      go p (inr j) ih = ih p.1 j

  pub every_from : (xs : List A) → ((a : A) → In a xs → f a ≡ true) → every f xs ≡ true
  every_from [] h = refl
  every_from (x ∷ xs) h = and_from (f x) (every f xs) (h x (here refl)) (every_from xs (λ a i. h a (later i)))

  -- those that pass do
  pub those_pass : (xs : List A) → every f (those f xs) ≡ true
  those_pass [] = refl
  those_pass (x ∷ xs) =
      pick_both (f x) (x ∷ those f xs) (those f xs) (λ l. every f l ≡ true) (λ k. and_from (f x) (every f (those f xs)) k (those_pass xs)) (λ _. those_pass xs)

pub in_each_from : {A B : Type 0} (f : A → B) (xs : List A) (b : B) → In b (each f xs) → (a : A) × In a xs × (b ≡ f a)
in_each_from f [] b i = elim i [ ]
in_each_from {A} f (x ∷ xs) b i = go (in_cases i) (in_each_from f xs b)
  where
    go : (b ≡ f x) ⊎ In b (each f xs) → (In b (each f xs) → (a : A) × In a xs × (b ≡ f a)) → (a : A) × In a (x ∷ xs) × (b ≡ f a)
    go (inl e) ih = (x, here refl, e)
    go (inr j) ih = let r = ih j in (r.0, later r.1, r.2)

pub in_flat_from : {A B : Type 0} (g : A → List B) (xs : List A) (b : B) → In b (flat g xs) → (a : A) × In a xs × In b (g a)
in_flat_from g [] b i = elim i [ ]
in_flat_from {A} g (x ∷ xs) b i = go (in_parts (g x) i) (in_flat_from g xs b)
  where
    go : In b (g x) ⊎ In b (flat g xs) → (In b (flat g xs) → (a : A) × In a xs × In b (g a)) → (a : A) × In a (x ∷ xs) × In b (g a)
    go (inl j) ih = (x, here refl, j)
    go (inr j) ih = let r = ih j in (r.0, later r.1, r.2)

-- each has a number
pub in_at : {A : Type 0} (xs : List A) (a d : A) → In a xs → (i : ℕ) × (i < length xs) × (get_or xs i d ≡ a)
in_at [] a d i = elim i [ ]
in_at (x ∷ xs) a d i = go (in_cases i) (in_at xs a d)
  where
    go : (a ≡ x) ⊎ In a xs → (In a xs → (n : ℕ) × (n < length xs) × (get_or xs n d ≡ a)) → (n : ℕ) × (n < length (x ∷ xs)) × (get_or (x ∷ xs) n d ≡ a)
    go (inl e) ih = (0, omega arith, sym e)
    go (inr j) ih = let r = ih j in (suc r.0, (let k = r.1 in omega arith), r.2)

-- what holds of each holds of the one with a number
pub every_at : {A : Type 0} (f : A → Bool) (xs : List A) (i : ℕ) (d : A) → every f xs ≡ true → i < length xs → f (get_or xs i d) ≡ true
every_at f [] i d h k = absurd (omega arith)
every_at f (x ∷ xs) zero d h k = (and_parts (f x) (every f xs) h).0
every_at f (x ∷ xs) (suc i) d h k = every_at f xs i d (and_parts (f x) (every f xs) h).1 (omega arith)
