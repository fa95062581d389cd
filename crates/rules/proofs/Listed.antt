-- Tests that only so many pass that one list has them all. Such a list only has to be there: it is never computed.
use Rattle.std.proofs.Common.{◌≡◌, ℕ, zero, suc, ◌<◌, Bool, true, ◌&&◌, ltb, leb, ◌⊎◌, List, [], ◌∷◌, ◌++◌, length, refl, ap, inl, inr, arith}
use mathlib.Core.List.Memᴰ.{append_left as in_left}
use mathlib.Core.List.Memᴰ.{append_right as in_right}
use mathlib.Core.List.Memᴰ.{cases_cons as in_cases}
use mathlib.Core.List.Memᴰ.{head as here}
use mathlib.Core.List.Memᴰ.{tail as later}
use mathlib.Core.List.{Memᴰ as In}
use Rattle.std.proofs.lemmas.Bool.{cases_eq}
use Rattle.std.proofs.lemmas.Bool.Decides.{nat_tests}
use Rattle.rules.specs.Lists.{every, each, flat, up_to}

-- a list that has each that passes the test p
abbrev pub Listed : {A : Type 0} → (A → Bool) → Type 0
Listed {A} p = (xs : List A) × ((a : A) → p a ≡ true → In a xs)

pub in_each : {A B : Type 0} (f : A → B) (xs : List A) (a : A) → In a xs → In (f a) (each f xs)
in_each f [] a i = elim i [ ]
in_each f (x ∷ xs) a i = go (in_cases i) (in_each f xs a)
  where
    go : (a ≡ x) ⊎ In a xs → (In a xs → In (f a) (each f xs)) → In (f a) (f x ∷ each f xs)
    go (inl e) ih = here (ap f e)
    go (inr j) ih = later (ih j)

pub in_flat : {A B : Type 0} (g : A → List B) (xs : List A) (a : A) (b : B) → In a xs → In b (g a) → In b (flat g xs)
in_flat g [] a b i k = elim i [ ]
in_flat g (x ∷ xs) a b i k = go (in_cases i) (in_flat g xs a b)
  where
    go : (a ≡ x) ⊎ In a xs → (In a xs → In b (g a) → In b (flat g xs)) → In b (g x ++ flat g xs)
    go (inl e) ih = in_left (flat g xs) (rw e at k)
    go (inr j) ih = in_right (g x) (ih j k)

in_up_to : (n k : ℕ) → k < n → In k (up_to n)
unfolding up_to
in_up_to zero k h = absurd (omega arith)
in_up_to (suc n) k h = go (cases_eq k n) (in_up_to n k)
  where
    go : (k ≡ n) ⊎ (k ≡ n → ⊥) → (k < n → In k (up_to n)) → In k (up_to n ++ n ∷ [])
    go (inl e) ih = in_right (up_to n) (here e)
    go (inr d) ih = in_left (n ∷ []) (ih (omega arith))

pub numbers_listed : (n : ℕ) → Listed (λ k. ltb k n)
numbers_listed n = (up_to n, λ k h. in_up_to n k (grind (arith, nat_tests)))

-- up to n elements, each of which passes p
pub lists_listed : {A : Type 0} (p : A → Bool) → Listed p → (n : ℕ) → Listed (λ xs. leb (length xs) n && every p xs)
lists_listed {A} p all zero = ([] ∷ [], only)
  where
    only : (xs : List A) → (leb (length xs) zero && every p xs) ≡ true → In xs ([] ∷ [])
    only [] h = here refl
    only (x ∷ xs) h = absurd (grind (arith, nat_tests))
lists_listed {A} p all (suc n) = go (lists_listed p all n)
  where
    go : Listed (λ (xs : List A). leb (length xs) n && every p xs) → Listed (λ (xs : List A). leb (length xs) (suc n) && every p xs)
    go rest = ([] ∷ flat (λ a. each (λ as₁. a ∷ as₁) rest.0) all.0, has)
      where
        has : (xs : List A) → (leb (length xs) (suc n) && every p xs) ≡ true → In xs ([] ∷ flat (λ a. each (λ as₁. a ∷ as₁) rest.0) all.0)
        has [] h = here refl
        has (x ∷ xs) h =
            later (in_flat (λ a. each (λ as₁. a ∷ as₁) rest.0) all.0 x (x ∷ xs) (all.1 x (grind (arith, nat_tests))) (in_each (λ as₁. x ∷ as₁) rest.0 xs (rest.1 xs (grind (arith, nat_tests)))))
