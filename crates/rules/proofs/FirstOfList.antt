-- Of the elements of a list that pass a test there is a first one, in any order, or there is none.
use Rattle.std.proofs.Common.{◌≡◌, Bool, true, false, ◌⊎◌, List, [], ◌∷◌, sym, refl, subst, inl, inr, arith}
use mathlib.Core.List.Memᴰ.{cases_cons as in_cases}
use mathlib.Core.List.Memᴰ.{head as here}
use mathlib.Core.List.Memᴰ.{tail as later}
use mathlib.Core.List.{Memᴰ as In}
use Rattle.std.proofs.lemmas.Bool.{cases_Bool}

-- what holds of the head and of each element of the tail holds of each element
pub in_both : {A : Type 0} (P : A → Type 0) (x : A) (xs : List A) → P x → ((y : A) → In y xs → P y) → (y : A) → In y (x ∷ xs) → P y
in_both P x xs p ps y i = go (in_cases i)
  where
    go : (y ≡ x) ⊎ In y xs → P y
    go (inl e) = subst P (sym e) p
    go (inr j) = ps y j

-- x is in the list and passes the test f, and nothing there that passes comes before it
abbrev pub Least : {A : Type 0} → (A → A → Bool) → (A → Bool) → List A → A → Type 0
Least {A} before f xs x = In x xs × (f x ≡ true) × ((y : A) → In y xs → f y ≡ true → before y x ≡ false)

-- nothing in the list passes the test f
abbrev pub Lacks : {A : Type 0} → (A → Bool) → List A → Type 0
Lacks {A} f xs = (y : A) → In y xs → f y ≡ false

module _ {A : Type 0} (before : A → A → Bool) (irrefl : (a : A) → before a a ≡ false)
    (trans : (a b c : A) → before a b ≡ true → before b c ≡ true → before a c ≡ true) (f : A → Bool) where
  pub first_of : (xs : List A) → ((x : A) × Least before f xs x) ⊎ Lacks f xs
  first_of [] = inr (λ y i. elim i [ ])
  first_of (x ∷ xs) = go (first_of xs) (cases_Bool (f x))
    where
      After : A → A → Type 0
      After z y = f y ≡ true → before y z ≡ false

      stays : (r : A) → Least before f xs r → After r x → Least before f (x ∷ xs) r
      stays r h k = (later h.0, h.1, in_both (After r) x xs k h.2)

      leads : f x ≡ true → ((y : A) → In y xs → After x y) → Least before f (x ∷ xs) x
      leads h k = (here refl, h, in_both (After x) x xs (λ _. irrefl x) k)

      against : (r : A) → Least before f xs r → f x ≡ true → (before x r ≡ true) ⊎ (before x r ≡ false) → (y : A) × Least before f (x ∷ xs) y
      against r h k (inl b) = (x, leads k (λ y i g. let t = trans y x r in let m = h.2 y i g in grind arith))
      against r h k (inr b) = (r, stays r h (λ _. b))

      go : ((y : A) × Least before f xs y) ⊎ Lacks f xs → (f x ≡ true) ⊎ (f x ≡ false) → ((y : A) × Least before f (x ∷ xs) y) ⊎ Lacks f (x ∷ xs)
      go (inl m) (inl h) = inl (against m.0 m.1 h (cases_Bool (before x m.0)))
      go (inl m) (inr h) = inl (m.0, stays m.0 m.1 (λ g. grind arith))
      go (inr m) (inl h) = inl (x, leads h (λ y i g. let n = m y i in grind arith))
      go (inr m) (inr h) = inr (in_both (λ y. f y ≡ false) x xs h m)
