-- Lists in order: what is made from them in order, or left of them, is in order.
use Rattle.std.proofs.Common.{◌≡◌, ℕ, zero, suc, ◌<◌, ◌≤◌, Bool, true, ◌&&◌, ltb, List, [], ◌∷◌, ◌++◌, length, get_or, sym, refl, ◌∙◌, subst, arith}
use mathlib.Core.List.Memᴰ.{eq_of_singleton as only}
use mathlib.Core.List.{Memᴰ as In}
use Rattle.std.proofs.lemmas.Bool.{and_parts, and_from}
use Rattle.std.proofs.lemmas.Bool.Decides.{nat_tests}
use Rattle.rules.specs.Lists.{every, each, those, flat, up_to}
use Rattle.rules.proofs.Tests.{pick_both, every_append, every_those}
use Rattle.candidates.proofs.ListMembers.{every_in, every_from, every_at, in_flat_from}

pub every_without : {A : Type 0} (f : A → Bool) (xs : List A) (y : A) (zs : List A) → every f (xs ++ y ∷ zs) ≡ true → every f (xs ++ zs) ≡ true
every_without f [] y zs h = (and_parts (f y) (every f zs) h).1
every_without f (x ∷ xs) y zs h = let p = and_parts (f x) (every f (xs ++ y ∷ zs)) h in and_from (f x) (every f (xs ++ zs)) p.0 (every_without f xs y zs p.1)

module _ {A : Type 0} (before : A → A → Bool) where
  -- each element comes before all behind it
  abbrev pub ordered : List A → Bool
  ordered [] = true
  ordered (x ∷ xs) = every (before x) xs && ordered xs

  -- each of the one list comes before each of the other
  abbrev pub all_before : List A → List A → Bool
  all_before xs ys = every (λ x. every (before x) ys) xs

  pub ordered_append : (xs ys : List A) → ordered (xs ++ ys) ≡ (ordered xs && (ordered ys && all_before xs ys))
  ordered_append [] ys = grind arith
  ordered_append (x ∷ xs) ys = let ih = ordered_append xs ys in let e = every_append (before x) xs ys in grind arith

  pub ordered_both : (xs ys : List A) → ordered xs ≡ true → ordered ys ≡ true → ((x y : A) → In x xs → In y ys → before x y ≡ true) → ordered (xs ++ ys) ≡ true
  ordered_both xs ys h k b =
      ordered_append xs ys ∙ and_from (ordered xs) (ordered ys && all_before xs ys) h
      (and_from (ordered ys) (all_before xs ys) k (every_from (λ x. every (before x) ys) xs (λ x i. every_from (before x) ys (λ y j. b x y i j))))

  pub ordered_without : (xs : List A) (y : A) (zs : List A) → ordered (xs ++ y ∷ zs) ≡ true → ordered (xs ++ zs) ≡ true
  ordered_without [] y zs h = (and_parts (every (before y) zs) (ordered zs) h).1
  ordered_without (x ∷ xs) y zs h =
      let p = and_parts (every (before x) (xs ++ y ∷ zs)) (ordered (xs ++ y ∷ zs)) h in
      and_from (every (before x) (xs ++ zs)) (ordered (xs ++ zs)) (every_without (before x) xs y zs p.0) (ordered_without xs y zs p.1)

  -- what stands further to the front comes before
  pub ordered_apart : (xs ys : List A) (x y : A) → ordered (xs ++ ys) ≡ true → In x xs → In y ys → before x y ≡ true
  ordered_apart xs ys x y h i j =
      let p = and_parts (ordered xs) (ordered ys && all_before xs ys) (sym (ordered_append xs ys) ∙ h) in
      let q = and_parts (ordered ys) (all_before xs ys) p.1 in
      every_in (before x) ys y (every_in (λ z. every (before z) ys) xs x q.1 i) j

  pub ordered_at : (xs : List A) (i j : ℕ) (d : A) → ordered xs ≡ true → i < j → j < length xs → before (get_or xs i d) (get_or xs j d) ≡ true
  ordered_at [] i j d h k l = absurd (omega arith)
  ordered_at (x ∷ xs) i zero d h k l = absurd (omega arith)
  ordered_at (x ∷ xs) zero (suc j) d h k l = every_at (before x) xs j d (and_parts (every (before x) xs) (ordered xs) h).0 (omega arith)
  ordered_at (x ∷ xs) (suc i) (suc j) d h k l = ordered_at xs i j d (and_parts (every (before x) xs) (ordered xs) h).1 (omega arith) (omega arith)

  pub ordered_those : (f : A → Bool) (xs : List A) → ordered xs ≡ true → ordered (those f xs) ≡ true
  ordered_those f [] h = refl
  ordered_those f (x ∷ xs) h =
      let p = and_parts (every (before x) xs) (ordered xs) h in
      let ih = ordered_those f xs p.1 in
      pick_both (f x) (x ∷ those f xs) (those f xs) (λ l. ordered l ≡ true)
      (λ _. and_from (every (before x) (those f xs)) (ordered (those f xs)) (every_those (before x) f xs p.0) ih) (λ _. ih)

pub up_to_below : (n m : ℕ) → n ≤ m → every (λ k. ltb k m) (up_to n) ≡ true
unfolding up_to
up_to_below zero m h = refl
up_to_below (suc n) m h = let ih = up_to_below n m (omega arith) in let a = every_append (λ k. ltb k m) (up_to n) (n ∷ []) in grind (arith, nat_tests)

pub ordered_up_to : (n : ℕ) → ordered ltb (up_to n) ≡ true
unfolding up_to
ordered_up_to zero = refl
ordered_up_to (suc n) = ordered_both ltb (up_to n) (n ∷ []) (ordered_up_to n) refl (λ x y i j. subst (λ z. ltb x z ≡ true) (sym (only j)) (every_in (λ k. ltb k n) (up_to n) x (up_to_below n n (omega arith)) i))

module _ {A B : Type 0} (less : A → A → Bool) (before : B → B → Bool) where
  pub ordered_each : (f : A → B) → ((x y : A) → less x y ≡ true → before (f x) (f y) ≡ true) → (xs : List A) → ordered less xs ≡ true → ordered before (each f xs) ≡ true
  ordered_each f m [] h = refl
  ordered_each f m (x ∷ xs) h =
      let p = and_parts (every (less x) xs) (ordered less xs) h in
      and_from (every (before (f x)) (each f xs)) (ordered before (each f xs)) (rest xs p.0) (ordered_each f m xs p.1)
    where
      rest : (ys : List A) → every (less x) ys ≡ true → every (before (f x)) (each f ys) ≡ true
      rest [] k = refl
      rest (y ∷ ys) k = let q = and_parts (less x y) (every (less x) ys) k in and_from (before (f x) (f y)) (every (before (f x)) (each f ys)) (m x y q.0) (rest ys q.1)

  pub ordered_flat : (g : A → List B) → ((x : A) → ordered before (g x) ≡ true) → ((x y : A) (p q : B) → less x y ≡ true → In p (g x) → In q (g y) → before p q ≡ true)
      → (xs : List A) → ordered less xs ≡ true → ordered before (flat g xs) ≡ true
  ordered_flat g inside across [] h = refl
  ordered_flat g inside across (x ∷ xs) h =
      let parts = and_parts (every (less x) xs) (ordered less xs) h in
      ordered_both before (g x) (flat g xs) (inside x) (ordered_flat g inside across xs parts.1)
      (λ p q i j. let r = in_flat_from g xs q j in across x r.0 p q (every_in (less x) xs r.0 parts.0 r.1) i r.2)
