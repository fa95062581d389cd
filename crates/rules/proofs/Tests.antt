-- Laws of the tests that the definitions are written with: pick, or, every, any, same.
use Rattle.std.proofs.Common.{◌≡◌, ℕ, zero, suc, Bool, true, false, ◌&&◌, eqb, List, [], ◌∷◌, ◌++◌, take, drop, refl, ap₂, arith}
use Rattle.std.proofs.lemmas.Bool.{eqb-true, eq-eqb, and_parts, and_from}
use Rattle.rules.specs.Lists.{pick, or, every, any, those, same, backwards}

-- what holds of either branch, where it is taken, holds of the choice
pub pick_both : {A : Type 0} (b : Bool) (x y : A) (P : A → Type 0) → (b ≡ true → P x) → (b ≡ false → P y) → P (pick b x y)
pick_both true x y P h k = h refl
pick_both false x y P h k = k refl

pub same_eq : (xs ys : List ℕ) → same xs ys ≡ true → xs ≡ ys
unfolding same
same_eq [] [] h = refl
same_eq [] (y ∷ ys) h = grind arith
same_eq (x ∷ xs) [] h = grind arith
same_eq (x ∷ xs) (y ∷ ys) h =
    let p = and_parts (eqb x y) (same xs ys) h in
    ap₂ (λ a b. a ∷ b) (eqb-true x y p.0) (same_eq xs ys p.1)

pub same_itself : (xs : List ℕ) → same xs xs ≡ true
unfolding same
same_itself [] = refl
same_itself (x ∷ xs) = and_from (eqb x x) (same xs xs) (eq-eqb x x refl) (same_itself xs)

pub every_append : {A : Type 0} (p : A → Bool) (xs ys : List A) → every p (xs ++ ys) ≡ (every p xs && every p ys)
every_append p [] ys = refl
every_append p (x ∷ xs) ys = let ih = every_append p xs ys in grind arith

pub every_take : {A : Type 0} (p : A → Bool) (n : ℕ) (xs : List A) → every p xs ≡ true → every p (take n xs) ≡ true
every_take p zero xs h = refl
every_take p (suc n) [] h = refl
every_take p (suc n) (x ∷ xs) h = let ih = every_take p n xs in grind arith

pub every_drop : {A : Type 0} (p : A → Bool) (n : ℕ) (xs : List A) → every p xs ≡ true → every p (drop n xs) ≡ true
every_drop p zero xs h = h
every_drop p (suc n) [] h = refl
every_drop p (suc n) (x ∷ xs) h = let ih = every_drop p n xs in grind arith

pub every_those : {A : Type 0} (p f : A → Bool) (xs : List A) → every p xs ≡ true → every p (those f xs) ≡ true
every_those p f [] h = refl
every_those p f (x ∷ xs) h = let ih = every_those p f xs in grind arith

pub every_backwards : {A : Type 0} (p : A → Bool) (xs : List A) → every p xs ≡ true → every p (backwards xs) ≡ true
unfolding backwards
every_backwards p [] h = refl
every_backwards p (x ∷ xs) h = let ih = every_backwards p xs in let a = every_append p (backwards xs) (x ∷ []) in grind arith

pub any_append : {A : Type 0} (p : A → Bool) (xs ys : List A) → any p (xs ++ ys) ≡ or (any p xs) (any p ys)
any_append p [] ys = refl
any_append p (x ∷ xs) ys = let ih = any_append p xs ys in grind arith

pub any_take : {A : Type 0} (p : A → Bool) (n : ℕ) (xs : List A) → any p (take n xs) ≡ true → any p xs ≡ true
any_take p zero xs h = grind arith
any_take p (suc n) [] h = h
any_take p (suc n) (x ∷ xs) h = let ih = any_take p n xs in grind arith

pub any_drop : {A : Type 0} (p : A → Bool) (n : ℕ) (xs : List A) → any p (drop n xs) ≡ true → any p xs ≡ true
any_drop p zero xs h = h
any_drop p (suc n) [] h = h
any_drop p (suc n) (x ∷ xs) h = let ih = any_drop p n xs in grind arith
