-- A text of at most 64 bytes has at most 6500 places: at a position few kinds end and few begin.
use Rattle.std.proofs.Common.{◌≡◌, ℕ, zero, suc, ◌+◌, ◌-◌, ◌*◌, ◌≤◌, Bool, true, false, not, ◌&&◌, eqb, ltb, leb, List, [], ◌∷◌, ◌++◌, length, get_or, sym, refl, ap, ◌∙◌, arith, length-append}
use Rattle.std.proofs.lemmas.Bool.Decides.{nat_tests}
use Rattle.std.proofs.lemmas.Bool.{ltb-false, ne_eqb, and_parts}
use Rattle.rules.specs.Lists.{pick, or, each, those, flat, up_to}
use Rattle.rules.specs.Places.{from_first, from_last, of_kind, there, before_is, behind_is, all_of}
use Rattle.rules.specs.Rules.{a_kind}
use Rattle.rules.proofs.EachElement.{each_length}
use Rattle.rules.proofs.NthCounts.{length_up_to}
use Rattle.rules.proofs.Tests.{pick_both}
use Rattle.candidates.specs.Places.{stands_in, kinds_in, both_ways, places_between, places_behind, places_in}
use Rattle.candidates.specs.Weights.{smaller}

-- SUMS OVER LISTS
-- the sum of f over a list
abbrev pub total : {A : Type 0} → (A → ℕ) → List A → ℕ
total f [] = 0
total f (x ∷ xs) = f x + total f xs

module _ {A : Type 0} where
  pub total-++ : (f : A → ℕ) (xs ys : List A) → total f (xs ++ ys) ≡ total f xs + total f ys
  total-++ f [] ys = omega arith
  total-++ f (x ∷ xs) ys = omega (arith, total-++ f xs ys)

  pub total-≤ : (f g : A → ℕ) → ((x : A) → f x ≤ g x) → (xs : List A) → total f xs ≤ total g xs
  total-≤ f g h [] = omega arith
  total-≤ f g h (x ∷ xs) = omega (arith, total-≤ f g h xs, h x)

  pub total_most : (f : A → ℕ) (m : ℕ) → ((x : A) → f x ≤ m) → (xs : List A) → total f xs ≤ m * length xs
  total_most f m h [] = omega arith
  total_most f m h (x ∷ xs) = omega (arith, total_most f m h xs, h x)

  pub total_add : (f g : A → ℕ) (xs : List A) → total (λ x. f x + g x) xs ≡ total f xs + total g xs
  total_add f g [] = refl
  total_add f g (x ∷ xs) = omega (arith, total_add f g xs)

  pub total_zero : (xs : List A) → total (λ x. 0) xs ≡ 0
  total_zero [] = refl
  total_zero (x ∷ xs) = omega (arith, total_zero xs)

  pub total_those : (f : A → ℕ) (p : A → Bool) (xs : List A) → total f (those p xs) ≤ total f xs
  total_those f p [] = omega arith
  total_those f p (x ∷ xs) = let ih = total_those f p xs in grind arith

  -- m for each element that passes
  pub total_times : (p : A → Bool) (m : ℕ) (xs : List A) → total (λ x. pick (p x) m 0) xs ≡ m * length (those p xs)
  total_times p m [] = omega arith
  total_times p m (x ∷ xs) =
      let ih = total_times p m xs in
      pick_both (p x) (x ∷ those p xs) (those p xs) (λ l. pick (p x) m 0 + total (λ y. pick (p y) m 0) xs ≡ m * length l) (λ e. rw e (omega arith)) (λ e. rw e (omega arith))

  pub length_flat : {B : Type 0} (f : A → List B) (xs : List A) → length (flat f xs) ≡ total (λ x. length (f x)) xs
  length_flat f [] = refl
  length_flat f (x ∷ xs) = omega (arith, length_flat f xs, length-append (f x) (flat f xs))

-- the order of summing does not matter
pub total_swap : {A B : Type 0} (f : A → B → ℕ) (xs : List A) (ys : List B) → total (λ x. total (f x) ys) xs ≡ total (λ y. total (λ x. f x y) xs) ys
total_swap f [] ys = sym (total_zero ys)
total_swap f (x ∷ xs) ys = ap (λ n. total (f x) ys + n) (total_swap f xs ys) ∙ sym (total_add (f x) (λ y. total (λ z. f z y) xs) ys)

-- THE KINDS AT A POSITION
-- anything, a run, or the one sign s
abbrev run_or : ℕ → ℕ → Bool
run_or s k = pick (ltb k 6) true (eqb k s)

-- a kind from 6 on is no run, so the byte says which sign it is
kind_run_or : (k c : ℕ) → of_kind k c ≡ true → run_or (256 + c) k ≡ true
kind_run_or k c h = pick_both (ltb k 6) true (eqb k (256 + c)) (λ b. b ≡ true) (λ _. refl) sign
  where
    sign : ltb k 6 ≡ false → eqb k (256 + c) ≡ true
    sign e =
        let high : 6 ≤ k = ltb-false k 6 e in
        let one : eqb k 1 ≡ false = ne_eqb k 1 (λ z. omega arith) in
        let two : eqb k 2 ≡ false = ne_eqb k 2 (λ z. omega arith) in
        let three : eqb k 3 ≡ false = ne_eqb k 3 (λ z. omega arith) in
        let four : eqb k 4 ≡ false = ne_eqb k 4 (λ z. omega arith) in
        let five : eqb k 5 ≡ false = ne_eqb k 5 (λ z. omega arith) in
        rw (one, two, three, four, five) at h

there_run_or : (t : List ℕ) (k p : ℕ) → there t k p ≡ true → run_or (256 + get_or t p 0) k ≡ true
there_run_or t k p h = kind_run_or k (get_or t p 0) (and_parts (ltb p (length t)) (of_kind k (get_or t p 0)) h).1

before_run_or : (t : List ℕ) (k p : ℕ) → before_is t k p ≡ true → run_or (256 + get_or t (p - 1) 0) k ≡ true
before_run_or t zero p h = refl
before_run_or t (suc k) p h =
    let ends = or (leb 256 (suc k)) (not (there t (suc k) p)) in
    let some : eqb (suc k) 0 ≡ false = ne_eqb (suc k) 0 (λ z. omega arith) in
    there_run_or t (suc k) (p - 1) (and_parts (there t (suc k) (p - 1)) ends (and_parts (leb 1 p) (there t (suc k) (p - 1) && ends) (rw some at h)).1).0

behind_run_or : (t : List ℕ) (k p : ℕ) → behind_is t k p ≡ true → run_or (256 + get_or t p 0) k ≡ true
behind_run_or t zero p h = refl
behind_run_or t (suc k) p h =
    let some : eqb (suc k) 0 ≡ false = ne_eqb (suc k) 0 (λ z. omega arith) in
    there_run_or t (suc k) p (and_parts (there t (suc k) p) (or (leb 256 (suc k)) (or (eqb p 0) (not (there t (suc k) (p - 1))))) (rw some at h)).0

-- 0 to 5 are six kinds, and a sign is one
runs_few : (n : ℕ) → (total (λ k. pick (ltb k 6) 1 0) (up_to n) ≤ n) × (total (λ k. pick (ltb k 6) 1 0) (up_to n) ≤ 6)
unfolding up_to
runs_few zero = omega arith
runs_few (suc n) =
    let ih = runs_few n in
    let push = total-++ (λ k. pick (ltb k 6) 1 0) (up_to n) (n ∷ []) in
    grind (arith, nat_tests)

sign_once : (s n : ℕ) → (total (λ k. pick (eqb k s) 1 0) (up_to n) ≤ 1) × (n ≤ s → total (λ k. pick (eqb k s) 1 0) (up_to n) ≡ 0)
unfolding up_to
sign_once s zero = omega arith
sign_once s (suc n) =
    let ih = sign_once s n in
    let push = total-++ (λ k. pick (eqb k s) 1 0) (up_to n) (n ∷ []) in
    grind (arith, nat_tests)

module _ (s : ℕ) (f : ℕ → Bool) (only : (k : ℕ) → f k ≡ true → run_or s k ≡ true) where
  one_of : (k : ℕ) → pick (f k) 1 0 ≤ pick (ltb k 6) 1 0 + pick (eqb k s) 1 0
  one_of k = let h = only k in grind (arith, nat_tests)

  -- so of any kinds that are chosen at most seven pass
  kinds_few : (g : ℕ → Bool) (n : ℕ) → length (those f (those g (up_to n))) ≤ 7
  kinds_few g n =
      let count = total_times f 1 (those g (up_to n)) in
      let chosen = total_those (λ k. pick (f k) 1 0) g (up_to n) in
      let each_one = total-≤ (λ k. pick (f k) 1 0) (λ k. pick (ltb k 6) 1 0 + pick (eqb k s) 1 0) one_of (up_to n) in
      let parted = total_add (λ k. pick (ltb k 6) 1 0) (λ k. pick (eqb k s) 1 0) (up_to n) in
      let runs = (runs_few n).1 in
      let sign = (sign_once s n).0 in
      omega arith

smaller-≤ : (a b : ℕ) → smaller a b ≤ a
smaller-≤ a b = grind (arith, nat_tests)

-- PAIRS OF KINDS AT A POSITION
module _ (ks : List ℕ) (a b : ℕ → Bool) (few_a : length (those a ks) ≤ 7) (few_b : length (those b ks) ≤ 7) where
  pairs_with : (x : Bool) → total (λ r. pick (x && b r) 2 0) ks ≤ pick x 14 0
  pairs_with true = omega (arith, total_times b 2 ks)
  pairs_with false = omega (arith, total_zero ks)

  pairs_few : total (λ l. total (λ r. pick (a l && b r) 2 0) ks) ks ≤ 98
  pairs_few = omega (arith, total-≤ (λ l. total (λ r. pick (a l && b r) 2 0) ks) (λ l. pick (a l) 14 0) (λ l. pairs_with (a l)) ks, total_times a 14 ks)

-- PLACES
module _ (t : List ℕ) where
  -- between two kinds there are two places for each position
  between_few : (l r : ℕ) → length (places_between t l r) ≤ total (λ p. pick (before_is t l p && behind_is t r p) 2 0) (up_to (suc (length t)))
  unfolding places_between
  between_few l r =
      pick_both (eqb (l + r) 0) [] (flat (both_ways l r) (up_to (smaller (length (all_of t l r)) 64))) (λ ps. length ps ≤ total (λ p. pick (before_is t l p && behind_is t r p) 2 0) (up_to (suc (length t))))
      (λ _. omega arith)
      (λ _.
      let counted = total_times (λ p. before_is t l p && behind_is t r p) 2 (up_to (suc (length t))) in
      let long = length_flat (both_ways l r) (up_to (smaller (length (all_of t l r)) 64)) in
      let two = total_most (λ n. length (both_ways l r n)) 2 (λ n. omega arith) (up_to (smaller (length (all_of t l r)) 64)) in
      let many = length_up_to (smaller (length (all_of t l r)) 64) in
      let less = smaller-≤ (length (all_of t l r)) 64 in
      omega arith)

  -- over all pairs of kinds, position by position
  module _ (ks : List ℕ) (few_before : (p : ℕ) → length (those (λ l. before_is t l p) ks) ≤ 7) (few_behind : (p : ℕ) → length (those (λ r. behind_is t r p) ks) ≤ 7) where
    behind-≤ : (l : ℕ) → length (places_behind t ks l) ≤ total (λ p. total (λ r. pick (before_is t l p && behind_is t r p) 2 0) ks) (up_to (suc (length t)))
    unfolding places_behind
    behind-≤ l =
        let long = length_flat (λ r. places_between t l r) ks in
        let each_one = total-≤ (λ r. length (places_between t l r)) (λ r. total (λ p. pick (before_is t l p && behind_is t r p) 2 0) (up_to (suc (length t)))) (between_few l) ks in
        let swapped = total_swap (λ r p. pick (before_is t l p && behind_is t r p) 2 0) ks (up_to (suc (length t))) in
        omega arith

    nth_few : length (flat (λ l. places_behind t ks l) ks) ≤ 98 * suc (length t)
    nth_few =
        let long = length_flat (λ l. places_behind t ks l) ks in
        let each_one = total-≤ (λ l. length (places_behind t ks l)) (λ l. total (λ p. total (λ r. pick (before_is t l p && behind_is t r p) 2 0) ks) (up_to (suc (length t)))) behind-≤ ks in
        let swapped = total_swap (λ l p. total (λ r. pick (before_is t l p && behind_is t r p) 2 0) ks) ks (up_to (suc (length t))) in
        let each_position = total_most (λ p. total (λ l. total (λ r. pick (before_is t l p && behind_is t r p) 2 0) ks) ks) 98 (λ p. pairs_few ks (λ l. before_is t l p) (λ r. behind_is t r p) (few_before p) (few_behind p)) (up_to (suc (length t))) in
        let positions = length_up_to (suc (length t)) in
        omega arith

  few_before_in : (p : ℕ) → length (those (λ l. before_is t l p) (kinds_in t)) ≤ 7
  unfolding kinds_in
  few_before_in p = kinds_few (256 + get_or t (p - 1) 0) (λ l. before_is t l p) (λ k. before_run_or t k p) (λ k. a_kind k && stands_in t k) 512

  few_behind_in : (p : ℕ) → length (those (λ r. behind_is t r p) (kinds_in t)) ≤ 7
  unfolding kinds_in
  few_behind_in p = kinds_few (256 + get_or t p 0) (λ r. behind_is t r p) (λ k. behind_run_or t k p) (λ k. a_kind k && stands_in t k) 512

pub places_few : (t : List ℕ) → length t ≤ 64 → length (places_in t) ≤ 6500
unfolding places_in
places_few t h =
    let firsts = each (λ n. from_first n) (up_to 65) in
    let lasts = each (λ n. from_last n) (up_to 65) in
    let nths = flat (λ l. places_behind t (kinds_in t) l) (kinds_in t) in
    let whole = length-append firsts (lasts ++ nths) in
    let rest = length-append lasts nths in
    let first = each_length (λ n. from_first n) (up_to 65) in
    let last = each_length (λ n. from_last n) (up_to 65) in
    let numbers = length_up_to 65 in
    let few = nth_few t (kinds_in t) (few_before_in t) (few_behind_in t) in
    omega arith
