-- Places lie within the text.
use Rattle.std.proofs.Common.{◌≡◌, ℕ, zero, suc, ◌-◌, ◌≤◌, Bool, true, ◌&&◌, eqb, leb, List, [], ◌∷◌, length, take, drop, refl, ap, ◌∙◌, arith}
use Rattle.std.proofs.lemmas.Bool.Decides.{nat_tests}
use Rattle.rules.specs.Lists.{pick, every, up_to, backwards}
use Rattle.rules.specs.Places.{Place, from_first, from_last, nth_of, spot, all_of, nth, before_is, behind_is}
use Rattle.rules.specs.Promises.{PlacesWithin}
use Rattle.rules.proofs.Tests.{pick_both, every_append, every_take, every_drop, every_those, every_backwards}

pub every_up_to : (n m : ℕ) → n ≤ suc m → every (λ k. leb k m) (up_to n) ≡ true
unfolding up_to
every_up_to zero m h = refl
every_up_to (suc n) m h =
    let ih = every_up_to n m (omega arith) in
    let a = every_append (λ k. leb k m) (up_to n) (n ∷ []) in
    grind (arith, nat_tests)

pub every_nth : (p : ℕ → Bool) (ps : List ℕ) (n : ℕ) → every p ps ≡ true → every p (nth ps n) ≡ true
every_nth p ps n h =
    pick_both (eqb n 0) [] (take 1 (drop (n - 1) ps)) (λ xs. every p xs ≡ true) (λ _. refl) (λ _. every_take p 1 (drop (n - 1) ps) (every_drop p (n - 1) ps h))

pub all_of_within : (t : List ℕ) (l r : ℕ) → every (λ k. leb k (length t)) (all_of t l r) ≡ true
all_of_within t l r = every_those (λ k. leb k (length t)) (λ p. before_is t l p && behind_is t r p) (up_to (suc (length t))) (every_up_to (suc (length t)) (length t) (omega arith))

pub places_within : PlacesWithin
unfolding spot
places_within t (from_first n) = grind (arith, nat_tests)
places_within t (from_last n) = grind (arith, nat_tests)
places_within t (nth_of l r n back) =
    every_nth (λ k. leb k (length t)) (pick back (backwards (all_of t l r)) (all_of t l r)) n
    (pick_both back (backwards (all_of t l r)) (all_of t l r) (λ xs. every (λ k. leb k (length t)) xs ≡ true)
    (λ _. every_backwards (λ k. leb k (length t)) (all_of t l r) (all_of_within t l r)) (λ _. all_of_within t l r))

-- so does the one position where a place is
pub spot_within : (t : List ℕ) (p : Place) (k : ℕ) → k ∷ [] ≡ spot t p → k ≤ length t
spot_within t p k e = let within = places_within t p in let here : every (λ j. leb j (length t)) (k ∷ []) ≡ true = ap (every (λ j. leb j (length t))) e ∙ within in grind (arith, nat_tests)
