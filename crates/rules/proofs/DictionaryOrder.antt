-- The order of a dictionary is an order: no list comes before itself, it is transitive, and of two lists that differ one comes first.
use Rattle.std.proofs.Common.{◌≡◌, ℕ, true, false, List, [], ◌∷◌, refl, arith}
use Rattle.std.proofs.lemmas.Bool.Decides.{nat_tests}
use Rattle.std.proofs.lemmas.Cmp.{same_from_slice_cmp}
use Rattle.std.specs.Cmp.Lexicographic.{slice_cmp}
use Rattle.std.specs.Ordering.{nat_cmp, is_lt}
use Rattle.rules.specs.Lists.{earlier}

pub earlier_irrefl : (xs : List ℕ) → earlier xs xs ≡ false
unfolding earlier
earlier_irrefl [] = refl
earlier_irrefl (x ∷ xs) = let ih = earlier_irrefl xs in grind (arith, nat_tests)

pub earlier_trans : (xs ys zs : List ℕ) → earlier xs ys ≡ true → earlier ys zs ≡ true → earlier xs zs ≡ true
unfolding earlier
earlier_trans [] [] zs h k = k
earlier_trans [] (y ∷ ys) [] h k = k
earlier_trans [] (y ∷ ys) (z ∷ zs) h k = refl
earlier_trans (x ∷ xs) [] zs h k = grind arith
earlier_trans (x ∷ xs) (y ∷ ys) [] h k = k
earlier_trans (x ∷ xs) (y ∷ ys) (z ∷ zs) h k = let ih = earlier_trans xs ys zs in grind (arith, nat_tests)

pub earlier_total : (xs ys : List ℕ) → earlier xs ys ≡ false → earlier ys xs ≡ false → xs ≡ ys
unfolding earlier
earlier_total [] [] h k = refl
earlier_total [] (y ∷ ys) h k = grind arith
earlier_total (x ∷ xs) [] h k = grind arith
earlier_total (x ∷ xs) (y ∷ ys) h k = let ih = earlier_total xs ys in grind (arith, nat_tests)

-- it is the library's order on texts
pub earlier_is : (xs ys : List ℕ) → is_lt (slice_cmp nat_cmp xs ys) ≡ earlier xs ys
unfolding earlier
earlier_is xs ys = same_from_slice_cmp nat_cmp is_lt earlier refl (λ _ _. refl) (λ _ _. refl) (λ x y xs ys o h. grind (arith, nat_tests)) xs ys _ refl
