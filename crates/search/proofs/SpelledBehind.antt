-- Which of two rules is spelled earlier is decided by their first parts, and only where these are spelled alike by what stands behind them.
use Rattle.std.proofs.Common.{◌≡◌, ℕ, Bool, true, false, eqb, ltb, ◌⊎◌, List, [], ◌∷◌, ◌++◌, sym, refl, ap, subst, inl, inr, ⊎_elim, arith}
use Rattle.std.proofs.lemmas.Bool.{both_ways, cases_Bool, and_parts, eqb-true}
use Rattle.std.proofs.lemmas.Bool.Decides.{nat_tests}
use Rattle.rules.specs.Lists.{earlier}
use Rattle.rules.specs.Rules.{Part}
use Rattle.rules.specs.Order.{part_spelled}
use Rattle.rules.proofs.DictionaryOrder.{earlier_trans}
use Rattle.rules.proofs.SpellingPrefixFree.{part_prefix_free}

pub not_so : (b : Bool) → (b ≡ true → ⊥) → b ≡ false
not_so true h = absurd (h refl)
not_so false h = refl

pub nothing_earlier : (xs : List ℕ) → earlier xs [] ≡ false
unfolding earlier
nothing_earlier [] = refl
nothing_earlier (x ∷ xs) = refl

-- the one list is not gone on from by the other
abbrev Apart : List ℕ → List ℕ → Type 0
Apart a b = (x y : List ℕ) → a ++ x ≡ b ++ y → a ≡ b

tail_same : (a b : ℕ) (as₁ bs : List ℕ) → a ∷ as₁ ≡ b ∷ bs → as₁ ≡ bs
tail_same a b as₁ bs h = grind arith

lists_behind : (a b x y : List ℕ) → Apart a b → earlier (a ++ x) (b ++ y) ≡ true → (earlier a b ≡ true) ⊎ ((a ≡ b) × (earlier x y ≡ true))
unfolding earlier
lists_behind [] [] x y p h = inr (refl, h)
lists_behind [] (b ∷ bs) x y p h = inl refl
lists_behind (a ∷ as₁) [] x y p h = let e = p [] (a ∷ (as₁ ++ [])) refl in absurd (grind arith)
lists_behind (a ∷ as₁) (b ∷ bs) x y p h = go (cases_Bool (ltb a b)) (lists_behind as₁ bs x y)
  where
    go : (ltb a b ≡ true) ⊎ (ltb a b ≡ false) → (Apart as₁ bs → earlier (as₁ ++ x) (bs ++ y) ≡ true → (earlier as₁ bs ≡ true) ⊎ ((as₁ ≡ bs) × (earlier x y ≡ true))) → (earlier (a ∷ as₁) (b ∷ bs) ≡ true) ⊎ ((a ∷ as₁ ≡ b ∷ bs) × (earlier x y ≡ true))
    go (inl t) ih = inl (grind (arith, nat_tests))
    go (inr f) ih =
        let k : (eqb a b ≡ true) × (earlier (as₁ ++ x) (bs ++ y) ≡ true) = and_parts (eqb a b) (earlier (as₁ ++ x) (bs ++ y)) (grind arith) in
        let e = eqb-true a b k.0 in
        let apart : Apart as₁ bs = λ u v same. tail_same a b as₁ bs (p u v (let s : as₁ ++ u ≡ bs ++ v = same in cc)) in
        ⊎_elim (λ t. inl (grind (arith, nat_tests))) (λ t. inr (let s = t.0 in cc, t.1)) (ih apart k.1)

parts_apart : (p q : Part) → Apart (part_spelled p) (part_spelled q)
parts_apart p q x y h = ap part_spelled (part_prefix_free p q x y h).0

pub spelled_behind : (p q : Part) (x y : List ℕ) → earlier (part_spelled p ++ x) (part_spelled q ++ y) ≡ true → (earlier (part_spelled p) (part_spelled q) ≡ true) ⊎ ((part_spelled p ≡ part_spelled q) × (earlier x y ≡ true))
spelled_behind p q x y h = lists_behind (part_spelled p) (part_spelled q) x y (parts_apart p q) h

-- with first parts that are not earlier, and what is not earlier behind them, a rule is not earlier
pub not_earlier : (p q : Part) (x y : List ℕ) → earlier (part_spelled p) (part_spelled q) ≡ false → earlier x y ≡ false → earlier (part_spelled p ++ x) (part_spelled q ++ y) ≡ false
not_earlier p q x y h k = not_so (earlier (part_spelled p ++ x) (part_spelled q ++ y)) (λ e. ⊎_elim (λ a. both_ways _ h a) (λ b. both_ways _ k b.1) (spelled_behind p q x y e))

-- nor with a first part that does not come before one that comes after that of the other
pub not_earlier_past : (p q d : Part) (x y : List ℕ) → earlier (part_spelled q) (part_spelled d) ≡ true → earlier (part_spelled p) (part_spelled d) ≡ false → earlier (part_spelled p ++ x) (part_spelled q ++ y) ≡ false
not_earlier_past p q d x y h k =
    not_so (earlier (part_spelled p ++ x) (part_spelled q ++ y))
    (λ e. both_ways _ k (⊎_elim (λ a. earlier_trans (part_spelled p) (part_spelled q) (part_spelled d) a h) (λ b. subst (λ z. earlier z (part_spelled d) ≡ true) (sym b.0) h) (spelled_behind p q x y e)))
