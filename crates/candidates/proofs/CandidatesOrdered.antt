-- The candidates stand in the order of their spelling, and no two are spelled alike.
use Rattle.std.proofs.Common.{◌≡◌, ℕ, zero, suc, ◌+◌, ◌-◌, ◌*◌, ◌/◌, ◌%◌, ◌<◌, ◌≤◌, true, ltb, ◌⊎◌, List, [], ◌∷◌, ◌++◌, length, get_or, take, drop, sym, refl, ap, ◌∙◌, subst, inl, inr, arith}
use Rattle.std.proofs.lemmas.Nat.{div-add-mod', le-div}
use Rattle.std.proofs.lemmas.Bool.{ltb-true, ltb-false, cases_lt}
use Rattle.std.proofs.lemmas.Bool.Decides.{nat_tests}
use Rattle.rules.specs.Lists.{earlier}
use Rattle.rules.specs.Places.{Place, from_first, from_last, nth_of}
use Rattle.rules.specs.Rules.{Part, bytes, cut}
use Rattle.rules.specs.Order.{place_spelled, part_spelled}
use Rattle.rules.specs.Examples.{Example}
use Rattle.rules.proofs.Tests.{pick_both}
use Rattle.candidates.specs.Rows.{Rows, GoodRows}
use Rattle.candidates.specs.Candidates.{first_wanted, literals, count, cut_by, candidate}
use Rattle.candidates.proofs.CandidatesValid.{rows_below, next_length}

-- behind what is the same, what follows decides
pub earlier_behind : (x a b : List ℕ) → earlier (x ++ a) (x ++ b) ≡ earlier a b
unfolding earlier
earlier_behind [] a b = refl
earlier_behind (x ∷ xs) a b = let ih = earlier_behind xs a b in grind (arith, nat_tests)

-- of two lists of one length the earlier stays so whatever follows
earlier_before : (x y a b : List ℕ) → length x ≡ length y → earlier x y ≡ true → earlier (x ++ a) (y ++ b) ≡ true
unfolding earlier
earlier_before [] [] a b l h = grind arith
earlier_before [] (y ∷ ys) a b l h = grind arith
earlier_before (x ∷ xs) [] a b l h = grind arith
earlier_before (x ∷ xs) (y ∷ ys) a b l h = let ih = earlier_before xs ys a b in grind (arith, nat_tests)

-- a place's spelling says where it ends, so what follows does not matter
pub place_before : (p q : Place) (a b : List ℕ) → earlier (place_spelled p) (place_spelled q) ≡ true → earlier (place_spelled p ++ a) (place_spelled q ++ b) ≡ true
unfolding place_spelled earlier
place_before (from_first m) (from_first n) a b h = earlier_before (0 ∷ m ∷ []) (0 ∷ n ∷ []) a b refl h
place_before (from_first m) (from_last n) a b h = refl
place_before (from_first m) (nth_of l r n c) a b h = refl
place_before (from_last m) (from_first n) a b h = h
place_before (from_last m) (from_last n) a b h = earlier_before (1 ∷ m ∷ []) (1 ∷ n ∷ []) a b refl h
place_before (from_last m) (nth_of l r n c) a b h = refl
place_before (nth_of l r n c) (from_first m) a b h = h
place_before (nth_of l r n c) (from_last m) a b h = h
place_before (nth_of l r n c) (nth_of k s m d) a b h = earlier_before (place_spelled (nth_of l r n c)) (place_spelled (nth_of k s m d)) a b refl h

pub cut_before_first : (p q x y : Place) → earlier (place_spelled p) (place_spelled q) ≡ true → earlier (part_spelled (cut p x)) (part_spelled (cut q y)) ≡ true
unfolding part_spelled earlier
cut_before_first p q x y h = place_before p q (place_spelled x) (place_spelled y) h

pub cut_before_second : (p x y : Place) → earlier (part_spelled (cut p x)) (part_spelled (cut p y)) ≡ earlier (place_spelled x) (place_spelled y)
unfolding part_spelled earlier
cut_before_second p x y = earlier_behind (place_spelled p) (place_spelled x) (place_spelled y)

-- two numbers by quotient and remainder
quotients : (n a b : ℕ) → a < b → b < n * n → (a / n < b / n) ⊎ ((a / n ≡ b / n) × (a % n < b % n))
quotients zero a b h k = absurd (omega arith)
quotients (suc n) a b h k = go (cases_lt (a / suc n) (b / suc n))
  where
    go : (a / suc n < b / suc n) ⊎ (b / suc n ≤ a / suc n) → (a / suc n < b / suc n) ⊎ ((a / suc n ≡ b / suc n) × (a % suc n < b % suc n))
    go (inl l) = inl l
    go (inr m) =
        let x = div-add-mod' a (suc n) in
        let y = div-add-mod' b (suc n) in
        let z = le-div (a / suc n) b (suc n) (omega arith) (omega arith) in
        let e : a / suc n ≡ b / suc n = omega arith in
        let f : a / suc n * suc n ≡ b / suc n * suc n = ap (λ q. q * suc n) e in
        inr (e, omega arith)

cuts_ordered : (es : List Example) (asked : List (List ℕ)) (R : Rows) (a b : ℕ) → GoodRows es asked R → a < b → b < R.count * R.count → earlier (part_spelled (cut_by R a)) (part_spelled (cut_by R b)) ≡ true
cuts_ordered es asked R a b g h k = go (quotients R.count a b h k)
  where
    below : (b / R.count < R.count) × (b % R.count < R.count)
    below = rows_below R.count b k

    go : (a / R.count < b / R.count) ⊎ ((a / R.count ≡ b / R.count) × (a % R.count < b % R.count)) → earlier (part_spelled (cut_by R a)) (part_spelled (cut_by R b)) ≡ true
    go (inl l) = cut_before_first _ _ _ _ (g.ordered (a / R.count) (b / R.count) l below.0)
    go (inr m) =
        let c = cut_before_second (R.place (b / R.count)) (R.place (a % R.count)) (R.place (b % R.count)) in
        subst (λ q. earlier (part_spelled (cut (R.place q) (R.place (a % R.count)))) (part_spelled (cut_by R b)) ≡ true) (sym m.0)
        (c ∙ g.ordered (a % R.count) (b % R.count) m.1 below.1)

literals_ordered : (w : List ℕ) (k i j : ℕ) → i < j → j < length w - k → earlier (part_spelled (bytes (take (i + 1) (drop k w)))) (part_spelled (bytes (take (j + 1) (drop k w)))) ≡ true
unfolding part_spelled earlier
literals_ordered w k i j h l =
    let a = next_length w k i (omega arith) in
    let b = next_length w k j l in
    grind (arith, nat_tests)

literal_before_cut : (b : List ℕ) (p q : Place) → earlier (part_spelled (bytes b)) (part_spelled (cut p q)) ≡ true
unfolding part_spelled earlier
literal_before_cut b p q = refl

pub candidates_ordered :
    (es : List Example) (asked : List (List ℕ)) (R : Rows) (s : List ℕ) (i j : ℕ) → GoodRows es asked R → i < j → j < count es R s →
    earlier (part_spelled (candidate es R s i)) (part_spelled (candidate es R s j)) ≡ true
unfolding candidate
candidates_ordered es asked R s i j g h k =
    pick_both (ltb j l) (literal j) (cut_by R (j - l)) (λ q. earlier (part_spelled (candidate es R s i)) (part_spelled q) ≡ true)
    (λ t. let a = ltb-true j l t in
    pick_both (ltb i l) (literal i) (cut_by R (i - l)) (λ p. earlier (part_spelled p) (part_spelled (literal j)) ≡ true)
    (λ _. literals_ordered (first_wanted es) (get_or s 0 0) i j h a) (λ u. let b = ltb-false i l u in absurd (omega arith)))
    (λ t. let a = ltb-false j l t in
    pick_both (ltb i l) (literal i) (cut_by R (i - l)) (λ p. earlier (part_spelled p) (part_spelled (cut_by R (j - l))) ≡ true)
    (λ _. literal_before_cut _ _ _) (λ u. let b = ltb-false i l u in cuts_ordered es asked R (i - l) (j - l) g (omega arith) (omega arith)))
  where
    l : ℕ
    l = literals es s

    literal : ℕ → Part
    literal n = bytes (take (n + 1) (drop (get_or s 0 0) (first_wanted es)))
