-- The least costs are no more than what a row costs that lies at their position, and no more than what they were; there are as many as there were.
use Rattle.std.proofs.Common.{◌≡◌, ℕ, zero, suc, ◌+◌, ◌<◌, ◌≤◌, min, ◌⊎◌, List, [], length, get_or, replicate, sym, refl, ap, ◌∙◌, subst, inl, inr, add-one, arith, length-set, get_or-set_other, get_or-set_same}
use Rattle.std.proofs.lemmas.List.{set_past}
use Rattle.std.proofs.lemmas.Bool.{cases_eq, cases_lt}
use Rattle.std.proofs.lemmas.Bool.Decides.{nat_tests}
use Rattle.candidates.specs.RowTable.{row_number}
use Rattle.candidates.specs.Weights.{smaller}
use Rattle.candidates.specs.Guide.{lowered, least_costs, all_costs, NoneAbove}

pub min_smaller : (a b : ℕ) → min a b ≡ smaller a b
min_smaller a b = grind (arith, nat_tests)

pub length_least_costs : (t : List ℕ) (e n : ℕ) (cs : List ℕ) → length (least_costs t e n cs) ≡ length cs
unfolding least_costs
length_least_costs t e zero cs = refl
length_least_costs t e (suc n) cs =
    let l : List ℕ = least_costs t e n cs in
    let at : ℕ = row_number t n (6 + e) in
    length-set l at (smaller (get_or l at 0) (row_number t n 5)) ∙ length_least_costs t e n cs

-- one row more
pub least_costs_more : (t : List ℕ) (e n : ℕ) (cs : List ℕ) → least_costs t e (n + 1) cs ≡ lowered (least_costs t e n cs) (row_number t n (6 + e)) (row_number t n 5)
unfolding least_costs
least_costs_more t e n cs = ap (λ m. least_costs t e m cs) (add-one n)

-- at its position a cost is lowered, and elsewhere it stays
lowered_here : (cs : List ℕ) (at cost : ℕ) → at < length cs → get_or (lowered cs at cost) at 0 ≤ cost
lowered_here cs at cost h = let e = get_or-set_same cs at (smaller (get_or cs at 0) cost) 0 h in grind (arith, nat_tests)

pub lowered_lowers : (cs : List ℕ) (at cost i : ℕ) → get_or (lowered cs at cost) i 0 ≤ get_or cs i 0
lowered_lowers cs at cost i = by_place (cases_eq i at) (cases_lt at (length cs))
  where
    by_place : (i ≡ at) ⊎ (i ≡ at → ⊥) → (at < length cs) ⊎ (length cs ≤ at) → get_or (lowered cs at cost) i 0 ≤ get_or cs i 0
    by_place (inr d) k = let e = get_or-set_other cs at i (smaller (get_or cs at 0) cost) 0 d in omega arith
    by_place (inl e) (inl h) =
        let s = get_or-set_same cs at (smaller (get_or cs at 0) cost) 0 h in
        let low : smaller (get_or cs at 0) cost ≤ get_or cs at 0 = grind (arith, nat_tests) in
        subst (λ z. get_or (lowered cs at cost) z 0 ≤ get_or cs z 0) (sym e) (omega arith)
    by_place (inl e) (inr h) = let s = ap (λ l. get_or l i 0) (set_past cs at (smaller (get_or cs at 0) cost) h) in omega arith

pub least_costs_low : (t : List ℕ) (e n : ℕ) (cs : List ℕ) (i : ℕ) → i < n → row_number t i (6 + e) < length cs →
    get_or (least_costs t e n cs) (row_number t i (6 + e)) 0 ≤ row_number t i 5
unfolding least_costs
least_costs_low t e zero cs i h l = absurd (omega arith)
least_costs_low t e (suc n) cs i h l = by_row (cases_eq i n) (λ k. least_costs_low t e n cs i k l)
  where
    by_row : (i ≡ n) ⊎ (i ≡ n → ⊥) → (i < n → get_or (least_costs t e n cs) (row_number t i (6 + e)) 0 ≤ row_number t i 5) →
        get_or (lowered (least_costs t e n cs) (row_number t n (6 + e)) (row_number t n 5)) (row_number t i (6 + e)) 0 ≤ row_number t i 5
    by_row (inl s) ih =
        subst (λ z. get_or (lowered (least_costs t e n cs) (row_number t z (6 + e)) (row_number t z 5)) (row_number t i (6 + e)) 0 ≤ row_number t i 5) s
        (lowered_here (least_costs t e n cs) (row_number t i (6 + e)) (row_number t i 5) (rw length_least_costs l))
    by_row (inr d) ih =
        let before = ih (omega arith) in
        let low = lowered_lowers (least_costs t e n cs) (row_number t n (6 + e)) (row_number t n 5) (row_number t i (6 + e)) in
        omega arith

pub least_costs_lower : (t : List ℕ) (e n : ℕ) (cs : List ℕ) (i : ℕ) → get_or (least_costs t e n cs) i 0 ≤ get_or cs i 0
unfolding least_costs
least_costs_lower t e zero cs i = omega arith
least_costs_lower t e (suc n) cs i =
    let ih = least_costs_lower t e n cs i in
    let low = lowered_lowers (least_costs t e n cs) (row_number t n (6 + e)) (row_number t n 5) i in
    omega arith

none_above_255 : (n i : ℕ) → get_or (replicate n 255) i 0 ≤ 255
none_above_255 zero i = omega arith
none_above_255 (suc n) zero = omega arith
none_above_255 (suc n) (suc i) = none_above_255 n i

-- they start at 255
pub least_costs_small : (t : List ℕ) (e n : ℕ) → NoneAbove 255 (least_costs t e n (replicate 65 255))
least_costs_small t e n i = let low = least_costs_lower t e n (replicate 65 255) i in let top = none_above_255 65 i in omega arith

-- the costs for eight given texts, one by one
pub costs_of : (t : List ℕ) (n e : ℕ) → e < 8 → get_or (all_costs t n) e [] ≡ least_costs t e n (replicate 65 255)
costs_of t n zero h = refl
costs_of t n (suc zero) h = refl
costs_of t n (suc (suc zero)) h = refl
costs_of t n (suc (suc (suc zero))) h = refl
costs_of t n (suc (suc (suc (suc zero)))) h = refl
costs_of t n (suc (suc (suc (suc (suc zero))))) h = refl
costs_of t n (suc (suc (suc (suc (suc (suc zero)))))) h = refl
costs_of t n (suc (suc (suc (suc (suc (suc (suc zero))))))) h = refl
costs_of t n (suc (suc (suc (suc (suc (suc (suc (suc e)))))))) h = absurd (omega arith)
