-- What is needed does not rise with the number of parts, and is never more than far.
use Rattle.std.proofs.Common.{◌≡◌, ℕ, zero, suc, ◌+◌, ◌<◌, ◌≤◌, List, [], ◌∷◌, ◌++◌, length, get_or, refl, ap, arith}
use Rattle.std.proofs.lemmas.Bool.Decides.{nat_tests}
use Rattle.candidates.specs.Weights.{far}
use Rattle.candidates.specs.Guide.{steps, least_sum, column, columns}

pub least_sum_far : (k : ℕ) (ns : List ℕ) (cs : List (List ℕ)) → least_sum k ns cs ≤ far
unfolding least_sum
least_sum_far k [] cs = omega arith
least_sum_far k (n ∷ ns) [] = omega arith
least_sum_far k (n ∷ ns) (c ∷ cs) = let ih = least_sum_far k ns cs in grind (arith, nat_tests)

-- no more than any one of the sums
pub least_sum_at : (k : ℕ) (ns : List ℕ) (cs : List (List ℕ)) (i : ℕ) → i < length ns → i < length cs → least_sum k ns cs ≤ get_or ns i 0 + get_or (get_or cs i []) k 0
unfolding least_sum
least_sum_at k [] cs i h l = absurd (omega arith)
least_sum_at k (n ∷ ns) [] i h l = absurd (omega arith)
least_sum_at k (n ∷ ns) (c ∷ cs) zero h l = grind (arith, nat_tests)
least_sum_at k (n ∷ ns) (c ∷ cs) (suc i) h l = let ih = least_sum_at k ns cs i (omega arith) (omega arith) in grind (arith, nat_tests)

-- entry k + 1 of a column
pub column_entry : (ns : List ℕ) (cs : List (List ℕ)) (k : ℕ) → k < 8 → get_or (column ns cs) (suc k) 0 ≡ least_sum k ns cs
column_entry ns cs zero h = refl
column_entry ns cs (suc zero) h = refl
column_entry ns cs (suc (suc zero)) h = refl
column_entry ns cs (suc (suc (suc zero))) h = refl
column_entry ns cs (suc (suc (suc (suc zero)))) h = refl
column_entry ns cs (suc (suc (suc (suc (suc zero))))) h = refl
column_entry ns cs (suc (suc (suc (suc (suc (suc zero)))))) h = refl
column_entry ns cs (suc (suc (suc (suc (suc (suc (suc zero))))))) h = refl
column_entry ns cs (suc (suc (suc (suc (suc (suc (suc (suc k)))))))) h = absurd (omega arith)

-- nothing is needed at the end
pub end_entry : (cs gs : List ℕ) (k : ℕ) → get_or (get_or (columns cs gs []) 0 []) k 0 ≡ 0
unfolding columns
end_entry cs gs zero = refl
end_entry cs gs (suc zero) = refl
end_entry cs gs (suc (suc zero)) = refl
end_entry cs gs (suc (suc (suc zero))) = refl
end_entry cs gs (suc (suc (suc (suc zero)))) = refl
end_entry cs gs (suc (suc (suc (suc (suc zero))))) = refl
end_entry cs gs (suc (suc (suc (suc (suc (suc zero)))))) = refl
end_entry cs gs (suc (suc (suc (suc (suc (suc (suc zero))))))) = refl
end_entry cs gs (suc (suc (suc (suc (suc (suc (suc (suc zero)))))))) = refl
end_entry cs gs (suc (suc (suc (suc (suc (suc (suc (suc (suc k))))))))) = refl

least_sum_falls : (k : ℕ) (ns : List ℕ) (cs : List (List ℕ)) → ((i : ℕ) → get_or (get_or cs i []) (suc k) 0 ≤ get_or (get_or cs i []) k 0) → least_sum (suc k) ns cs ≤ least_sum k ns cs
unfolding least_sum
least_sum_falls k [] cs h = omega arith
least_sum_falls k (n ∷ ns) [] h = omega arith
least_sum_falls k (n ∷ ns) (c ∷ cs) h =
    let ih = least_sum_falls k ns cs (λ i. h (suc i)) in
    let here = h 0 in
    grind (arith, nat_tests)

pub columns_fall : (cs gs ws : List ℕ) (k : ℕ) → k < 8 → (i : ℕ) → get_or (get_or (columns cs gs ws) i []) (suc k) 0 ≤ get_or (get_or (columns cs gs ws) i []) k 0
unfolding columns
columns_fall cs gs [] k h zero = let a = end_entry cs gs k in let b = end_entry cs gs (suc k) in omega arith
columns_fall cs gs [] k h (suc i) = omega arith
columns_fall cs gs (w ∷ ws) zero h zero = least_sum_far 0 (steps cs gs (w ∷ ws)) (columns cs gs ws)
columns_fall cs gs (w ∷ ws) (suc k) h zero =
    let below : k < 8 = omega arith in
    let falls = least_sum_falls k (steps cs gs (w ∷ ws)) (columns cs gs ws) (columns_fall cs gs ws k below) in
    let a = column_entry (steps cs gs (w ∷ ws)) (columns cs gs ws) k below in
    let b = column_entry (steps cs gs (w ∷ ws)) (columns cs gs ws) (suc k) h in
    omega arith
columns_fall cs gs (w ∷ ws) k h (suc i) = columns_fall cs gs ws k h i

pub length_columns : (cs gs ws : List ℕ) → length (columns cs gs ws) ≡ suc (length ws)
unfolding columns
length_columns cs gs [] = refl
length_columns cs gs (w ∷ ws) = ap suc (length_columns cs gs ws)

-- past what has been made, the columns are those of what is left
pub columns_past : (cs gs a b : List ℕ) → get_or (columns cs gs (a ++ b)) (length a) [] ≡ get_or (columns cs gs b) 0 []
unfolding columns
columns_past cs gs [] b = refl
columns_past cs gs (x ∷ xs) b = columns_past cs gs xs b
