-- Every candidate is a valid part.
use Rattle.std.proofs.Common.{◌≡◌, ℕ, zero, suc, ◌+◌, ◌-◌, ◌*◌, ◌/◌, ◌%◌, ◌<◌, ◌≤◌, true, ltb, List, ◌∷◌, length, get_or, take, drop, arith, length-drop}
use Rattle.std.proofs.lemmas.Nat.{div_below, mod_below}
use Rattle.std.proofs.lemmas.List.{length-take-le}
use Rattle.std.proofs.lemmas.Bool.{and_from, ltb-true, ltb-false, le-leb}
use Rattle.rules.specs.Lists.{every}
use Rattle.rules.specs.Rules.{bytes, a_part}
use Rattle.rules.specs.Examples.{Example}
use Rattle.rules.proofs.Tests.{pick_both, every_take, every_drop}
use Rattle.candidates.specs.Rows.{Rows, GoodRows, small_examples}
use Rattle.candidates.specs.Candidates.{literals, count, cut_by, candidate}
use Rattle.candidates.proofs.CandidatesFew.{first_small}

-- two rows that are numbered together are rows
pub rows_below : (n i : ℕ) → i < n * n → (i / n < n) × (i % n < n)
rows_below zero i h = absurd (omega arith)
rows_below (suc n) i h = (div_below i (suc n) (suc n) (omega arith) h, mod_below i (suc n) (omega arith))

pub cut_valid : (es : List Example) (asked : List (List ℕ)) (R : Rows) (i : ℕ) → GoodRows es asked R → i < R.count * R.count → a_part (cut_by R i) ≡ true
unfolding a_part
cut_valid es asked R i g h = let b = rows_below R.count i h in and_from _ _ (g.valid (i / R.count) b.0) (g.valid (i % R.count) b.1)

-- some of the next bytes of a small text
pub next_length : (w : List ℕ) (j i : ℕ) → i < length w - j → length (take (i + 1) (drop j w)) ≡ i + 1
next_length w j i h = let d = length-drop j w in length-take-le (i + 1) (drop j w) (omega arith)

literal_valid : (w : List ℕ) (j i : ℕ) → length w ≤ 64 → every (λ c. ltb c 256) w ≡ true → i < length w - j → a_part (bytes (take (i + 1) (drop j w))) ≡ true
unfolding a_part
literal_valid w j i h b k =
    let l = next_length w j i k in
    and_from _ _ (le-leb 1 (length (take (i + 1) (drop j w))) (omega arith))
    (and_from _ _ (le-leb (length (take (i + 1) (drop j w))) 64 (omega arith)) (every_take (λ c. ltb c 256) (i + 1) (drop j w) (every_drop (λ c. ltb c 256) j w b)))

pub candidates_valid :
    (e : Example) (es : List Example) (asked : List (List ℕ)) (R : Rows) (s : List ℕ) (i : ℕ) → small_examples (e ∷ es) ≡ true → GoodRows (e ∷ es) asked R →
    i < count (e ∷ es) R s → a_part (candidate (e ∷ es) R s i) ≡ true
unfolding candidate
candidates_valid e es asked R s i small g h =
    let l = literals (e ∷ es) s in
    let f = first_small e es small in
    pick_both (ltb i l) (bytes (take (i + 1) (drop (get_or s 0 0) e.wanted))) (cut_by R (i - l)) (λ p. a_part p ≡ true)
    (λ t. literal_valid e.wanted (get_or s 0 0) i f.0 f.1 (ltb-true i l t))
    (λ t. let k = ltb-false i l t in cut_valid (e ∷ es) asked R (i - l) g (omega arith))
