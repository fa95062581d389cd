-- The guide is no more than what any rule weighs that makes what is left of an example's wanted text, where no place that it uses costs less than the least there.
use Rattle.std.proofs.Common.{◌≡◌, ℕ, zero, suc, ◌+◌, ◌-◌, ◌<◌, ◌≤◌, Bool, true, false, ◌&&◌, eqb, leb, List, [], ◌∷◌, ◌++◌, length, get_or, take, drop, sym, refl, ap, ◌∙◌, arith, length-append, length-drop, take-append-drop, length-take, get_or-drop}
use Rattle.std.proofs.lemmas.Bool.{and_parts, leb-true}
use Rattle.rules.specs.Lists.{pick, every, none_of, backwards}
use Rattle.rules.specs.Places.{Place, from_first, from_last, nth_of, spot, all_of}
use Rattle.rules.specs.Rules.{Part, bytes, cut, Rule, nothing, made, from_to, part_of, makes, place_cost, part_cost}
use Rattle.rules.proofs.Tests.{pick_both}
use Rattle.rules.proofs.PlacesWithin.{places_within}
use Rattle.rules.proofs.WhatIsMade.{with_made_pieces}
use Rattle.candidates.specs.Weights.{part_weight, weight}
use Rattle.candidates.specs.Moves.{uses}
use Rattle.candidates.specs.Guide.{steps, columns}
use Rattle.candidates.proofs.GuideSteps.{length_steps, step_by_literal, step_by_cut}
use Rattle.candidates.proofs.GuideFalls.{least_sum_at, column_entry, end_entry, columns_fall, length_columns, columns_past}

-- a list that is none or has one element is the first alone, if there is one
first_alone : (xs : List ℕ) → length xs ≤ 1 → none_of xs ≡ false → xs ≡ get_or xs 0 0 ∷ []
first_alone [] h k = absurd (grind arith)
first_alone (x ∷ []) h k = refl
first_alone (x ∷ y ∷ xs) h k = absurd (omega arith)

one_spot : (t : List ℕ) (p : Place) → length (spot t p) ≤ 1
unfolding spot
one_spot t (from_first n) = pick_both (leb n (length t)) (n ∷ []) [] (λ l. length l ≤ 1) (λ _. omega arith) (λ _. omega arith)
one_spot t (from_last n) = pick_both (leb n (length t)) ((length t - n) ∷ []) [] (λ l. length l ≤ 1) (λ _. omega arith) (λ _. omega arith)
one_spot t (nth_of l r n back) =
    let xs : List ℕ = pick back (backwards (all_of t l r)) (all_of t l r) in
    let m = length-take 1 (drop (n - 1) xs) in
    pick_both (eqb n 0) [] (take 1 (drop (n - 1) xs)) (λ l. length l ≤ 1) (λ _. omega arith) (λ _. omega arith)

-- what a cut between two spots makes
record CutMade (t ps qs w : List ℕ) : Type 0 where
  some_from : none_of ps ≡ false
  some_to : none_of qs ≡ false
  up : get_or ps 0 0 ≤ get_or qs 0 0
  is : take (get_or qs 0 0 - get_or ps 0 0) (drop (get_or ps 0 0) t) ≡ w

cut_made : (t ps qs w : List ℕ) → from_to t ps qs ≡ made w → CutMade t ps qs w
cut_made t [] qs w e = absurd (grind arith)
cut_made t (x ∷ xs) [] w e = absurd (grind arith)
cut_made t (x ∷ xs) (y ∷ ys) w e =
    pick_both (leb x y) (made (take (y - x) (drop x t))) nothing (λ m. m ≡ made w → CutMade t (x ∷ xs) (y ∷ ys) w)
    (λ h f. record { some_from = refl; some_to = refl; up = leb-true x y h; is = cc })
    (λ h f. absurd (grind arith)) e

-- a place lies within
within_text : (t xs : List ℕ) → every (λ k. leb k (length t)) xs ≡ true → none_of xs ≡ false → get_or xs 0 0 ≤ length t
within_text t [] h k = absurd (grind arith)
within_text t (x ∷ xs) h k = leb-true x (length t) (and_parts (leb x (length t)) (every (λ k. leb k (length t)) xs) h).0

-- each place that passes the test costs at least what is said of its position
abbrev pub LeastCosts : List ℕ → List ℕ → (Place → Bool) → Type 0
LeastCosts cs t U = (p : Place) (x : ℕ) → U p ≡ true → spot t p ≡ x ∷ [] → get_or cs x 0 ≤ place_cost p

-- the places of a part pass the test
abbrev part_uses : (Place → Bool) → Part → Bool
part_uses U (bytes b) = true
part_uses U (cut p q) = U p && U q

uses_both : (U : Place → Bool) (p : Part) (q : Rule) → uses U (p ∷ q) ≡ true → (part_uses U p ≡ true) × (uses U q ≡ true)
unfolding uses
uses_both U (bytes b) q h = (refl, h)
uses_both U (cut x y) q h = and_parts (U x && U y) (uses U q) h

module _ (cs t : List ℕ) (U : Place → Bool) (room : length t < length cs) (least : LeastCosts cs t U) where
  by_cut : (p q : Place) (y : ℕ) (ys b : List ℕ) → U p ≡ true → U q ≡ true → CutMade t (spot t p) (spot t q) (y ∷ ys) →
      get_or (steps cs t (y ∷ (ys ++ b))) (length ys) 0 ≤ part_weight (cut p q)
  unfolding part_cost
  by_cut p q y ys b hp hq m =
      let i : ℕ = get_or (spot t p) 0 0 in
      let j : ℕ = get_or (spot t q) 0 0 in
      let low : get_or cs i 0 ≤ place_cost p = least p i hp (first_alone (spot t p) (one_spot t p) m.some_from) in
      let high : get_or cs j 0 ≤ place_cost q = least q j hq (first_alone (spot t q) (one_spot t q) m.some_to) in
      let inside : j ≤ length t = within_text t (spot t q) (places_within t q) m.some_to in
      let n = length-take (j - i) (drop i t) in
      let k = length-drop i t in
      let l = length-drop i cs in
      let size : length (take (j - i) (drop i t)) ≡ suc (length ys) = ap length m.is in
      let apart : i + suc (length ys) ≡ j = omega (arith, m.up) in
      let joined : drop i t ≡ (y ∷ ys) ++ drop (j - i) (drop i t) = sym (take-append-drop (j - i) (drop i t)) ∙ ap (λ l. l ++ drop (j - i) (drop i t)) m.is in
      let far_enough : suc (length ys) < length (drop i cs) = omega (arith, m.up) in
      let reached = step_by_cut i y ys cs t (drop (j - i) (drop i t)) b joined far_enough in
      let a = get_or-drop i cs 0 0 in
      let c = get_or-drop i cs (suc (length ys)) 0 in
      let at_i : get_or (drop i cs) 0 0 ≡ get_or cs i 0 = a ∙ ap (λ z. get_or cs z 0) (omega arith) in
      let at_j : get_or (drop i cs) (suc (length ys)) 0 ≡ get_or cs j 0 = c ∙ ap (λ z. get_or cs z 0) apart in
      omega arith

  -- a part that makes some bytes weighs at least the step of so many
  by_part : (p : Part) (y : ℕ) (ys b : List ℕ) → part_uses U p ≡ true → part_of t p ≡ made (y ∷ ys) → get_or (steps cs t (y ∷ (ys ++ b))) (length ys) 0 ≤ part_weight p
  unfolding part_of part_cost
  by_part (bytes x) y ys b u e =
      let same : x ≡ y ∷ ys = cc in
      let size : length x ≡ suc (length ys) = ap length same in
      let n = length-append ys b in
      let low = step_by_literal cs t (y ∷ (ys ++ b)) (length ys) (omega arith) in
      omega arith
  by_part (cut p q) y ys b u e =
      let both = and_parts (U p) (U q) u in
      by_cut p q y ys b both.0 both.1 (cut_made t (spot t p) (spot t q) (y ∷ ys) e)

  -- one part more, in front of what is left
  one_more : (p : Part) (a b : List ℕ) (k rest : ℕ) → k < 8 → part_uses U p ≡ true → part_of t p ≡ made a →
      get_or (get_or (columns cs t b) 0 []) k 0 ≤ rest → get_or (get_or (columns cs t (a ++ b)) 0 []) (suc k) 0 ≤ part_weight p + rest
  unfolding columns
  one_more p [] b k rest h u e behind = let falls = columns_fall cs t b k h 0 in omega arith
  one_more p (y ∷ ys) b k rest h u e behind =
      let here = by_part p y ys b u e in
      let n = length_steps cs t (y ∷ (ys ++ b)) in
      let m = length_columns cs t (ys ++ b) in
      let s = length-append ys b in
      let sum = least_sum_at k (steps cs t (y ∷ (ys ++ b))) (columns cs t (ys ++ b)) (length ys) (omega arith) (omega arith) in
      let entry = column_entry (steps cs t (y ∷ (ys ++ b))) (columns cs t (ys ++ b)) k h in
      let past = ap (λ c. get_or c k 0) (columns_past cs t ys b) in
      omega arith

  pub guide_sound : (q : Rule) (w : List ℕ) (k : ℕ) → k ≤ 8 → length q ≤ k → uses U q ≡ true → makes q t ≡ made w →
      get_or (get_or (columns cs t w) 0 []) k 0 ≤ weight q
  unfolding makes weight
  guide_sound [] w k h l u e =
      let same : w ≡ [] = cc in
      let nothing_left = end_entry cs t k in
      let at = ap (λ v. get_or (get_or (columns cs t v) 0 []) k 0) same in
      omega arith
  guide_sound (p ∷ q) w zero h l u e = absurd (omega arith)
  guide_sound (p ∷ q) w (suc k) h l u e =
      let pieces = with_made_pieces (part_of t p) (makes q t) w e in
      let both = uses_both U p q u in
      let behind = guide_sound q pieces.1 k (omega arith) (omega arith) both.1 pieces.3 in
      let all = one_more p pieces.0 pieces.1 k (weight q) (omega arith) both.0 pieces.2 behind in
      let at = ap (λ v. get_or (get_or (columns cs t v) 0 []) (suc k) 0) pieces.4 in
      omega arith
