-- What the numbers of a row say: its place, what it costs, and where it lies.
use Rattle.std.proofs.Common.{◌≡◌, ℕ, zero, suc, ◌+◌, ◌-◌, ◌<◌, ◌≤◌, true, false, not, eqb, leb, List, [], ◌∷◌, ◌++◌, length, get_or, take, drop, sym, refl, ap, ◌∙◌, arith, length-append}
use Rattle.std.proofs.lemmas.List.{get_or-drop, get_or_append_left, get_or_at}
use Rattle.std.proofs.lemmas.Bool.{and_parts, not-true}
use Rattle.rules.specs.Lists.{pick, none_of, backwards}
use Rattle.rules.specs.Places.{Place, from_first, from_last, nth_of, all_of, spot}
use Rattle.rules.specs.Rules.{place_cost}
use Rattle.rules.specs.Examples.{Example}
use Rattle.rules.proofs.Tests.{pick_both}
use Rattle.candidates.specs.Positions.{position, positions_in}
use Rattle.candidates.specs.Rows.{given_of, lies_in_all}
use Rattle.candidates.specs.RowTable.{place_numbers, asked_position, row_of, place_from}

-- WHERE A PLACE LIES
one_at_most : (xs : List ℕ) → none_of (take 1 xs) ≡ false → take 1 xs ≡ get_or (take 1 xs) 0 255 ∷ []
one_at_most [] h = grind arith
one_at_most (x ∷ xs) h = refl

-- a place that is there lies in its position
pub lies_there : (t : List ℕ) (p : Place) → none_of (spot t p) ≡ false → spot t p ≡ position t p ∷ []
unfolding spot
lies_there t (from_first n) h = pick_both (leb n (length t)) (n ∷ []) [] (λ l. none_of l ≡ false → l ≡ get_or l 0 255 ∷ []) (λ _ _. refl) (λ _ k. grind arith) h
lies_there t (from_last n) h = pick_both (leb n (length t)) ((length t - n) ∷ []) [] (λ l. none_of l ≡ false → l ≡ get_or l 0 255 ∷ []) (λ _ _. refl) (λ _ k. grind arith) h
lies_there t (nth_of l r n b) h =
    pick_both (eqb n 0) [] (take 1 (drop (n - 1) (pick b (backwards (all_of t l r)) (all_of t l r)))) (λ l. none_of l ≡ false → l ≡ get_or l 0 255 ∷ []) (λ _ k. grind arith)
    (λ _ k. one_at_most (drop (n - 1) (pick b (backwards (all_of t l r)) (all_of t l r))) k) h

pub lies_in_each : (es : List Example) (p : Place) (e : ℕ) → lies_in_all es p ≡ true → e < length es → none_of (spot (given_of es e) p) ≡ false
lies_in_each [] p e h k = absurd (omega arith)
lies_in_each (x ∷ es) p zero h k = not-true (none_of (spot x.given p)) (and_parts (not (none_of (spot x.given p))) (lies_in_all es p) h).0
lies_in_each (x ∷ es) p (suc e) h k = lies_in_each es p e (and_parts (not (none_of (spot x.given p))) (lies_in_all es p) h).1 (omega arith)

pub positions_long : (es : List Example) (n : ℕ) (p : Place) → length (positions_in es n p) ≡ n
positions_long es zero p = refl
positions_long [] (suc n) p = ap suc (positions_long [] n p)
positions_long (e ∷ es) (suc n) p = ap suc (positions_long es n p)

positions_at : (es : List Example) (n : ℕ) (p : Place) (e : ℕ) → e < length es → length es ≤ n → get_or (positions_in es n p) e 0 ≡ position (given_of es e) p
positions_at [] n p e h k = absurd (omega arith)
positions_at (x ∷ es) zero p e h k = absurd (omega arith)
positions_at (x ∷ es) (suc n) p zero h k = refl
positions_at (x ∷ es) (suc n) p (suc e) h k = positions_at es n p e (omega arith) (omega arith)

-- THE NUMBERS
module _ (es : List Example) (asked : List (List ℕ)) where
  -- the last ten: where it lies
  pub row_lies : (p : Place) → drop 6 (row_of es asked p) ≡ positions_in es 8 p ++ (asked_position asked p ∷ 0 ∷ [])
  unfolding place_numbers
  row_lies (from_first n) = refl
  row_lies (from_last n) = refl
  row_lies (nth_of l r n b) = refl

  pub row_long : (p : Place) → length (row_of es asked p) ≡ 16
  unfolding place_numbers
  row_long (from_first n) = let a = positions_long es 8 (from_first n) in let b = length-append (positions_in es 8 (from_first n)) (asked_position asked (from_first n) ∷ 0 ∷ []) in omega arith
  row_long (from_last n) = let a = positions_long es 8 (from_last n) in let b = length-append (positions_in es 8 (from_last n)) (asked_position asked (from_last n) ∷ 0 ∷ []) in omega arith
  row_long (nth_of l r n b) = let c = positions_long es 8 (nth_of l r n b) in let d = length-append (positions_in es 8 (nth_of l r n b)) (asked_position asked (nth_of l r n b) ∷ 0 ∷ []) in omega arith

  pub row_costs : (p : Place) → get_or (row_of es asked p) 5 0 ≡ place_cost p
  unfolding place_numbers
  row_costs (from_first n) = refl
  row_costs (from_last n) = refl
  row_costs (nth_of l r n b) = refl

  pub row_place : (p : Place) → place_from (get_or (row_of es asked p) 0 0) (get_or (row_of es asked p) 1 0) (get_or (row_of es asked p) 2 0) (get_or (row_of es asked p) 3 0) (get_or (row_of es asked p) 4 0) ≡ p
  unfolding place_numbers place_from
  row_place (from_first n) = refl
  row_place (from_last n) = refl
  row_place (nth_of l r n true) = refl
  row_place (nth_of l r n false) = refl

  pub row_position : (p : Place) (e : ℕ) → e < length es → length es ≤ 8 → get_or (row_of es asked p) (6 + e) 0 ≡ position (given_of es e) p
  row_position p e h k =
      sym (get_or-drop 6 (row_of es asked p) e 0) ∙ ap (λ l. get_or l e 0) (row_lies p)
      ∙ get_or_append_left (positions_in es 8 p) (asked_position asked p ∷ 0 ∷ []) 0 e (let a = positions_long es 8 p in omega arith) ∙ positions_at es 8 p e h k

  pub row_asked : (p : Place) → get_or (row_of es asked p) 14 0 ≡ asked_position asked p
  row_asked p = sym (get_or-drop 6 (row_of es asked p) 8 0) ∙ ap (λ l. get_or l 8 0) (row_lies p) ∙ get_or_at (positions_in es 8 p) (asked_position asked p) (0 ∷ []) 0 8 (positions_long es 8 p)

-- the one text that may be asked about
pub asked_is : (asked : List (List ℕ)) (e : ℕ) (p : Place) → length asked ≤ 1 → e < length asked → position (get_or asked e []) p ≡ asked_position asked p
asked_is [] e p h k = absurd (omega arith)
asked_is (t ∷ ts) zero p h k = refl
asked_is (t ∷ ts) (suc e) p h k = absurd (omega arith)
