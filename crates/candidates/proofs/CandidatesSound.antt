-- What a search needs of the candidates, said of a view that holds the examples: they are few, valid, in order, keep a state fit, and stand for every valid part.
use Rattle.std.proofs.Common.{◌≡◌, ℕ, ◌+◌, ◌*◌, ◌<◌, ◌≤◌, true, false, leb, ◌⊎◌, List, ◌∷◌, length, sym, ◌∙◌, subst, arith}
use Rattle.std.proofs.lemmas.Bool.{and_parts, leb-true}
use Rattle.rules.specs.Lists.{every, earlier}
use Rattle.rules.specs.Rules.{Part, a_part}
use Rattle.rules.specs.Order.{part_spelled}
use Rattle.rules.specs.Examples.{Example}
use Rattle.candidates.specs.Weights.{part_weight}
use Rattle.candidates.specs.Moves.{goes, moved, fit, start}
use Rattle.candidates.specs.Rows.{small_example, small_examples}
use Rattle.candidates.specs.Candidates.{candidate, StandsFor}
use Rattle.candidates.specs.Problem.{View, count_in, all_go, all_moved, candidate_piece, candidate_weight}
use Rattle.candidates.specs.Laid.{Laid, rows_of}
use Rattle.candidates.proofs.StaysFit.{start_fit, stays_fit}
use Rattle.candidates.proofs.CandidatesFew.{candidates_few}
use Rattle.candidates.proofs.CandidatesValid.{candidates_valid}
use Rattle.candidates.proofs.CandidatesOrdered.{candidates_ordered}
use Rattle.candidates.proofs.Exchange.{complete}
use Rattle.candidates.proofs.CandidatePieces.{count_agrees, weight_agrees}
use Rattle.candidates.proofs.ViewAgrees.{goes_agrees, moved_agrees}

pub fit_start : (es : List Example) → small_examples es ≡ true → fit es start ≡ true
fit_start es small = start_fit es (leb-true (length es) 8 (and_parts (leb (length es) 8) (every small_example es) small).0)

module _ (x : Example) (rest : List Example) (asked : List (List ℕ)) (v : View) (laid : Laid (x ∷ rest) asked v) where
  pub fit_after :
      (s : List ℕ) (i : ℕ) → fit (x ∷ rest) s ≡ true → i < count_in v s → all_go v (candidate_piece v s i) v.examples s ≡ true →
      fit (x ∷ rest) (all_moved (candidate_piece v s i) v.examples s) ≡ true
  fit_after s i f h g =
      let c = count_agrees x rest asked v laid s in
      let p = candidate (x ∷ rest) (rows_of v) s i in
      subst (λ y. fit (x ∷ rest) y ≡ true) (sym (moved_agrees x rest asked v laid s f i (omega arith)))
      (stays_fit (x ∷ rest) p s f (sym (goes_agrees x rest asked v laid s f i (omega arith)) ∙ g))

  pub few : small_examples (x ∷ rest) ≡ true → (s : List ℕ) → count_in v s ≤ 64 + v.rows * v.rows
  few small s = let c = count_agrees x rest asked v laid s in let n = candidates_few x rest (rows_of v) s small in omega arith

  pub valid : small_examples (x ∷ rest) ≡ true → (s : List ℕ) (i : ℕ) → i < count_in v s → a_part (candidate (x ∷ rest) (rows_of v) s i) ≡ true
  valid small s i h = let c = count_agrees x rest asked v laid s in candidates_valid x rest asked (rows_of v) s i small laid.good (omega arith)

  pub ordered :
      (s : List ℕ) (i j : ℕ) → i < j → j < count_in v s →
      earlier (part_spelled (candidate (x ∷ rest) (rows_of v) s i)) (part_spelled (candidate (x ∷ rest) (rows_of v) s j)) ≡ true
  ordered s i j h k = let c = count_agrees x rest asked v laid s in candidates_ordered (x ∷ rest) asked (rows_of v) s i j laid.good h (omega arith)

  pub stood_for : (s : List ℕ) (p : Part) → a_part p ≡ true → goes (x ∷ rest) p s ≡ true → (i : ℕ) × StandsFor (x ∷ rest) (rows_of v) s p i
  stood_for s p a g = complete x rest asked (rows_of v) s p laid.good a g

  -- the same in the terms of the view
  pub stood_for_in_view :
      (s : List ℕ) (p : Part) → fit (x ∷ rest) s ≡ true → a_part p ≡ true → goes (x ∷ rest) p s ≡ true →
      (i : ℕ) × (i < count_in v s) × (all_go v (candidate_piece v s i) v.examples s ≡ true)
      × (all_moved (candidate_piece v s i) v.examples s ≡ moved (x ∷ rest) p s)
      × ((candidate_weight v s i < part_weight p) ⊎ ((candidate_weight v s i ≡ part_weight p) × (earlier (part_spelled p) (part_spelled (candidate (x ∷ rest) (rows_of v) s i)) ≡ false)))
  stood_for_in_view s p f a g =
      let i = (stood_for s p a g).0 in
      let is = (stood_for s p a g).1 in
      let c = count_agrees x rest asked v laid s in
      let below = is.below in (
        i,
        omega arith,
        goes_agrees x rest asked v laid s f i below ∙ is.goes_too,
        moved_agrees x rest asked v laid s f i below ∙ is.same_move,
        subst (λ w. (w < part_weight p) ⊎ ((w ≡ part_weight p) × (earlier (part_spelled p) (part_spelled (candidate (x ∷ rest) (rows_of v) s i)) ≡ false)))
            (sym (weight_agrees x rest asked v laid s i below)) is.no_later,
      )
