-- What a view says of a fit state is what the definitions over examples say, if the view holds those examples.
use Rattle.std.proofs.Common.{◌≡◌, ℕ, zero, suc, ◌<◌, ◌≤◌, true, ◌&&◌, eqb, List, [], ◌∷◌, length, get_or, take, Some, None, Option, sym, refl, ap, ◌∙◌, ap₂, arith}
use Rattle.std.proofs.lemmas.List.{take_all}
use Rattle.rules.specs.Lists.{pick, every}
use Rattle.rules.specs.Rules.{Rule, a_part}
use Rattle.rules.specs.Examples.{Example}
use Rattle.candidates.specs.Weights.{part_weight, weight}
use Rattle.candidates.specs.Moves.{goes, moved, at_end, leads, fit}
use Rattle.candidates.specs.Rows.{wanted_of}
use Rattle.candidates.specs.Candidates.{count, candidate}
use Rattle.candidates.specs.Problem.{View, all_go, all_moved, candidate_piece, all_at_end, greatest}
use Rattle.candidates.specs.Looked.{looked}
use Rattle.candidates.specs.Laid.{Laid, rows_of}
use Rattle.candidates.specs.declared.look.Move.{Move}
use Rattle.candidates.proofs.StaysFit.{fit_within}
use Rattle.candidates.proofs.ExamplesGoneThrough.{goes_past_all, moved_all}
use Rattle.candidates.proofs.PiecesAgree.{within_length, pieces_go, pieces_move}
use Rattle.candidates.proofs.CandidatePieces.{pieces_made, weight_agrees}

-- THE END
at_end_past : (es : List Example) (s : List ℕ) (e : ℕ) → e < length es → e < length s → at_end (take (suc e) es) s ≡ (at_end (take e es) s && eqb (get_or s e 0) (length (wanted_of es e)))
unfolding at_end
at_end_past [] s e h k = absurd (omega arith)
at_end_past (x ∷ es) [] e h k = absurd (omega arith)
at_end_past (x ∷ es) (j ∷ js) zero h k = grind arith
at_end_past (x ∷ es) (j ∷ js) (suc e) h k = let ih = at_end_past es js e (omega arith) (omega arith) in grind arith

module _ (es : List Example) (asked : List (List ℕ)) (v : View) (laid : Laid es asked v) (s : List ℕ) where
  at_end_of : (m : ℕ) → length es ≤ length s → m ≤ length es → all_at_end v m s ≡ at_end (take m es) s
  unfolding all_at_end at_end
  at_end_of zero l h = refl
  at_end_of (suc m) l h =
      ap₂ ◌&&◌ (at_end_of m l (omega arith)) (ap (λ w. eqb (get_or s m 0) (length w)) (laid.wanted m (omega arith)))
      ∙ sym (at_end_past es s m (omega arith) (omega arith))

  pub end_agrees : fit es s ≡ true → all_at_end v v.examples s ≡ at_end es s
  end_agrees f =
      ap (λ m. all_at_end v m s) laid.examples ∙ at_end_of (length es) (within_length es s (fit_within es s f)) (omega arith)
      ∙ ap (λ xs. at_end xs s) (take_all (length es) es (omega arith))

  -- THE GUIDE
  pub lower_agrees : (k : ℕ) (q : Rule) → k ≤ 8 → length q ≤ k → every a_part q ≡ true → leads es s q ≡ true → greatest v k v.examples s ≤ weight q
  unfolding greatest
  lower_agrees k q h l a t = go v.examples (let n = laid.examples in omega arith)
    where
      go : (m : ℕ) → m ≤ length es → greatest v k m s ≤ weight q
      go zero b = omega arith
      go (suc m) b =
          let ih = go m (omega arith) in
          let here = laid.lower k m s q (omega arith) h l a t in
          omega arith

-- CANDIDATES
module _ (x : Example) (rest : List Example) (asked : List (List ℕ)) (v : View) (laid : Laid (x ∷ rest) asked v) (s : List ℕ) (f : fit (x ∷ rest) s ≡ true) (i : ℕ) (h : i < count (x ∷ rest) (rows_of v) s) where
  pub goes_agrees : all_go v (candidate_piece v s i) v.examples s ≡ goes (x ∷ rest) (candidate (x ∷ rest) (rows_of v) s i) s
  goes_agrees =
      ap (λ m. all_go v (candidate_piece v s i) m s) laid.examples
      ∙ pieces_go (x ∷ rest) s (candidate (x ∷ rest) (rows_of v) s i) (candidate_piece v s i) (pieces_made x rest asked v laid s i h) (fit_within (x ∷ rest) s f) v laid.wanted (length (x ∷ rest)) (omega arith)
      ∙ goes_past_all (x ∷ rest) (candidate (x ∷ rest) (rows_of v) s i) s (length (x ∷ rest)) (omega arith)

  pub moved_agrees : all_moved (candidate_piece v s i) v.examples s ≡ moved (x ∷ rest) (candidate (x ∷ rest) (rows_of v) s i) s
  moved_agrees =
      ap (λ m. all_moved (candidate_piece v s i) m s) laid.examples
      ∙ pieces_move (x ∷ rest) s (candidate (x ∷ rest) (rows_of v) s i) (candidate_piece v s i) (pieces_made x rest asked v laid s i h) (fit_within (x ∷ rest) s f) (length (x ∷ rest)) (omega arith)
      ∙ moved_all (x ∷ rest) (candidate (x ∷ rest) (rows_of v) s i) s (length (x ∷ rest)) (omega arith)

  -- so a look at a candidate answers what the candidate does
  pub looked_agrees :
      looked v s i
      ≡ pick {A = Option Move} (goes (x ∷ rest) (candidate (x ∷ rest) (rows_of v) s i) s)
      (Some (record { state = moved (x ∷ rest) (candidate (x ∷ rest) (rows_of v) s i) s; weight = part_weight (candidate (x ∷ rest) (rows_of v) s i) })) None
  looked_agrees =
      ap₂ (λ b m. pick {A = Option Move} b m None) goes_agrees (ap₂ (λ y z. Some (record { state = y; weight = z })) moved_agrees (weight_agrees x rest asked v laid s i h))
