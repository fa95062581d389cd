-- Pieces that are what a part makes of each example go where the part does, and move a state as it does.
use Rattle.std.proofs.Common.{◌≡◌, ℕ, zero, suc, ◌+◌, ◌<◌, ◌≤◌, true, ◌&&◌, leb, List, [], ◌∷◌, length, get_or, take, drop, set, sym, refl, ap, ◌∙◌, ap₂, add-one, arith, length-drop, length-take}
use Rattle.std.proofs.lemmas.Bool.{and_parts, and_from, le-leb}
use Rattle.rules.specs.Lists.{same}
use Rattle.rules.specs.Rules.{Part, Made, nothing, made, part_of, is_made}
use Rattle.rules.specs.Promises.{made_length}
use Rattle.rules.specs.Examples.{Example}
use Rattle.rules.proofs.Tests.{same_eq}
use Rattle.candidates.specs.Moves.{goes, moved, within}
use Rattle.candidates.specs.Rows.{given_of, wanted_of}
use Rattle.candidates.specs.Problem.{View, wanted_in, piece_goes, all_go, all_moved}
use Rattle.candidates.proofs.GoesOn.{same_tests}
use Rattle.candidates.proofs.StaysFit.{within_at}
use Rattle.candidates.proofs.ExamplesGoneThrough.{goes_past, goes_past_none, moved_more, moved_none}

-- a state that is within the examples has a number for each
pub within_length : (es : List Example) (s : List ℕ) → within es s ≡ true → length es ≤ length s
unfolding within
within_length [] s h = omega arith
within_length (e ∷ es) [] h = absurd (grind arith)
within_length (e ∷ es) (j ∷ js) h = let ih = within_length es js (and_parts (leb j (length e.wanted)) (within es js) h).1 in omega arith

-- bytes that stand next have room
stands_fits : (b w : List ℕ) (j : ℕ) → j ≤ length w → same b (take (length b) (drop j w)) ≡ true → j + length b ≤ length w
stands_fits b w j h k =
    let l : length b ≡ length (take (length b) (drop j w)) = ap length (same_eq b (take (length b) (drop j w)) k) in
    let t = length-take (length b) (drop j w) in
    let d = length-drop j w in
    omega arith

-- so within a text a piece goes exactly if it is what stands next
pub piece_stands : (m : Made) (w : List ℕ) (j : ℕ) → j ≤ length w → piece_goes m w j ≡ is_made m (take (made_length m) (drop j w))
unfolding piece_goes is_made made_length
piece_stands nothing w j h = refl
piece_stands (made b) w j h =
    same_tests (leb (j + length b) (length w) && same b (take (length b) (drop j w))) (same b (take (length b) (drop j w)))
    (λ k. (and_parts (leb (j + length b) (length w)) (same b (take (length b) (drop j w))) k).1)
    (λ k. and_from _ _ (le-leb (j + length b) (length w) (stands_fits b w j h k)) k)

module _ (es : List Example) (s : List ℕ) (p : Part) (piece : ℕ → Made) (makes : (e : ℕ) → e < length es → piece e ≡ part_of (given_of es e) p) (w : within es s ≡ true) where
  pub pieces_go : (v : View) → ((e : ℕ) → e < length es → wanted_in v e ≡ wanted_of es e) → (m : ℕ) → m ≤ length es → all_go v piece m s ≡ goes (take m es) p s
  unfolding all_go
  pieces_go v wanted zero h = sym (goes_past_none es p s)
  pieces_go v wanted (suc m) h =
      let l = within_length es s w in
      ap₂ ◌&&◌ (pieces_go v wanted m (omega arith))
      (ap₂ (λ x y. piece_goes x y (get_or s m 0)) (makes m (omega arith)) (wanted m (omega arith)) ∙ piece_stands (part_of (given_of es m) p) (wanted_of es m) (get_or s m 0) (within_at es s m w (omega arith)))
      ∙ sym (goes_past es p s m (omega arith) (omega arith)) ∙ ap (λ n. goes (take n es) p s) (add-one m)

  pub pieces_move : (m : ℕ) → m ≤ length es → all_moved piece m s ≡ moved (take m es) p s
  unfolding all_moved
  pieces_move zero h = sym (moved_none es p s)
  pieces_move (suc m) h =
      let l = within_length es s w in
      ap₂ (λ r x. set r m (get_or s m 0 + made_length x)) (pieces_move m (omega arith)) (makes m (omega arith))
      ∙ sym (moved_more es p s m (omega arith) (omega arith)) ∙ ap (λ n. moved (take n es) p s) (add-one m)
