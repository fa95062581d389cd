-- A piece stands next in a text where there is room for it and the bytes there are its own.
use Rattle.std.proofs.Common.{◌≡◌, ℕ, ◌+◌, ◌<◌, ◌≤◌, ◌⊎◌, inl, inr, refl, Bool, true, false, ◌&&◌, eqb, leb, List, length, take, drop, Some, None, sym, ap, ◌∙◌, arith, length-drop}
use Rattle.std.specs.Bool.{IsTrue, then_some}
use Rattle.std.specs.List.{starts_with}
use Rattle.std.proofs.lemmas.Bool.Decides.{nat_tests, same_from_decides, Decides-eqb}
use Rattle.std.proofs.lemmas.Slice.Eq.{slice_eq-Decides}
use Rattle.rules.specs.Lists.{pick, same}
use Rattle.candidates.specs.Problem.{piece_goes}
use Rattle.candidates.specs.Looked.{next_position}
use Rattle.candidates.proofs.SameNumbers.{same_decides}

module _ (b w : List ℕ) (j : ℕ) where
  next_is : (x : Bool) → (leb (j + length b) (length w) && same b (take (length b) (drop j w))) ≡ x → pick x (Some (j + length b)) None ≡ next_position b w j
  unfolding piece_goes
  next_is x e = sym (ap (λ y. pick y (Some (j + length b)) None) e)

  pub too_long : length w < j + length b → None ≡ next_position b w j
  too_long h = next_is false (grind (arith, nat_tests))

  pub no_room : (length w < j) ⊎ (length w < length w) → None ≡ next_position b w j
  no_room (inl h) = too_long (omega arith)
  no_room (inr h) = absurd (omega arith)

  -- what is left begins with it
  pub begins : (r : Bool) (rest : List ℕ) → rest ≡ drop j w → j ≤ length w → (IsTrue r → length b ≤ length rest) → r ≡ starts_with eqb rest b → then_some r (j + length b) ≡ next_position b w j
  begins r rest is within room e = go r room (same_from_decides _ _ (slice_eq-Decides Decides-eqb _ _ _ (e ∙ ap (λ l. starts_with eqb l b) is)) (same_decides _ _))
    where
      go : (r : Bool) → (IsTrue r → length b ≤ length rest) → r ≡ same b (take (length b) (drop j w)) → then_some r (j + length b) ≡ next_position b w j
      go true room s = let long = ap length is in let d = length-drop j w in let fits = room refl in next_is true (let k = s in grind (arith, nat_tests))
      go false room s = next_is false (grind arith)
