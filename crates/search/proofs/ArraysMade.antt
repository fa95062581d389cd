-- Arrays that are made index by index.
use Rattle.std.proofs.Common.{◌≡◌, ℕ, zero, suc, ◌+◌, ◌<◌, ◌≤◌, List, get_or, map, sym, refl, ap, ◌∙◌, subst, ⊎_elim, arith}
use Rattle.std.proofs.lemmas.List.FromFn.{fill_by_all}
use Rattle.std.proofs.lemmas.Bool.{cases_eq}
use Rattle.std.specs.Array.{IsFromFnResultFrom, IsFromFnResult}
use Rattle.std.specs.Fn.{Called}
use Rattle.std.specs.List.{range_with_len}
use denote.Param.Members.{Mut}

-- an array that is made by calls which leave the closure as it is has at each index what the call answers there
module _ {F B : Type 0} (g : Mut F (ℕ × Unit {0}) B) (h : ℕ → B) (f : F) (same : (i : ℕ) (y : B) (f' : F) → Called g f (i, tt) y f' → (y ≡ h i) × (f' ≡ f)) where
  made_at : (ys : List B) (i n : ℕ) (f' : F) → f' ≡ f → IsFromFnResultFrom g f' ys i n → (k : ℕ) (d : B) → i ≤ k → k < i + n → get_or ys k d ≡ h k
  made_at ys i zero f' e r k d a b = absurd (omega arith)
  made_at ys i (suc n) f' e (q, y, is, called, rest) k d a b =
      let one = same i y q (subst (λ p. Called g p (i, tt) y q) e called) in
      ⊎_elim (λ here. ap (λ j. get_or ys j d) here ∙ is.1 d ∙ one.0 ∙ ap h (sym here)) (λ past. made_at ys (i + 1) n q one.1 rest k d (omega arith) (omega arith)) (cases_eq k i)

  pub made_from : (ys : List B) (n : ℕ) (d : B) → IsFromFnResult g f ys n → ys ≡ map h (range_with_len 0 n)
  made_from ys n d r = fill_by_all h ys n d r.long (λ k b. made_at ys 0 n f refl r.each k d (omega arith) (omega arith))
