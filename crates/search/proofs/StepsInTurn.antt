-- Steps are taken one by one, and so many and then more are all of them.
use Rattle.std.proofs.Common.{◌≡◌, ℕ, zero, suc, ◌+◌, sym, refl, ap, ◌∙◌, zero-add, add-one, arith}
use Rattle.candidates.specs.Problem.{View}
use Rattle.search.specs.Steps.{Held, held_step, held_steps}

module _ (v : View) where
  pub steps_none : (x : Held) → x ≡ held_steps v 0 x
  unfolding held_steps
  steps_none x = refl

  pub steps_more : (n : ℕ) (x : Held) → held_step v (held_steps v n x) ≡ held_steps v (n + 1) x
  unfolding held_steps
  steps_more n x = ap (λ k. held_steps v k x) (sym (add-one n))

  pub steps_add : (m n : ℕ) (x : Held) → held_steps v m (held_steps v n x) ≡ held_steps v (m + n) x
  unfolding held_steps
  steps_add zero n x = ap (λ k. held_steps v k x) (sym (zero-add n))
  steps_add (suc m) n x = ap (held_step v) (steps_add m n x) ∙ ap (λ k. held_steps v k x) (let e : suc (m + n) ≡ suc m + n = omega arith in e)

  -- where a step changes nothing, none does
  pub steps_stay : (n : ℕ) (x : Held) → held_step v x ≡ x → held_steps v n x ≡ x
  unfolding held_steps
  steps_stay zero x e = refl
  steps_stay (suc n) x e = ap (held_step v) (steps_stay n x e) ∙ e
