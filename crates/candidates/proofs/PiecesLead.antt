-- Going through the examples one by one finds where pieces lead from a state.
use Rattle.std.proofs.Common.{◌≡◌, ℕ, zero, suc, ◌+◌, ◌<◌, Bool, true, false, List, length, get_or, set, Some, None, sym, refl, ap, ◌∙◌, subst, ap₂, ⊎_elim, add-one, arith}
use Rattle.std.proofs.lemmas.Bool.{and_from, cases_eq}
use Rattle.rules.specs.Lists.{pick}
use Rattle.rules.specs.Rules.{Made, nothing, made}
use Rattle.rules.specs.Promises.{made_length}
use Rattle.candidates.specs.Problem.{View, piece_goes, wanted_in, all_go, all_moved}
use Rattle.candidates.specs.Looked.{next_by, moved_by}

-- where a position is found the piece goes, and it is behind the piece; where none is found it does not
next_some : (d : Made) (w : List ℕ) (j at : ℕ) → next_by d w j ≡ Some at → (piece_goes d w j ≡ true) × (at ≡ j + made_length d)
unfolding next_by made_length
next_some nothing w j at e = absurd (let z : ◌≡◌ {A = ℕ} 0 1 = cc in omega arith)
next_some (made b) w j at e = go (piece_goes (made b) w j) refl e
  where
    go : (x : Bool) → piece_goes (made b) w j ≡ x → pick x (Some (j + length b)) None ≡ Some at → (piece_goes (made b) w j ≡ true) × (at ≡ j + length b)
    go true t k = (t, (cc))
    go false t k = absurd (let z : ◌≡◌ {A = ℕ} 0 1 = cc in omega arith)

next_none : (d : Made) (w : List ℕ) (j : ℕ) → next_by d w j ≡ None → piece_goes d w j ≡ false
unfolding next_by piece_goes
next_none nothing w j e = refl
next_none (made b) w j e = go (piece_goes (made b) w j) refl e
  where
    go : (x : Bool) → piece_goes (made b) w j ≡ x → pick x (Some (j + length b)) None ≡ None → piece_goes (made b) w j ≡ false
    go true t k = absurd (let z : ◌≡◌ {A = ℕ} 0 1 = cc in omega arith)
    go false t k = t

module _ (v : View) (piece : ℕ → Made) (s : List ℕ) where
  pub lead_none : all_go v piece 0 s ≡ true
  unfolding all_go
  lead_none = refl

  pub moved_none : s ≡ all_moved piece 0 s
  unfolding all_moved
  moved_none = refl

  pub lead_more : (m at : ℕ) (next : List ℕ) → next ≡ all_moved piece m s → all_go v piece m s ≡ true → next_by (piece m) (wanted_in v m) (get_or s m 0) ≡ Some at →
      (set next m at ≡ all_moved piece (m + 1) s) × (all_go v piece (m + 1) s ≡ true)
  unfolding all_go all_moved
  lead_more m at next e g n =
      let p = next_some (piece m) (wanted_in v m) (get_or s m 0) at n in (
        ap₂ (λ x y. set x m y) e p.1 ∙ ap (λ k. all_moved piece k s) (sym (add-one m)),
        ap (λ k. all_go v piece k s) (add-one m) ∙ and_from _ _ g p.0,
      )

  all_go_stops : (m n : ℕ) → m < n → piece_goes (piece m) (wanted_in v m) (get_or s m 0) ≡ false → all_go v piece n s ≡ false
  unfolding all_go
  all_go_stops m zero h f = absurd (omega arith)
  all_go_stops m (suc n) h f =
      ⊎_elim
      (λ e. let k = subst (λ i. piece_goes (piece i) (wanted_in v i) (get_or s i 0) ≡ false) e f in grind arith)
      (λ ne. let k = all_go_stops m n (omega arith) f in grind arith)
      (cases_eq m n)

  pub lead_stops : (m : ℕ) → m < v.examples → next_by (piece m) (wanted_in v m) (get_or s m 0) ≡ None → None ≡ moved_by v piece s
  lead_stops m h n =
      sym (ap (λ x. pick x (Some (all_moved piece v.examples s)) None) (all_go_stops m v.examples h (next_none (piece m) (wanted_in v m) (get_or s m 0) n)))
