-- A look at a candidate says what its definition says; what is gone through of the examples counts as the definitions do.
use Rattle.std.proofs.Common.{◌≡◌, ℕ, zero, suc, ◌+◌, ◌<◌, max, Bool, true, false, eqb, List, [], ◌∷◌, ◌++◌, length, get_or, Some, None, Option, refl, ap, ap₂, ◌∙◌, subst, ⊎_elim, arith}
use Rattle.std.specs.List.{range_with_len, list_all, fold}
use Rattle.std.proofs.lemmas.Bool.{cases_eq, ne_eqb}
use Rattle.std.proofs.lemmas.Bool.Decides.{nat_tests}
use Rattle.std.proofs.lemmas.List.Folds.{list_all-append}
use Rattle.std.proofs.lemmas.List.Sums.{fold-append}
use Rattle.rules.specs.Lists.{pick}
use Rattle.rules.specs.Rules.{Made}
use Rattle.candidates.specs.Problem.{View, wanted_in, all_go, all_moved, all_at_end, candidate_piece, candidate_weight, guide_in, greatest}
use Rattle.candidates.specs.Looked.{moved_by, looked}
use Rattle.candidates.specs.declared.look.Move.{Move}

-- where pieces lead somewhere, a move is made of it; where they don't, none
move_made : (x : Bool) (next : List ℕ) (to : List ℕ) (w : ℕ) → Some next ≡ pick x (Some to) None → Some (record { state = next; weight = w }) ≡ pick {A = Option Move} x (Some (record { state = to; weight = w })) None
move_made true next to w e = let k : next ≡ to = cc in ap (λ z. Some (record { state = z; weight = w })) k
move_made false next to w e = absurd (let z : ◌≡◌ {A = ℕ} 0 1 = cc in omega arith)

no_move : (x : Bool) (to : List ℕ) (w : ℕ) → None ≡ pick {A = Option (List ℕ)} x (Some to) None → None ≡ pick {A = Option Move} x (Some (record { state = to; weight = w })) None
no_move true to w e = absurd (let z : ◌≡◌ {A = ℕ} 0 1 = cc in omega arith)
no_move false to w e = refl

module _ (v : View) (s : List ℕ) (i : ℕ) (piece : ℕ → Made) (same : (e : ℕ) → piece e ≡ candidate_piece v s i e) where
  as_one : piece ≡ candidate_piece v s i
  as_one = λ j. λ e. same e j

  pub look_leads : (next : List ℕ) (w : ℕ) → Some next ≡ moved_by v piece s → w ≡ candidate_weight v s i → Some (record { state = next; weight = w }) ≡ looked v s i
  look_leads next w e is =
      ap (λ z. Some (record { state = next; weight = z })) is
      ∙ move_made (all_go v (candidate_piece v s i) v.examples s) next (all_moved (candidate_piece v s i) v.examples s) (candidate_weight v s i) (e ∙ ap (λ p. moved_by v p s) as_one)

  pub look_stops : None ≡ moved_by v piece s → None ≡ looked v s i
  look_stops e =
      no_move (all_go v (candidate_piece v s i) v.examples s) (all_moved (candidate_piece v s i) v.examples s) (candidate_weight v s i) (e ∙ ap (λ p. moved_by v p s) as_one)

range_past : (a n : ℕ) → range_with_len a (suc n) ≡ range_with_len a n ++ ((a + n) ∷ [])
range_past a zero = ap (λ k. k ∷ []) (omega arith)
range_past a (suc n) = ap (λ l. a ∷ l) (range_past (a + 1) n ∙ ap (λ k. range_with_len (a + 1) n ++ k ∷ []) (omega arith))

guide_small : (v : View) (k e j : ℕ) → guide_in v k e j < 4294967296
guide_small v k e j = grind (arith, nat_tests)

module _ (v : View) (s : List ℕ) where
  -- all of the first n examples are at their end
  pub ends_all : (n : ℕ) → list_all (λ e. eqb (get_or s e 0) (length (wanted_in v e))) (range_with_len 0 n) ≡ all_at_end v n s
  unfolding all_at_end
  ends_all zero = refl
  ends_all (suc n) =
      let test : ℕ → Bool = λ e. eqb (get_or s e 0) (length (wanted_in v e)) in
      let ih = ends_all n in
      ap (list_all test) (range_past 0 n) ∙ list_all-append test (range_with_len 0 n) ((0 + n) ∷ []) ∙ grind arith

  -- one that is not there is enough
  pub end_stops : (m n : ℕ) → m < n → (get_or s m 0 ≡ length (wanted_in v m) → ⊥) → all_at_end v n s ≡ false
  unfolding all_at_end
  end_stops m zero h f = absurd (omega arith)
  end_stops m (suc n) h f =
      ⊎_elim
      (λ e. let k = ne_eqb _ _ (subst (λ i. get_or s i 0 ≡ length (wanted_in v i) → ⊥) e f) in grind arith)
      (λ ne. let k = end_stops m n (omega arith) f in grind arith)
      (cases_eq m n)

  -- the most that one of them needs
  pub greatest_all : (k n : ℕ) → fold (λ most e. max most (guide_in v k e (get_or s e 0))) 0 (range_with_len 0 n) ≡ greatest v k n s
  unfolding greatest
  greatest_all k zero = refl
  greatest_all k (suc n) =
      let f : ℕ → ℕ → ℕ = λ most e. max most (guide_in v k e (get_or s e 0)) in
      ap (fold f 0) (range_past 0 n) ∙ fold-append f 0 (range_with_len 0 n) ((0 + n) ∷ []) ∙ ap₂ f (greatest_all k n) (omega arith)

  pub greatest_small : (k n : ℕ) → greatest v k n s < 4294967296
  unfolding greatest
  greatest_small k zero = omega arith
  greatest_small k (suc n) = let ih = greatest_small k n in let here = guide_small v k n (get_or s n 0) in omega arith
