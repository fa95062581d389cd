-- Any valid part that goes on at a state is stood for by a candidate: one that makes the same move, and is lighter, or as light and not later in spelling.
use Rattle.std.proofs.Common.{◌≡◌, ℕ, ◌+◌, ◌-◌, ◌*◌, ◌<◌, true, false, leb, ◌⊎◌, List, [], ◌∷◌, ◌++◌, length, take, drop, sym, refl, ap, ◌∙◌, subst, inl, inr, arith, length-drop, length-take}
use Rattle.std.proofs.lemmas.Nat.{mul-add-lt}
use Rattle.std.proofs.lemmas.Bool.{and_parts, cases_Bool, leb-true}
use Rattle.rules.specs.Lists.{earlier}
use Rattle.rules.specs.Places.{Place}
use Rattle.rules.specs.Rules.{Part, bytes, cut, made, part_of, part_cost, a_part, a_place}
use Rattle.rules.specs.Promises.{made_length}
use Rattle.rules.specs.Order.{place_spelled, part_spelled}
use Rattle.rules.specs.Examples.{Example}
use Rattle.rules.proofs.DictionaryOrder.{earlier_irrefl, earlier_trans, earlier_total}
use Rattle.candidates.specs.Weights.{part_weight}
use Rattle.candidates.specs.Moves.{goes_on, goes, moved}
use Rattle.candidates.specs.Rows.{Rows, NoLater, RowFor, GoodRows}
use Rattle.candidates.specs.Candidates.{literals, count, cut_by, candidate, StandsFor}
use Rattle.candidates.proofs.GoesOn.{goes_on_made}
use Rattle.candidates.proofs.PlacesThere.{cut_there}
use Rattle.candidates.proofs.CandidatesOrdered.{cut_before_first, earlier_behind}
use Rattle.candidates.proofs.CandidateKinds.{candidate_literal, candidate_cut, cut_by_rows}
use Rattle.candidates.proofs.AlikeCuts.{LieAlike, MakeAlike, alike_goes, alike_moved, alike_cuts}

-- c is lighter than p, or as light and not later in spelling
abbrev PartNoLater : Part → Part → Type 0
PartNoLater c p = (part_weight c < part_weight p) ⊎ ((part_weight c ≡ part_weight p) × (earlier (part_spelled p) (part_spelled c) ≡ false))

stands : (es : List Example) (R : Rows) (s : List ℕ) (p c : Part) (i : ℕ) → c ≡ candidate es R s i → i < count es R s → goes es p s ≡ true → MakeAlike es c p → PartNoLater c p → StandsFor es R s p i
stands es R s p c i e b g m n =
    record {
      below = b;
      goes_too = subst (λ x. goes es x s ≡ true) e (alike_goes es c p s m ∙ g);
      same_move = subst (λ x. moved es x s ≡ moved es p s) e (alike_moved es c p s m);
      no_later = subst (λ x. PartNoLater x p) e n;
    }

-- no list is both before and behind another
earlier_one_way : (x y : List ℕ) → earlier x y ≡ true → earlier y x ≡ false
earlier_one_way x y h =
    let t = earlier_trans x y x h in
    let i = earlier_irrefl x in
    grind arith

-- if neither place is later, the cut is not
cut_not_later :
    (a b c d : Place) → earlier (place_spelled a) (place_spelled c) ≡ false → earlier (place_spelled b) (place_spelled d) ≡ false →
    earlier (part_spelled (cut a b)) (part_spelled (cut c d)) ≡ false
unfolding part_spelled
cut_not_later a b c d h k = go (cases_Bool (earlier (place_spelled c) (place_spelled a)))
  where
    go : (earlier (place_spelled c) (place_spelled a) ≡ true) ⊎ (earlier (place_spelled c) (place_spelled a) ≡ false) → earlier (part_spelled (cut a b)) (part_spelled (cut c d)) ≡ false
    go (inl l) = earlier_one_way (part_spelled (cut c d)) (part_spelled (cut a b)) (cut_before_first c a d b l)
    go (inr l) =
        let e = earlier_total (place_spelled a) (place_spelled c) h l in
        subst (λ x. earlier (1 ∷ place_spelled a ++ place_spelled b) (1 ∷ x ++ place_spelled d) ≡ false) e (earlier_behind (1 ∷ place_spelled a) (place_spelled b) (place_spelled d) ∙ k)

cut_no_later : (a b c d : Place) → NoLater c a → NoLater d b → PartNoLater (cut c d) (cut a b)
unfolding part_cost
cut_no_later a b c d (inl h) (inl k) = inl (omega arith)
cut_no_later a b c d (inl h) (inr k) = let e = k.0 in inl (omega arith)
cut_no_later a b c d (inr h) (inl k) = let e = h.0 in inl (omega arith)
cut_no_later a b c d (inr h) (inr k) = let e = h.0 in let f = k.0 in inr (omega arith, cut_not_later a b c d h.1 k.1)

-- a row for a place lies as the place does
row_alike : (es : List Example) (asked : List (List ℕ)) (R : Rows) (p : Place) (i : ℕ) → GoodRows es asked R → RowFor es asked R p i → LieAlike es (R.place i) p
row_alike es asked R p i g r e h = g.lies i e r.below h ∙ sym (r.same e h)

cut_stands :
    (es : List Example) (asked : List (List ℕ)) (R : Rows) (s : List ℕ) (p q : Place) → GoodRows es asked R → a_part (cut p q) ≡ true → goes es (cut p q) s ≡ true →
    (i : ℕ) × StandsFor es R s (cut p q) i
unfolding a_part
cut_stands es asked R s p q g v h =
    let a = and_parts (a_place p) (a_place q) v in
    let t = cut_there es p q s h in
    let x = g.complete p a.0 t.0 in
    let y = g.complete q a.1 t.1 in
    let n = R.count in
    let i = literals es s + (x.0 * n + y.0) in
    let small = mul-add-lt x.0 n y.0 n x.1.below y.1.below in
    let o : i - literals es s ≡ x.0 * n + y.0 = omega arith in
    let c = candidate_cut es R s i (omega arith) ∙ ap (λ k. cut_by R k) o ∙ cut_by_rows R x.0 y.0 y.1.below in (
      i,
      stands es R s (cut p q) (cut (R.place x.0) (R.place y.0)) i (sym c) (omega arith) h
          (alike_cuts es (R.place x.0) (R.place y.0) p q (row_alike es asked R p x.0 g x.1) (row_alike es asked R q y.0 g y.1))
          (cut_no_later p q (R.place x.0) (R.place y.0) x.1.no_later y.1.no_later),
    )

-- a literal that goes on is what stands next in the first wanted text
literal_next : (e : Example) (b : List ℕ) (j : ℕ) → goes_on e (bytes b) j ≡ true → b ≡ take (length b) (drop j e.wanted)
unfolding part_of made_length
literal_next e b j h = let m : made b ≡ made (take (length b) (drop j e.wanted)) = goes_on_made e (bytes b) j h in cc

literal_stands :
    (e : Example) (es : List Example) (R : Rows) (s : List ℕ) (b : List ℕ) → a_part (bytes b) ≡ true → goes (e ∷ es) (bytes b) s ≡ true →
    (i : ℕ) × StandsFor (e ∷ es) R s (bytes b) i
unfolding a_part goes
literal_stands e es R [] b v h = absurd (grind arith)
literal_stands e es R (j ∷ js) b v h =
    let one = leb-true 1 (length b) (and_parts (leb 1 (length b)) _ v).0 in
    let next = literal_next e b j (and_parts (goes_on e (bytes b) j) (goes es (bytes b) js) h).0 in
    let l : length b ≡ length (take (length b) (drop j e.wanted)) = ap length next in
    let t = length-take (length b) (drop j e.wanted) in
    let d = length-drop j e.wanted in
    let i = length b - 1 in
    let o : i + 1 ≡ length b = omega arith in
    let c = candidate_literal (e ∷ es) R (j ∷ js) i (omega arith) ∙ ap (λ n. bytes (take n (drop j e.wanted))) o ∙ ap (λ x. bytes x) (sym next) in
    (i, stands (e ∷ es) R (j ∷ js) (bytes b) (bytes b) i (sym c) (omega arith) h (λ _ _. refl) (inr (refl, earlier_irrefl (part_spelled (bytes b)))))

pub complete :
    (e : Example) (es : List Example) (asked : List (List ℕ)) (R : Rows) (s : List ℕ) (p : Part) → GoodRows (e ∷ es) asked R → a_part p ≡ true → goes (e ∷ es) p s ≡ true →
    (i : ℕ) × StandsFor (e ∷ es) R s p i
complete e es asked R s (bytes b) g v h = literal_stands e es R s b v h
complete e es asked R s (cut p q) g v h = cut_stands (e ∷ es) asked R s p q g v h
