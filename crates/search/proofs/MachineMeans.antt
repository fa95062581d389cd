-- What the frames of a machine mean: the result of the round, which no step changes.
use Rattle.std.proofs.Common.{◌≡◌, ℕ, suc, ◌+◌, ◌-◌, ◌<◌, ◌≤◌, true, false, eqb, leb, List, [], ◌∷◌, ◌++◌, length, sym, refl, ap, ◌∙◌, ap₂, append_assoc, arith}
use Rattle.std.proofs.lemmas.Bool.{leb-true, leb-false, eqb-true, eqb-false}
use Rattle.rules.specs.Rules.{Part, Rule}
use Rattle.rules.proofs.Tests.{pick_both}
use Rattle.search.specs.Automaton.{Guided}
use Rattle.search.specs.Round.{Result, found, short, Look, over, ends, enters, look, after_deeper, after_look, tries, round}
use Rattle.search.specs.Machine.{Frame, Status, going, found_it, there_is_none, Machine, machine, entered, moved, parts_after, looked, stepped, chosen}

module _ {S : Type 0} (g : Guided S) where
  -- the candidates of a frame that are left
  abbrev pub rest_of : List (Frame S) → Frame S → ℕ → Result
  rest_of fs f n = tries g (round g (parts_after fs)) (parts_after fs) f.state f.left f.index (g.count f.state - f.index) n

  -- what comes of the round when this has come of the state that was entered last
  abbrev pub back : List (Frame S) → Result → Result
  back [] r = r
  back (f ∷ fs) r = back fs (after_deeper (g.candidate f.state (f.index - 1)) (λ n. rest_of fs f n) r)

  -- a machine that is going on means what its frames have left to do, and one that has found a rule means that
  abbrev pub means_at : ℕ → List (Frame S) → Status → Result
  means_at n fs going = back fs (short n)
  means_at n fs found_it = back fs (found [])
  means_at n fs there_is_none = short n

  abbrev pub means : Machine S → Result
  means x = means_at x.short x.frames x.status

  -- the rule that was found is the one that the frames stand for
  back_chosen : (fs : List (Frame S)) (r : Rule) → back fs (found r) ≡ found (chosen g fs ++ r)
  unfolding chosen
  back_chosen [] r = refl
  back_chosen (f ∷ fs) r =
      back_chosen fs (g.candidate f.state (f.index - 1) ∷ r) ∙ ap (λ z. found z) (sym (append_assoc (chosen g fs) (g.candidate f.state (f.index - 1) ∷ []) r))

  append_none : (r : Rule) → r ++ [] ≡ r
  append_none [] = refl
  append_none (p ∷ r) = ap (λ z. p ∷ z) (append_none r)

  pub found_chosen : (fs : List (Frame S)) → back fs (found []) ≡ found (chosen g fs)
  found_chosen fs = back_chosen fs [] ∙ ap (λ z. found z) (append_none (chosen g fs))

  -- a state that is entered stands for the round from there
  pub rest_entered : (fs : List (Frame S)) (t : S) (l n : ℕ) → rest_of fs (entered t l) n ≡ round g (suc (parts_after fs)) t l n
  unfolding round
  rest_entered fs t l n = ap (λ m. tries g (round g (parts_after fs)) (parts_after fs) t l 0 m n) (omega arith)

  -- the candidate looked at is the one before the next
  last_candidate : (f : Frame S) → g.candidate f.state f.index ≡ g.candidate f.state (f.index + 1 - 1)
  last_candidate f = ap (λ i. g.candidate f.state i) (omega arith)

  -- a look at the next candidate
  rest_look : (fs : List (Frame S)) (f : Frame S) (n : ℕ) → f.index < g.count f.state → rest_of fs f n ≡ after_look (g.candidate f.state f.index) (round g (parts_after fs)) (λ m. rest_of fs (moved f) m) n (look g (parts_after fs) f.state f.left f.index n)
  unfolding tries
  rest_look fs f n h = ap (λ m. tries g (round g (parts_after fs)) (parts_after fs) f.state f.left f.index m n) e
    where
      e : g.count f.state - f.index ≡ suc (g.count f.state - (f.index + 1))
      e = omega arith

  no_round : (t : S) (l n k : ℕ) → k ≡ 0 → round g k t l n ≡ short n
  unfolding round
  no_round t l n k e = ap (λ k. round g k t l n) e

  looked_means : (b n : ℕ) (f : Frame S) (fs : List (Frame S)) (x : Look S) → length fs ≤ 7 → back fs (after_look (g.candidate f.state f.index) (round g (parts_after fs)) (λ m. rest_of fs (moved f) m) n x) ≡ means (looked (parts_after fs) b n f fs x)
  looked_means b n f fs (over m) few = refl
  looked_means b n f fs ends few = ap (λ c. back fs (found (c ∷ []))) (last_candidate f)
  looked_means b n f fs (enters t l) few =
      pick_both (eqb (parts_after fs) 0) (moved f ∷ fs) (entered t l ∷ (moved f ∷ fs)) (λ frames. behind (g.candidate f.state f.index) (round g (parts_after fs) t l n) ≡ back frames (short n)) at_none at_some
    where
      behind : Part → Result → Result
      behind c r = back fs (after_deeper c (λ m. rest_of fs (moved f) m) r)

      at_none : eqb (parts_after fs) 0 ≡ true → behind (g.candidate f.state f.index) (round g (parts_after fs) t l n) ≡ behind (g.candidate f.state (f.index + 1 - 1)) (short n)
      at_none e = ap₂ behind (last_candidate f) (no_round t l n (parts_after fs) (eqb-true (parts_after fs) 0 e))

      at_some : eqb (parts_after fs) 0 ≡ false → behind (g.candidate f.state f.index) (round g (parts_after fs) t l n) ≡ behind (g.candidate f.state (f.index + 1 - 1)) (rest_of (moved f ∷ fs) (entered t l) n)
      at_some e =
          let some = eqb-false (parts_after fs) 0 e in
          let one_less : parts_after fs ≡ suc (parts_after (moved f ∷ fs)) = omega arith in
          ap₂ behind (last_candidate f) (ap (λ k. round g k t l n) one_less ∙ sym (rest_entered (moved f ∷ fs) t l n))

  rest_none : (fs : List (Frame S)) (f : Frame S) (n : ℕ) → g.count f.state ≤ f.index → rest_of fs f n ≡ short n
  unfolding tries
  rest_none fs f n h = ap (λ m. tries g (round g (parts_after fs)) (parts_after fs) f.state f.left f.index m n) e
    where
      e : g.count f.state - f.index ≡ 0
      e = omega arith

  -- a step within a round leaves what is meant
  pub stepped_means : (b n : ℕ) (f : Frame S) (fs : List (Frame S)) → length fs ≤ 7 → back (f ∷ fs) (short n) ≡ means (stepped g b n (f ∷ fs))
  unfolding stepped
  stepped_means b n f fs few =
      pick_both (leb (g.count f.state) f.index) (machine going b n fs) (looked (parts_after fs) b n f fs x) (λ y. back fs (rest_of fs f n) ≡ means y)
      (λ h. ap (back fs) (rest_none fs f n (leb-true _ _ h))) (λ h. ap (back fs) (rest_look fs f n (leb-false _ _ h)) ∙ looked_means b n f fs x few)
    where
      x : Look S
      x = look g (parts_after fs) f.state f.left f.index n
