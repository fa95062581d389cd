-- The steps laid down by index: what a loop has lowered so far, and what is still to be lowered, give the whole.
use Rattle.std.proofs.Common.{◌≡◌, ℕ, ◌+◌, ◌<◌, ◌≤◌, min, ◌⊎◌, List, [], ◌∷◌, ◌++◌, length, get_or, take, drop, set, sym, refl, ap, ◌∙◌, subst, inl, inr, append_assoc, arith, take-append-drop, length-take, ext_get_or}
use Rattle.std.proofs.lemmas.List.{drop_more, drop_all, take_more_set, drop-set-lt, get_or_past, get_or-take, get_or-drop}
use Rattle.std.proofs.lemmas.Bool.{cases_lt, eq-eqb}
use Rattle.std.proofs.lemmas.Bool.Decides.{nat_tests}
use Rattle.candidates.specs.Weights.{smaller}
use Rattle.candidates.specs.Guide.{literal_weight, cut_weight, literal_steps, along, cut_steps, steps, NoneAbove}
use Rattle.candidates.proofs.GuideSteps.{length_literal_steps, length_steps, literal_at, step_by_literal}

-- S has been lowered from what was there at d places
unfoldable pub AlongSoFar : ℕ → List ℕ → List ℕ → List ℕ → List ℕ → ℕ → List ℕ → Type 0
AlongSoFar a cs gs ws was d S = take d S ++ along a (drop d cs) (drop d gs) (drop d ws) (drop d S) ≡ along a cs gs ws was

along_alike : (a c g w n : ℕ) (cs gs ws ns : List ℕ) → g ≡ w → along a (c ∷ cs) (g ∷ gs) (w ∷ ws) (n ∷ ns) ≡ smaller n (cut_weight a c) ∷ along a cs gs ws ns
unfolding along
along_alike a c g w n cs gs ws ns e = let t = eq-eqb g w e in grind arith

along_differ : (a g w : ℕ) (cs gs ws ns : List ℕ) → (g ≡ w → ⊥) → along a cs (g ∷ gs) (w ∷ ws) ns ≡ ns
unfolding along
along_differ a g w cs gs ws [] e = refl
along_differ a g w [] gs ws (n ∷ ns) e = refl
along_differ a g w (c ∷ cs) gs ws (n ∷ ns) e = grind (arith, nat_tests)

along_no_given : (a : ℕ) (cs ws ns : List ℕ) → along a cs [] ws ns ≡ ns
unfolding along
along_no_given a cs ws [] = refl
along_no_given a cs [] (n ∷ ns) = refl
along_no_given a cs (w ∷ ws) (n ∷ ns) = refl

along_no_wanted : (a : ℕ) (cs gs ns : List ℕ) → along a cs gs [] ns ≡ ns
unfolding along
along_no_wanted a cs gs [] = refl
along_no_wanted a cs gs (n ∷ ns) = refl

module _ (a : ℕ) (cs gs ws was : List ℕ) where
  pub along_starts : AlongSoFar a cs gs ws was 0 was
  unfolding AlongSoFar
  along_starts = refl

  goes_on : (d : ℕ) (S : List ℕ) → d < length cs → d < length gs → d < length ws → d < length S → get_or gs d 0 ≡ get_or ws d 0 →
      AlongSoFar a cs gs ws was d S → AlongSoFar a cs gs ws was (d + 1) (set S d (smaller (get_or S d 0) (cut_weight a (get_or cs d 0))))
  unfolding AlongSoFar
  goes_on d S hc hg hw hs e h =
      let v : ℕ = smaller (get_or S d 0) (cut_weight a (get_or cs d 0)) in
      let rest : List ℕ = along a (drop (d + 1) cs) (drop (d + 1) gs) (drop (d + 1) ws) (drop (d + 1) S) in
      let one : along a (drop d cs) (drop d gs) (drop d ws) (drop d S) ≡ v ∷ rest =
      rw (drop_more cs d 0 hc, drop_more gs d 0 hg, drop_more ws d 0 hw, drop_more S d 0 hs)
      (along_alike a (get_or cs d 0) (get_or gs d 0) (get_or ws d 0) (get_or S d 0) (drop (d + 1) cs) (drop (d + 1) gs) (drop (d + 1) ws) (drop (d + 1) S) e) in
      let front : take (d + 1) (set S d v) ≡ take d S ++ v ∷ [] = take_more_set S d v hs in
      let back : drop (d + 1) (set S d v) ≡ drop (d + 1) S = drop-set-lt (d + 1) S d v (omega arith) in
      ap (λ l. take (d + 1) (set S d v) ++ along a (drop (d + 1) cs) (drop (d + 1) gs) (drop (d + 1) ws) l) back
      ∙ ap (λ l. l ++ rest) front ∙ append_assoc (take d S) (v ∷ []) rest ∙ ap (λ l. take d S ++ l) (sym one) ∙ h

  pub along_goes_on : (d : ℕ) (S : List ℕ) (v : ℕ) → d < length cs → d < length gs → d < length ws → d < length S → get_or gs d 0 ≡ get_or ws d 0 →
      v ≡ smaller (get_or S d 0) (cut_weight a (get_or cs d 0)) → AlongSoFar a cs gs ws was d S → AlongSoFar a cs gs ws was (d + 1) (set S d v)
  along_goes_on d S v hc hg hw hs e is h = subst (λ z. AlongSoFar a cs gs ws was (d + 1) (set S d z)) (sym is) (goes_on d S hc hg hw hs e h)

  along_stops : (d : ℕ) (S : List ℕ) → along a (drop d cs) (drop d gs) (drop d ws) (drop d S) ≡ drop d S → AlongSoFar a cs gs ws was d S → S ≡ along a cs gs ws was
  unfolding AlongSoFar
  along_stops d S e h = sym (take-append-drop d S) ∙ ap (λ l. take d S ++ l) (sym e) ∙ h

  pub along_stops_apart : (d : ℕ) (S : List ℕ) → d < length gs → d < length ws → (get_or gs d 0 ≡ get_or ws d 0 → ⊥) → AlongSoFar a cs gs ws was d S → S ≡ along a cs gs ws was
  along_stops_apart d S hg hw e h =
      along_stops d S (rw (drop_more gs d 0 hg, drop_more ws d 0 hw) (along_differ a (get_or gs d 0) (get_or ws d 0) (drop d cs) (drop (d + 1) gs) (drop (d + 1) ws) (drop d S) e)) h

  -- at the end of one of them
  pub along_ends : (d : ℕ) (S : List ℕ) → min (length gs) (length ws) ≤ d → AlongSoFar a cs gs ws was d S → S ≡ along a cs gs ws was
  along_ends d S l h = along_stops d S (past (cases_lt d (length gs))) h
    where
      past : (d < length gs) ⊎ (length gs ≤ d) → along a (drop d cs) (drop d gs) (drop d ws) (drop d S) ≡ drop d S
      past (inr k) = rw (drop_all d gs k) (along_no_given a (drop d cs) (drop d ws) (drop d S))
      past (inl k) = let m : length ws ≤ d = omega arith in rw (drop_all d ws m) (along_no_wanted a (drop d cs) (drop d gs) (drop d S))

-- literals laid down by index are the literal steps
pub literals_laid : (ws S : List ℕ) → length S ≡ length ws → ((i : ℕ) → i < length S → get_or S i 0 ≡ literal_weight (i + 1)) → S ≡ literal_steps 0 ws
literals_laid ws S e h =
    ext_get_or 0 S (literal_steps 0 ws) (e ∙ sym (length_literal_steps 0 ws))
    (λ i l. let a = h i l in let b = literal_at 0 ws i (omega arith) in omega arith)

-- no number of a part is above n
pub none_above_part : (n k j : ℕ) (xs : List ℕ) → NoneAbove n xs → NoneAbove n (take k (drop j xs))
none_above_part n k j xs h i = by_place (cases_lt i k)
  where
    by_place : (i < k) ⊎ (k ≤ i) → get_or (take k (drop j xs)) i 0 ≤ n
    by_place (inl l) = let a = get_or-take k (drop j xs) i 0 l in let b = get_or-drop j xs i 0 in let top = h (j + i) in omega arith
    by_place (inr l) = let s = length-take k (drop j xs) in let a = get_or_past (take k (drop j xs)) i 0 (omega arith) in omega arith

pub steps_small : (cs gs ws : List ℕ) → length ws ≤ 64 → NoneAbove 4177 (steps cs gs ws)
steps_small cs gs ws h i = by_place (cases_lt i (length ws))
  where
    by_place : (i < length ws) ⊎ (length ws ≤ i) → get_or (steps cs gs ws) i 0 ≤ 4177
    by_place (inl l) = let low = step_by_literal cs gs ws i l in omega arith
    by_place (inr l) = let n = length_steps cs gs ws in let a = get_or_past (steps cs gs ws) i 0 (omega arith) in omega arith

cuts_no_given : (cs ws ns : List ℕ) → cut_steps cs [] ws ns ≡ ns
unfolding cut_steps
cuts_no_given [] ws ns = refl
cuts_no_given (c ∷ cs) ws ns = refl

module _ (cs gs ws : List ℕ) where
  -- cuts from the first x positions have lowered S
  unfoldable pub CutsSoFar : ℕ → List ℕ → Type 0
  CutsSoFar x S = cut_steps (drop x cs) (drop x gs) ws S ≡ steps cs gs ws

  pub cuts_start : (S : List ℕ) → S ≡ literal_steps 0 ws → CutsSoFar 0 S
  unfolding CutsSoFar
  cuts_start S e = ap (λ l. cut_steps cs gs ws l) e

  pub cuts_go_on : (x : ℕ) (S S' : List ℕ) → x < length cs → x < length gs → S' ≡ along (get_or cs x 0) (drop (x + 1) cs) (drop x gs) ws S → CutsSoFar x S → CutsSoFar (x + 1) S'
  unfolding CutsSoFar cut_steps
  cuts_go_on x S S' hc hg is h =
      let g : ℕ = get_or gs x 0 in
      let from : drop x gs ≡ g ∷ drop (x + 1) gs = drop_more gs x 0 hg in
      let one : cut_steps (drop x cs) (drop x gs) ws S ≡ cut_steps (drop (x + 1) cs) (drop (x + 1) gs) ws (along (get_or cs x 0) (drop (x + 1) cs) (g ∷ drop (x + 1) gs) ws S) =
      ap (λ l. cut_steps l (drop x gs) ws S) (drop_more cs x 0 hc) ∙ ap (λ l. cut_steps (get_or cs x 0 ∷ drop (x + 1) cs) l ws S) from in
      ap (λ l. cut_steps (drop (x + 1) cs) (drop (x + 1) gs) ws l) (is ∙ ap (λ l. along (get_or cs x 0) (drop (x + 1) cs) l ws S) from) ∙ sym one ∙ h

  pub cuts_end : (x : ℕ) (S : List ℕ) → length gs ≤ x → CutsSoFar x S → S ≡ steps cs gs ws
  unfolding CutsSoFar
  cuts_end x S h so = sym (rw (drop_all x gs h) (cuts_no_given (drop x cs) ws S)) ∙ so
