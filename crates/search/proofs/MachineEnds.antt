-- The machine ends: within a round a number falls, and the budget grows from round to round.
use Rattle.std.proofs.Common.{◌≡◌, ℕ, zero, suc, ◌+◌, ◌-◌, ◌*◌, ◌<◌, ◌≤◌, Bool, true, false, eqb, leb, List, [], ◌∷◌, length, sym, refl, subst, inl, inr, mul-le-mul_right, arith}
use Rattle.std.proofs.lemmas.Bool.{leb-false, eqb-false}
use Rattle.rules.proofs.Tests.{pick_both}
use Rattle.search.specs.Automaton.{Guided, Sound}
use Rattle.search.specs.Round.{Look, over, ends, enters, look}
use Rattle.search.specs.Machine.{Frame, Status, going, found_it, there_is_none, Machine, limit, machine, entered, moved, fresh, next_round, parts_after, looked, stepped, micro_at, micro, runs}
use Rattle.search.specs.Promises.{EndedRight}
use Rattle.search.proofs.MachineKept.{Kept, FairLook, look_fair}
use Rattle.search.proofs.MachineRight.{within_round, Going, RightMachine, raised, micro_right, right_first, right_none}

-- one candidate less, and what was entered behind it
falls_by : (m each rest more : ℕ) → more ≤ each → more + (m * (1 + each) + 1 + rest) < suc m * (1 + each) + 1 + rest
falls_by m each rest more h = omega arith

-- how many steps a state takes at most that is entered with so many parts to go
unfoldable pub steps_below : (most : ℕ) → ℕ → ℕ
steps_below most zero = 0
steps_below most (suc k) = most * (1 + steps_below most k) + 1

-- how many steps are left of a round at most
unfoldable pub steps : {S : Type 0} → Guided S → (most : ℕ) → List (Frame S) → ℕ
steps g most [] = 0
steps g most (f ∷ fs) = (g.count f.state - f.index) * (1 + steps_below most (parts_after fs)) + 1 + steps g most fs

module _ {S : Type 0} (g : Guided S) (fit : S → Bool) (most : ℕ) (sound : Sound g fit most) where
  moved_falls : (f : Frame S) (fs : List (Frame S)) (more : ℕ) → f.index < g.count f.state → more ≤ steps_below most (parts_after fs) → more + steps g most (moved f ∷ fs) < steps g most (f ∷ fs)
  unfolding steps
  moved_falls f fs more h small =
      let e : suc (g.count f.state - (f.index + 1)) ≡ g.count f.state - f.index = omega arith in
      subst (λ m. more + ((g.count f.state - (f.index + 1)) * (1 + steps_below most (parts_after fs)) + 1 + steps g most fs) < m * (1 + steps_below most (parts_after fs)) + 1 + steps g most fs) e
      (falls_by (g.count f.state - (f.index + 1)) (steps_below most (parts_after fs)) (steps g most fs) more small)

  entered_falls : (f : Frame S) (fs : List (Frame S)) (t : S) (l : ℕ) → f.index < g.count f.state → length fs < 7 → fit t ≡ true → steps g most (entered t l ∷ (moved f ∷ fs)) < steps g most (f ∷ fs)
  unfolding steps steps_below
  entered_falls f fs t l h few fits = moved_falls f fs new h (subst (λ j. new ≤ steps_below most j) one_less small)
    where
      k : ℕ
      k = parts_after (moved f ∷ fs)

      new : ℕ
      new = (g.count t - 0) * (1 + steps_below most k) + 1

      one_less : suc k ≡ parts_after fs
      one_less = omega arith

      fewer : g.count t - 0 ≤ most
      fewer = let h = sound.few t fits in omega arith

      small : new ≤ steps_below most (suc k)
      small = let h = mul-le-mul_right (1 + steps_below most k) fewer in omega arith

  looked_falls : (b n : ℕ) (f : Frame S) (fs : List (Frame S)) (x : Look S) → f.index < g.count f.state → FairLook g fit n x → steps g most (looked (parts_after fs) b n f fs x).frames < steps g most (f ∷ fs)
  looked_falls b n f fs (over m) h fair = let l = moved_falls f fs 0 h (omega arith) in omega arith
  looked_falls b n f fs ends h fair = let l = moved_falls f fs 0 h (omega arith) in omega arith
  looked_falls b n f fs (enters t l) h fair =
      pick_both (eqb (parts_after fs) 0) (moved f ∷ fs) (entered t l ∷ (moved f ∷ fs)) (λ frames. steps g most frames < steps g most (f ∷ fs)) (λ _. let l = moved_falls f fs 0 h (omega arith) in omega arith)
      (λ e. let some = eqb-false (parts_after fs) 0 e in entered_falls f fs t l h (omega arith) fair.0)

  pub stepped_falls : (b n : ℕ) (f : Frame S) (fs : List (Frame S)) → Kept g fit (machine going b n (f ∷ fs)) → steps g most (stepped g b n (f ∷ fs)).frames < steps g most (f ∷ fs)
  unfolding stepped steps
  stepped_falls b n f fs kept =
      pick_both (leb (g.count f.state) f.index) (machine going b n fs) (looked (parts_after fs) b n f fs x) (λ y. steps g most y.frames < steps g most (f ∷ fs)) (λ _. omega arith)
      (λ more. looked_falls b n f fs x (leb-false _ _ more) (look_fair g fit most sound (parts_after fs) f.state f.left f.index n kept.fair.0.fits kept.fair.0.left_small))
    where
      x : Look S
      x = look g (parts_after fs) f.state f.left f.index n

-- how far the budget may still rise; not at all where there is none
abbrev pub rounds_left : Status → ℕ → ℕ
rounds_left going b = limit + 1 - b
rounds_left found_it b = limit + 1 - b
rounds_left there_is_none b = 0

-- how many steps are left at most, of this round and of one for each budget up to the limit
abbrev pub to_do : {S : Type 0} → Guided S → (most : ℕ) → Machine S → ℕ
to_do g most x = rounds_left x.status x.budget * (1 + steps_below most 8) + steps g most x.frames

rounds_fall : (a b each s : ℕ) → a < b → s ≤ each → a * (1 + each) + s < b * (1 + each) + 0
rounds_fall a b each s h l = let k = mul-le-mul_right (1 + each) h in omega arith

module _ {S : Type 0} (g : Guided S) (fit : S → Bool) (most : ℕ) (sound : g.automaton.accepts g.automaton.start ≡ false → Sound g fit most) where
  next_falls : Sound g fit most → (b c : ℕ) → b ≤ limit → b < c → to_do g most (next_round g c) < to_do g most (machine going b 0 [])
  unfolding steps steps_below
  next_falls sound b c small more =
      pick_both (leb c limit) (fresh g c) (machine there_is_none 0 0 []) (λ x. to_do g most x < to_do g most (machine going b 0 []))
      (λ _. rounds_fall (limit + 1 - c) (limit + 1 - b) (steps_below most 8) (steps g most (entered g.automaton.start c ∷ [])) (omega arith) start_few)
      (λ _. rounds_fall 0 (limit + 1 - b) (steps_below most 8) 0 (omega arith) (omega arith))
    where
      fewer : g.count g.automaton.start - 0 ≤ most
      fewer = let h = sound.few g.automaton.start sound.fit_start in omega arith

      start_few : steps g most (entered g.automaton.start c ∷ []) ≤ steps_below most 8
      start_few = let h = mul-le-mul_right (1 + steps_below most 7) fewer in omega arith

  stepped_does : (b n : ℕ) (fs : List (Frame S)) → Kept g fit (machine going b n fs) → Going g fit b n fs → to_do g most (stepped g b n fs) < to_do g most (machine going b n fs)
  unfolding stepped
  stepped_does b n [] kept x =
      let sure = sound x.not_yet in
      let short = raised g fit most sure x.not_yet b n x in
      let grows = short.grows in
      let small = kept.budget_small in
      next_falls sure b (b + n) small (omega arith)
  stepped_does b n (f ∷ fs) kept x =
      let falls = stepped_falls g fit most (sound x.not_yet) b n f fs kept in
      within_round g b n f fs (λ y. steps g most y.frames < steps g most (f ∷ fs) → to_do g most y < to_do g most (machine going b n (f ∷ fs))) (λ _ _ less. omega arith) (λ _ less. omega arith) falls

  -- each step of a machine that is going on leaves less to do
  pub micro_falls : (x : Machine S) → RightMachine g fit x → x.status ≡ going → to_do g most (micro g x) < to_do g most x
  unfolding micro
  micro_falls x h e =
      let y : RightMachine g fit (machine going x.budget x.short x.frames) = subst (λ st. RightMachine g fit (machine st x.budget x.short x.frames)) e h in
      subst (λ st. to_do g most (micro_at g x st) < to_do g most (machine st x.budget x.short x.frames)) (sym e) (stepped_does x.budget x.short x.frames y.kept y.right)

  abbrev EndsFrom : Machine S → Type 0
  EndsFrom x = (n : ℕ) × EndedRight g (runs n g x)

  ended_or_going : (x : Machine S) → RightMachine g fit x → (x.status ≡ going → EndsFrom x) → EndsFrom x
  unfolding runs
  ended_or_going x right goes_on = go x.status refl
    where
      go : (st : Status) → x.status ≡ st → EndsFrom x
      go going e = goes_on e
      go found_it e = (0, inl (e, right_first g fit x right e))
      go there_is_none e = (0, inr (e, right_none g fit x right e))

  ends_within : (left : ℕ) (x : Machine S) → to_do g most x ≤ left → RightMachine g fit x → EndsFrom x
  unfolding runs
  ends_within zero x h right = ended_or_going x right (λ e. let falls = micro_falls x right e in absurd (omega arith))
  ends_within (suc left) x h right =
      ended_or_going x right (λ e. let falls = micro_falls x right e in let then = ends_within left (micro g x) (omega arith) (micro_right g fit most sound x right) in (suc then.0, then.1))

  -- a machine that is right ends right
  pub ends_from : (x : Machine S) → RightMachine g fit x → (n : ℕ) × EndedRight g (runs n g x)
  ends_from x right = ends_within (to_do g most x) x (omega arith) right
