-- A step of the search over a problem in memory is a step of the machine over the automaton of its examples; so are any number of steps from the beginning.
use Rattle.std.proofs.Common.{◌≡◌, ℕ, zero, suc, ◌+◌, ◌-◌, ◌*◌, ◌<◌, ◌≤◌, Bool, true, false, eqb, ltb, leb, List, [], ◌∷◌, length, get_or, set, sym, refl, ap, ◌∙◌, subst, add-one, arith}
use Rattle.std.proofs.lemmas.List.{length-set}
use Rattle.std.proofs.lemmas.Bool.{leb-false, ltb-true, ltb-false, eq-eqb}
use Rattle.std.proofs.lemmas.Bool.Decides.{nat_tests}
use Rattle.rules.specs.Lists.{pick}
use Rattle.rules.specs.Examples.{Example}
use Rattle.rules.proofs.Tests.{pick_both}
use Rattle.candidates.specs.Moves.{fit, at_end, start}
use Rattle.candidates.specs.Rows.{small_examples}
use Rattle.candidates.specs.Candidates.{count}
use Rattle.candidates.specs.Problem.{View, count_in, all_at_end, greatest}
use Rattle.candidates.specs.Laid.{Laid, rows_of}
use Rattle.candidates.proofs.CandidatePieces.{count_agrees}
use Rattle.candidates.proofs.CandidatesSound.{fit_start}
use Rattle.candidates.proofs.ViewAgrees.{end_agrees}
use Rattle.search.specs.Automaton.{Guided}
use Rattle.search.specs.Round.{Look, over, ends, enters, look}
use Rattle.search.specs.Machine as machines
use Rattle.search.specs.Steps.{look_in, Held, held, entered_at, moved_on, no_frame, round_with, after_look, going_step, step_of, held_step, held_steps}
use Rattle.search.specs.ByExamples.{guided_by, frame_of, stack_of, status_of, machine_of, held_begun}
use Rattle.search.specs.declared.frame.Frame.{Frame}
use Rattle.search.specs.declared.status.Status.{Status}
use Rattle.search.specs.declared.status.Status.TheVariants.{Going, Found, NoRule}
use Rattle.search.proofs.MachineKept.{Kept, begun_kept, micro_kept}
use Rattle.search.proofs.ExamplesSound.{examples_sound}
use Rattle.search.proofs.StackOfFrames.{stack_length, stack_top}
use Rattle.search.proofs.LooksAgree.{look_agrees}
use Rattle.search.proofs.HeldSmall.{Small, begun_small, steps_small}

-- a choice between two machines, by tests that agree
pick_agrees : (a b : Bool) (x y : Held) (p q : machines.Machine (List ℕ)) → a ≡ b → machine_of x ≡ p → (b ≡ false → machine_of y ≡ q) → machine_of (pick a x y) ≡ pick b p q
pick_agrees true true x y p q e h k = h
pick_agrees true false x y p q e h k = absurd (grind arith)
pick_agrees false true x y p q e h k = absurd (grind arith)
pick_agrees false false x y p q e h k = k refl

-- THE STACK
-- the last frame in use, set
stack_set : (d : ℕ) (fs : List Frame) (f : Frame) → d < length fs → stack_of (d + 1) (set fs d f) ≡ frame_of f ∷ stack_of d fs
stack_set d fs f h = ap (λ k. stack_of k (set fs d f)) (add-one d) ∙ stack_top d fs f h

-- and one more behind it
stack_entered : (d : ℕ) (fs : List Frame) (f e : Frame) → d + 1 < length fs → stack_of (d + 2) (set (set fs d f) (d + 1) e) ≡ frame_of e ∷ (frame_of f ∷ stack_of d fs)
stack_entered d fs f e h =
    let l = length-set fs d f in
    let two : d + 2 ≡ suc (d + 1) = omega arith in
    ap (λ k. stack_of k (set (set fs d f) (d + 1) e)) two ∙ stack_top (d + 1) (set fs d f) e (omega arith) ∙ ap (λ y. frame_of e ∷ y) (stack_set d fs f (omega arith))

-- AFTER A LOOK
after_agrees : (b n d : ℕ) (fs : List Frame) (f : Frame) (y : Look (List ℕ)) → d < 8 → length fs ≡ 8 → machine_of (after_look b n d (set fs d (moved_on f)) y) ≡ machines.looked (7 - d) b n (frame_of f) (stack_of d fs) y
after_agrees b n d fs f (over m) h e = ap (λ y. machines.machine machines.going b m y) (stack_set d fs (moved_on f) (omega arith))
after_agrees b n d fs f ends h e = ap (λ y. machines.machine machines.found_it b n y) (stack_set d fs (moved_on f) (omega arith))
after_agrees b n d fs f (enters t l) h e =
    pick_both (ltb d 7) (held Going b n (d + 2) (set gs (d + 1) (entered_at t l))) (held Going b n (d + 1) gs) (λ x. machine_of x ≡ machines.machine machines.going b n (machines.deeper (7 - d) t l below)) deeper last
  where
    gs : List Frame
    gs = set fs d (moved_on f)

    below : List (machines.Frame (List ℕ))
    below = frame_of (moved_on f) ∷ stack_of d fs

    on : Bool → machines.Machine (List ℕ)
    on z = machines.machine machines.going b n (pick z below (machines.entered t l ∷ below))

    deeper : ltb d 7 ≡ true → machines.machine machines.going b n (stack_of (d + 2) (set gs (d + 1) (entered_at t l))) ≡ on (eqb (7 - d) 0)
    deeper u =
        let k = ltb-true d 7 u in
        let z : false ≡ eqb (7 - d) 0 = grind (arith, nat_tests) in
        ap (λ y. machines.machine machines.going b n y) (stack_entered d fs (moved_on f) (entered_at t l) (omega arith)) ∙ ap on z

    last : ltb d 7 ≡ false → machines.machine machines.going b n (stack_of (d + 1) gs) ≡ on (eqb (7 - d) 0)
    last u =
        let k = ltb-false d 7 u in
        let z : true ≡ eqb (7 - d) 0 = sym (eq-eqb (7 - d) 0 (omega arith)) in
        ap (λ y. machines.machine machines.going b n y) (stack_set d fs (moved_on f) (omega arith)) ∙ ap on z

module _ (x : Example) (rest : List Example) (asked : List (List ℕ)) (v : View) (laid : Laid (x ∷ rest) asked v) where
  abbrev pub the_guided : Guided (List ℕ)
  the_guided = guided_by (x ∷ rest) v

  -- A ROUND
  round_agrees : (b : ℕ) (fs : List Frame) → length fs ≡ 8 → machine_of (round_with b fs) ≡ machines.next_round the_guided b
  unfolding stack_of
  round_agrees b fs e =
      pick_agrees (leb b machines.limit) (leb b machines.limit) (held Going b machines.far 1 (set fs 0 (entered_at start b))) (held NoRule 0 0 0 fs) (machines.fresh the_guided b) (machines.machine machines.there_is_none 0 0 [])
      refl (ap (λ y. machines.machine machines.going b machines.far y) (stack_top 0 fs (entered_at start b) (omega arith))) (λ _. refl)

  -- A STEP
  going_agrees : (b n d : ℕ) (fs : List Frame) → d ≤ 8 → length fs ≡ 8 → Kept the_guided (fit (x ∷ rest)) (machines.machine machines.going b n (stack_of d fs)) → machine_of (going_step v b n d fs) ≡ machines.stepped the_guided b n (stack_of d fs)
  unfolding going_step stack_of machines.stepped
  going_agrees b n zero fs l e kept = round_agrees (b + n) fs e
  going_agrees b n (suc d) fs l e kept =
      pick_agrees (leb (count_in v f.state) f.index) (leb (count (x ∷ rest) (rows_of v) f.state) f.index) (held Going b n d fs) (after_look b n d (set fs d (moved_on f)) (look_in v f (7 - d) n))
      (machines.machine machines.going b n under) (by (length under)) (ap (λ c. leb c f.index) (count_agrees x rest asked v laid f.state)) refl
      (λ u. after_agrees b n d fs f (look_in v f (7 - d) n) (omega arith) e
      ∙ ap (λ y. machines.looked (7 - d) b n (frame_of f) under y) (look_agrees x rest asked v laid f (7 - d) n kept.fair.0.fits (leb-false (count (x ∷ rest) (rows_of v) f.state) f.index u))
      ∙ ap by (sym (stack_length d fs)))
    where
      f : Frame
      f = get_or fs d no_frame

      under : List (machines.Frame (List ℕ))
      under = stack_of d fs

      -- by how many frames are under this
      by : ℕ → machines.Machine (List ℕ)
      by m = machines.looked (7 - m) b n (frame_of f) under (look the_guided (7 - m) f.state f.left f.index n)

  pub held_agrees : (h : Held) → Small h → Kept the_guided (fit (x ∷ rest)) (machine_of h) → machine_of (held_step v h) ≡ machines.micro the_guided (machine_of h)
  unfolding held_step machines.micro
  held_agrees h small kept = go h.status refl
    where
      go : (st : Status) → h.status ≡ st → machine_of (step_of v h st) ≡ machines.micro_at the_guided (machine_of h) (status_of st)
      go Going e =
          going_agrees h.budget h.short h.depth h.frames small.few small.eight
          (subst (λ st. Kept the_guided (fit (x ∷ rest)) (machines.machine (status_of st) h.budget h.short (stack_of h.depth h.frames))) e kept)
      go Found e = refl
      go NoRule e = refl

  -- THE BEGINNING
  module _ (few : small_examples (x ∷ rest) ≡ true) where
    pub begun_agrees : (fs : List Frame) → length fs ≡ 8 → machine_of (held_begun v fs) ≡ machines.begun the_guided
    unfolding stack_of
    begun_agrees fs e =
        pick_agrees (all_at_end v v.examples start) (at_end (x ∷ rest) start) (held Found 0 0 0 fs) (round_with (greatest v 8 v.examples start) fs)
        (machines.machine machines.found_it 0 0 []) (machines.next_round the_guided (greatest v 8 v.examples start))
        (end_agrees (x ∷ rest) asked v laid start (fit_start (x ∷ rest) few)) refl (λ _. round_agrees (greatest v 8 v.examples start) fs e)

    -- ANY NUMBER OF STEPS
    -- one more step can be taken first or last
    runs_last : (n : ℕ) (m : machines.Machine (List ℕ)) → machines.micro the_guided (machines.runs n the_guided m) ≡ machines.runs n the_guided (machines.micro the_guided m)
    unfolding machines.runs
    runs_last zero m = refl
    runs_last (suc n) m = runs_last n (machines.micro the_guided m)

    runs_kept : (n : ℕ) (m : machines.Machine (List ℕ)) → Kept the_guided (fit (x ∷ rest)) m → Kept the_guided (fit (x ∷ rest)) (machines.runs n the_guided m)
    unfolding machines.runs
    runs_kept zero m kept = kept
    runs_kept (suc n) m kept = runs_kept n (machines.micro the_guided m) (micro_kept the_guided (fit (x ∷ rest)) (64 + v.rows * v.rows) (examples_sound x rest asked v few laid) m kept)

    pub held_runs : (n : ℕ) (fs : List Frame) → length fs ≡ 8 → machine_of (held_steps v n (held_begun v fs)) ≡ machines.runs n the_guided (machines.begun the_guided)
    unfolding held_steps machines.runs
    held_runs zero fs e = begun_agrees fs e
    held_runs (suc n) fs e =
        let ih = held_runs n fs e in
        let kept = runs_kept n (machines.begun the_guided) (begun_kept the_guided (fit (x ∷ rest)) (64 + v.rows * v.rows) (examples_sound x rest asked v few laid)) in
        held_agrees (held_steps v n (held_begun v fs)) (steps_small v n (held_begun v fs) (begun_small v fs e)) (subst (λ m. Kept the_guided (fit (x ∷ rest)) m) (sym ih) kept)
        ∙ ap (λ m. machines.micro the_guided m) ih ∙ runs_last n (machines.begun the_guided)
