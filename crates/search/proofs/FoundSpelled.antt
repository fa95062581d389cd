-- When a search by examples has found a rule, what the numbers in memory spell is that rule.
use Rattle.std.proofs.Common.{◌≡◌, ℕ, zero, suc, ◌+◌, ◌-◌, ◌*◌, ◌<◌, true, ◌⊎◌, List, [], ◌∷◌, length, get_or, sym, ap, ◌∙◌, subst, inl, inr, ⊎_elim, arith}
use Rattle.std.proofs.lemmas.Bool.{cases_eq}
use Rattle.rules.specs.Rules.{a_rule}
use Rattle.rules.specs.Order.{First}
use Rattle.rules.specs.Examples.{Example}
use Rattle.candidates.specs.Moves.{fit}
use Rattle.candidates.specs.Rows.{small_examples}
use Rattle.candidates.specs.Problem.{View, count_in}
use Rattle.candidates.specs.Laid.{Laid}
use Rattle.candidates.proofs.CandidatePieces.{count_agrees}
use Rattle.search.specs.Automaton.{Guided}
use Rattle.search.specs.Machine as machines
use Rattle.search.specs.Steps.{Held, no_frame, held_steps}
use Rattle.search.specs.ByExamples.{guided_by, stack_of, status_of, machine_of, held_begun, rule_in}
use Rattle.search.specs.HeldPromises.{Ready, EndedFor, HeldSpelled}
use Rattle.search.specs.declared.frame.Frame.{Frame}
use Rattle.search.specs.declared.status.Status.TheVariants.{Going, Found}
use Rattle.search.proofs.MachineKept.{Kept, FairFrames, top_from}
use Rattle.search.proofs.MachineRight.{begun_right, runs_right}
use Rattle.search.proofs.ExamplesSound.{examples_sound}
use Rattle.search.proofs.HeldAgrees.{held_runs}
use Rattle.search.proofs.HeldRight.{none_held, held_never_wrong}
use Rattle.search.proofs.SpelledRule.{ChosenWithin, spelled_rule}

module _ (x : Example) (rest : List Example) (asked : List (List ℕ)) (v : View) (laid : Laid (x ∷ rest) asked v) where
  abbrev the_guided : Guided (List ℕ)
  the_guided = guided_by (x ∷ rest) v

  -- frames all of which have led on have chosen one of their candidates
  fair_within : (d : ℕ) (fs : List Frame) → FairFrames the_guided (fit (x ∷ rest)) 1 (stack_of d fs) → ChosenWithin v d fs
  unfolding stack_of
  fair_within zero fs h j k = absurd (omega arith)
  fair_within (suc d) fs h j k =
      ⊎_elim (λ e. subst (λ i. (get_or fs i no_frame).index - 1 < count_in v (get_or fs i no_frame).state) (sym e) last) (λ ne. fair_within d fs h.1 j (omega arith)) (cases_eq j d)
    where
      last : (get_or fs d no_frame).index - 1 < count_in v (get_or fs d no_frame).state
      last = let c = count_agrees x rest asked v laid (get_or fs d no_frame).state in let a = h.0.index_from in let b = h.0.index_within in omega arith

  module _ (small : small_examples (x ∷ rest) ≡ true) (fs : List Frame) (eight : length fs ≡ 8) (n : ℕ) where
    abbrev reached : Held
    reached = held_steps v n (held_begun v fs)

    kept : Kept the_guided (fit (x ∷ rest)) (machine_of reached)
    kept =
        subst (λ m. Kept the_guided (fit (x ∷ rest)) m) (sym (held_runs x rest asked v laid small n fs eight))
        (runs_right the_guided (fit (x ∷ rest)) (64 + v.rows * v.rows) (λ _. examples_sound x rest asked v small laid) n (machines.begun the_guided)
        (begun_right the_guided (fit (x ∷ rest)) (64 + v.rows * v.rows) (λ _. examples_sound x rest asked v small laid))).kept

    pub found_within : reached.status ≡ Found → ChosenWithin v reached.depth reached.frames
    found_within e =
        fair_within reached.depth reached.frames
        (subst (λ st. FairFrames the_guided (fit (x ∷ rest)) (top_from the_guided (fit (x ∷ rest)) (status_of st)) (stack_of reached.depth reached.frames)) e kept.fair)

-- what was found is one of the rules that there are
found_valid : (es : List Example) (v : View) (h : Held) → h.status ≡ Found → (h.status ≡ Going) ⊎ EndedFor es v h → a_rule (rule_in v h) ≡ true
unfolding First
found_valid es v h e (inl going) = absurd (let k = sym e ∙ going in grind arith)
found_valid es v h e (inr (inl found)) = found.1.0
found_valid es v h e (inr (inr none)) = absurd (let k = sym e ∙ none.0 in grind arith)

pub held_spelled : HeldSpelled
held_spelled es asked v fs n small ready eight e =
    spelled_rule v (held_steps v n (held_begun v fs)) (found_valid es v (held_steps v n (held_begun v fs)) e (held_never_wrong es asked v fs n small ready eight)) (within es small ready)
  where
    within : (es : List Example) → small_examples es ≡ true → Ready es asked v → ChosenWithin v (held_steps v n (held_begun v fs)).depth (held_steps v n (held_begun v fs)).frames
    within [] small ready = λ j h. absurd (let none = ap (λ (x : Held). x.depth) (none_held v fs n ready) in omega arith)
    within (x ∷ rest) small ready = found_within x rest asked v ready small fs eight n e
