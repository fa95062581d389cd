-- The search by examples over a problem in memory ends, whenever it has ended it has ended right, and then it stays as it is.
use Rattle.std.proofs.Common.{◌≡◌, ℕ, zero, suc, ◌+◌, ◌*◌, Bool, true, leb, ◌⊎◌, List, [], ◌∷◌, length, sym, refl, ap, ◌∙◌, subst, inl, inr, ⊎_elim, arith}
use Rattle.std.proofs.lemmas.Bool.{and_parts, leb-true}
use Rattle.rules.specs.Lists.{pick, every}
use Rattle.rules.specs.Rules.{Rule}
use Rattle.rules.specs.Order.{First, None}
use Rattle.rules.specs.Examples.{Example, does}
use Rattle.candidates.specs.Moves.{fit, start}
use Rattle.candidates.specs.Rows.{small_example, small_examples}
use Rattle.candidates.specs.Problem.{View, all_at_end, greatest}
use Rattle.candidates.specs.Laid.{Laid}
use Rattle.search.specs.Automaton.{accepted}
use Rattle.search.specs.Machine.{going, found_it, there_is_none}
use Rattle.search.specs.Promises.{EndedRight}
use Rattle.search.specs.Steps.{Held, held, round_with, step_of, held_step, held_steps}
use Rattle.search.specs.ByExamples.{automaton_of, guided_by, status_of, machine_of, held_begun, parts_in}
use Rattle.search.specs.HeldPromises.{EndedFor, HeldEnds, HeldNeverWrong, HeldStays}
use Rattle.search.specs.declared.frame.Frame.{Frame}
use Rattle.search.specs.declared.status.Status.{Status}
use Rattle.search.specs.declared.status.Status.TheVariants.{Going, Found, NoRule}
use Rattle.search.proofs.MachineRight.{empty_first}
use Rattle.search.proofs.SearchRight.{search_right, never_wrong}
use Rattle.search.proofs.ExamplesSound.{accepted_does, examples_sound}
use Rattle.search.proofs.RuleChosen.{chosen_agrees}
use Rattle.search.proofs.HeldAgrees.{held_runs}

pub held_stays : HeldStays
unfolding held_step
held_stays v x (inl e) = ap (step_of v x) e
held_stays v x (inr e) = ap (step_of v x) e

-- TESTS THAT AGREE
first_by : (f g : Rule → Bool) (r : Rule) → ((q : Rule) → f q ≡ g q) → First f r → First g r
unfolding First
first_by f g r e h = (h.0, sym (e r) ∙ h.1, λ q a k. h.2 q a (e q ∙ k))

none_by : (f g : Rule → Bool) → ((q : Rule) → f q ≡ g q) → None f → None g
unfolding None
none_by f g e h q a = sym (e q) ∙ h q a

-- THE STATUS
is_going : (st : Status) → status_of st ≡ going → st ≡ Going
is_going Going e = refl
is_going Found e = absurd (grind arith)
is_going NoRule e = absurd (grind arith)

is_found : (st : Status) → status_of st ≡ found_it → st ≡ Found
is_found Going e = absurd (grind arith)
is_found Found e = refl
is_found NoRule e = absurd (grind arith)

is_none : (st : Status) → status_of st ≡ there_is_none → st ≡ NoRule
is_none Going e = absurd (grind arith)
is_none Found e = absurd (grind arith)
is_none NoRule e = refl

-- SOME EXAMPLES
module _ (x : Example) (rest : List Example) (asked : List (List ℕ)) (v : View) (small : small_examples (x ∷ rest) ≡ true) (laid : Laid (x ∷ rest) asked v) where
  tests_agree : (q : Rule) → accepted (automaton_of (x ∷ rest)) start q ≡ does (x ∷ rest) q
  tests_agree q = accepted_does (x ∷ rest) q (leb-true (length (x ∷ rest)) 8 (and_parts (leb (length (x ∷ rest)) 8) (every small_example (x ∷ rest)) small).0)

  ended_agrees : (h : Held) → EndedRight (guided_by (x ∷ rest) v) (machine_of h) → EndedFor (x ∷ rest) v h
  ended_agrees h (inl e) =
      inl (
        is_found h.status e.0,
        subst (λ r. First (does (x ∷ rest)) r) (chosen_agrees x rest asked v laid h.depth h.frames) (first_by (accepted (automaton_of (x ∷ rest)) start) (does (x ∷ rest)) _ tests_agree e.1),
      )
  ended_agrees h (inr e) = inr (is_none h.status e.0, none_by (accepted (automaton_of (x ∷ rest)) start) (does (x ∷ rest)) tests_agree e.1)

  some_end : (fs : List Frame) → length fs ≡ 8 → (n : ℕ) × EndedFor (x ∷ rest) v (held_steps v n (held_begun v fs))
  some_end fs e =
      let r = search_right (guided_by (x ∷ rest) v) (fit (x ∷ rest)) (64 + v.rows * v.rows) (λ _. examples_sound x rest asked v small laid) in
      (r.0, ended_agrees (held_steps v r.0 (held_begun v fs)) (subst (λ m. EndedRight (guided_by (x ∷ rest) v) m) (sym (held_runs x rest asked v laid small r.0 fs e)) r.1))

  some_right : (fs : List Frame) (n : ℕ) → length fs ≡ 8 → ((held_steps v n (held_begun v fs)).status ≡ Going) ⊎ EndedFor (x ∷ rest) v (held_steps v n (held_begun v fs))
  some_right fs n e =
      ⊎_elim (λ h. inl (is_going (held_steps v n (held_begun v fs)).status h)) (λ h. inr (ended_agrees (held_steps v n (held_begun v fs)) h))
      (subst (λ m. (m.status ≡ going) ⊎ EndedRight (guided_by (x ∷ rest) v) m) (sym (held_runs x rest asked v laid small n fs e))
      (never_wrong (guided_by (x ∷ rest) v) (fit (x ∷ rest)) (64 + v.rows * v.rows) n (λ _. examples_sound x rest asked v small laid)))

-- NO EXAMPLES
-- every rule does none, so the empty one is the first, and is found at once
found_stays : (v : View) (n : ℕ) (x : Held) → x.status ≡ Found → held_steps v n x ≡ x
unfolding held_steps
found_stays v zero x e = refl
found_stays v (suc n) x e = ap (held_step v) (found_stays v n x e) ∙ held_stays v x (inl e)

none_begun : (v : View) (fs : List Frame) → v.examples ≡ 0 → held_begun v fs ≡ held Found 0 0 0 fs
unfolding all_at_end
none_begun v fs e = ap (λ m. pick (all_at_end v m start) (held Found 0 0 0 fs) (round_with (greatest v 8 v.examples start) fs)) e

pub none_held : (v : View) (fs : List Frame) (n : ℕ) → v.examples ≡ 0 → held_steps v n (held_begun v fs) ≡ held Found 0 0 0 fs
none_held v fs n e = ap (held_steps v n) (none_begun v fs e) ∙ found_stays v n (held Found 0 0 0 fs) refl

none_right : (v : View) (fs : List Frame) (n : ℕ) → v.examples ≡ 0 → EndedFor [] v (held_steps v n (held_begun v fs))
unfolding parts_in
none_right v fs n e = subst (λ x. EndedFor [] v x) (sym (none_held v fs n e)) (inl (refl, empty_first (does []) refl))

pub held_ends : HeldEnds
held_ends [] asked v fs small ready e = (0, none_right v fs 0 ready)
held_ends (x ∷ rest) asked v fs small ready e = some_end x rest asked v small ready fs e

pub held_never_wrong : HeldNeverWrong
held_never_wrong [] asked v fs n small ready e = inr (none_right v fs n ready)
held_never_wrong (x ∷ rest) asked v fs n small ready e = some_right x rest asked v small ready fs n e
