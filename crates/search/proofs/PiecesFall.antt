-- Each piece of a search that goes on leaves less to do, so a loop over pieces ends.
use Rattle.std.proofs.Common.{◌≡◌, ℕ, zero, suc, ◌+◌, ◌*◌, ◌<◌, ◌≤◌, true, ◌⊎◌, List, [], ◌∷◌, length, sym, refl, ap, ◌∙◌, subst, ap₂, inl, inr, arith}
use Rattle.rules.specs.Lists.{pick}
use Rattle.rules.specs.Examples.{Example}
use Rattle.candidates.specs.Moves.{fit, start}
use Rattle.candidates.specs.Rows.{small_examples}
use Rattle.candidates.specs.Problem.{View, all_at_end, greatest}
use Rattle.candidates.specs.Laid.{Laid}
use Rattle.search.specs.Automaton.{Guided, Sound}
use Rattle.search.specs.Machine as machines
use Rattle.search.specs.Machine.{Machine, going, found_it, there_is_none, micro, micro_at, runs, begun}
use Rattle.search.specs.Steps.{Held, held, held_steps, round_with}
use Rattle.search.specs.ByExamples.{guided_by, machine_of, held_begun, status_of}
use Rattle.search.specs.Memory.{problem_in, loaded, advances}
use Rattle.search.specs.MemoryPromises.{Begins}
use Rattle.search.specs.declared.frame.Frame.{Frame}
use Rattle.search.specs.declared.status.Status.{Status}
use Rattle.search.specs.declared.status.Status.TheVariants.{Going, Found, NoRule}
use Rattle.search.proofs.ExamplesSound.{examples_sound}
use Rattle.search.proofs.HeldAgrees.{held_runs}
use Rattle.search.proofs.HeldRight.{held_stays}
use Rattle.search.proofs.MachineEnds.{to_do, micro_falls}
use Rattle.search.proofs.MachineRight.{RightMachine, begun_right, micro_right, runs_right}
use Rattle.search.proofs.StepsInTurn.{steps_add, steps_stay}
use Rattle.search.proofs.StoredAndLoaded.{pieces}

module _ {S : Type 0} (g : Guided S) (fits : S → _) (most : ℕ) (sound : Sound g fits most) where
  step_no_more : (x : Machine S) → RightMachine g fits x → to_do g most (micro g x) ≤ to_do g most x
  unfolding micro
  step_no_more x r = go x.status refl
    where
      go : (st : machines.Status) → x.status ≡ st → to_do g most (micro_at g x x.status) ≤ to_do g most x
      go going e = let f = falls e in omega arith
        where
          falls : x.status ≡ going → to_do g most (micro g x) < to_do g most x
          falls e = micro_falls g fits most (λ _. sound) x r e
      go found_it e = subst (λ st. to_do g most (micro_at g x st) ≤ to_do g most x) (sym e) (omega arith)
      go there_is_none e = subst (λ st. to_do g most (micro_at g x st) ≤ to_do g most x) (sym e) (omega arith)

  runs_no_more : (n : ℕ) (x : Machine S) → RightMachine g fits x → to_do g most (runs n g x) ≤ to_do g most x
  unfolding runs
  runs_no_more zero x r = omega arith
  runs_no_more (suc n) x r =
      let more = runs_no_more n (micro g x) (micro_right g fits most (λ _. sound) x r) in
      let one = step_no_more x r in
      omega arith

  -- some steps from a machine that is going on
  pub runs_fall : (n : ℕ) (x : Machine S) → RightMachine g fits x → x.status ≡ going → to_do g most (runs (suc n) g x) < to_do g most x
  unfolding runs
  runs_fall n x r e =
      let more = runs_no_more n (micro g x) (micro_right g fits most (λ _. sound) x r) in
      let one = micro_falls g fits most (λ _. sound) x r e in
      omega arith

runs_add : {S : Type 0} (g : Guided S) (m n : ℕ) (y : Machine S) → runs (m + n) g y ≡ runs m g (runs n g y)
unfolding runs
runs_add g m zero y = ap (λ k. runs k g y) (let e : m + zero ≡ m = omega arith in e)
runs_add g m (suc n) y = ap (λ k. runs k g y) (let e : m + suc n ≡ suc (m + n) = omega arith in e) ∙ runs_add g m n (micro g y)

-- how many steps are left at most
unfoldable pub left_in : List Example → View → Held → ℕ
left_in es v x = to_do (guided_by es v) (64 + v.rows * v.rows) (machine_of x)

is_going : (st : Status) → st ≡ Going → status_of st ≡ going
is_going st e = ap status_of e

module _ (v : View) (x : Held) where
  -- what goes on after some steps went on before them
  went_on : (n : ℕ) → (held_steps v n x).status ≡ Going → x.status ≡ Going
  went_on n e = go x.status refl
    where
      stays : (x.status ≡ Found) ⊎ (x.status ≡ NoRule) → x.status ≡ Going
      stays h = ap (λ (y : Held). y.status) (sym (steps_stay v n x (held_stays v x h))) ∙ e

      go : (st : Status) → x.status ≡ st → x.status ≡ Going
      go Going h = h
      go Found h = stays (inl h)
      go NoRule h = stays (inr h)

steps_fall : (y : Example) (rest : List Example) (asked : List (List ℕ)) (v : View) (fs : List Frame) → small_examples (y ∷ rest) ≡ true → Laid (y ∷ rest) asked v → length fs ≡ 8 → (n : ℕ) →
    (held_steps v n (held_begun v fs)).status ≡ Going → left_in (y ∷ rest) v (held_steps v (64 + n) (held_begun v fs)) < left_in (y ∷ rest) v (held_steps v n (held_begun v fs))
unfolding left_in
steps_fall y rest asked v fs few laid eight n e =
    let g = guided_by (y ∷ rest) v in
    let most : ℕ = 64 + v.rows * v.rows in
    let sound = examples_sound y rest asked v few laid in
    let now_is = held_runs y rest asked v laid few n fs eight in
    let then_is = held_runs y rest asked v laid few (64 + n) fs eight in
    let right = runs_right g (fit (y ∷ rest)) most (λ _. sound) n (begun g) (begun_right g (fit (y ∷ rest)) most (λ _. sound)) in
    let falls = runs_fall g (fit (y ∷ rest)) most sound 63 (runs n g (begun g)) right (ap (λ (z : Machine (List ℕ)). z.status) (sym now_is) ∙ is_going _ e) in
    subst (λ z. to_do g most z < left_in (y ∷ rest) v (held_steps v n (held_begun v fs))) (sym (then_is ∙ runs_add g 64 n (begun g)))
    (subst (λ z. to_do g most (runs 64 g (runs n g (begun g))) < to_do g most z) (sym now_is) falls)

-- nothing is wanted: the search is over at once
over_at_once : (v : View) (fs : List Frame) → v.examples ≡ 0 → (held_begun v fs).status ≡ Found
unfolding all_at_end
over_at_once v fs e = subst (λ n. (pick (all_at_end v n start) (held Found 0 0 0 fs) (round_with (greatest v 8 n start) fs)).status ≡ Found) (sym e) refl

-- the same in memory
machine_is : (es : List Example) (asked : List (List ℕ)) (m : List ℕ) (b : Begins es asked m) (n : ℕ) → loaded (advances n m) ≡ held_steps (problem_in m) (64 * n) (held_begun (problem_in m) b.frames)
machine_is es asked m b n = let l = b.long in (pieces m (omega arith) n).machine ∙ ap (held_steps (problem_in m) (64 * n)) b.begun

left_is : (es : List Example) (asked : List (List ℕ)) (m : List ℕ) (b : Begins es asked m) (n : ℕ) →
    left_in es (problem_in (advances n m)) (loaded (advances n m)) ≡ left_in es (problem_in m) (held_steps (problem_in m) (64 * n) (held_begun (problem_in m) b.frames))
left_is es asked m b n = let l = b.long in ap₂ (left_in es) (pieces m (omega arith) n).problem (machine_is es asked m b n)

pub pieces_fall : (es : List Example) (asked : List (List ℕ)) (m : List ℕ) (n : ℕ) → Begins es asked m → (loaded (advances (suc n) m)).status ≡ Going →
    left_in es (problem_in (advances (suc n) m)) (loaded (advances (suc n) m)) < left_in es (problem_in (advances n m)) (loaded (advances n m))
pieces_fall [] asked m n b e =
    let found = over_at_once (problem_in m) b.frames b.ready in
    let stays = steps_stay (problem_in m) (64 * suc n) (held_begun (problem_in m) b.frames) (held_stays (problem_in m) (held_begun (problem_in m) b.frames) (inl found)) in
    let is : Found ≡ Going = sym (ap (λ (z : Held). z.status) (machine_is [] asked m b (suc n) ∙ stays) ∙ found) ∙ e in
    absurd (let z : ◌≡◌ {A = ℕ} 0 1 = cc in omega arith)
pieces_fall (y ∷ rest) asked m n b e =
    let x : Held = held_begun (problem_in m) b.frames in
    let more : 64 * suc n ≡ 64 + 64 * n = omega arith in
    let then_is = left_is (y ∷ rest) asked m b (suc n) ∙ ap (λ k. left_in (y ∷ rest) (problem_in m) (held_steps (problem_in m) k x)) more in
    let now_is = left_is (y ∷ rest) asked m b n in
    let on : (held_steps (problem_in m) 64 (held_steps (problem_in m) (64 * n) x)).status ≡ Going =
    ap (λ (z : Held). z.status) (steps_add (problem_in m) 64 (64 * n) x ∙ sym (machine_is (y ∷ rest) asked m b (suc n) ∙ ap (λ k. held_steps (problem_in m) k x) more)) ∙ e in
    let falls = steps_fall y rest asked (problem_in m) b.frames b.few b.ready b.eight (64 * n) (went_on (problem_in m) (held_steps (problem_in m) (64 * n) x) 64 on) in
    omega arith
