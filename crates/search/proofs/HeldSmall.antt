-- The numbers of a machine that a program holds stay small at every step, and its frames stay eight.
use Rattle.std.proofs.Common.{◌≡◌, ℕ, zero, suc, ◌+◌, ◌-◌, ◌<◌, ◌≤◌, min, ltb, leb, List, length, get_or, set, Some, None, Option, ◌∙◌, arith}
use Rattle.std.proofs.lemmas.List.{length-set}
use Rattle.std.proofs.lemmas.Bool.{ltb-true, leb-true}
use Rattle.rules.specs.Lists.{pick}
use Rattle.rules.proofs.Tests.{pick_both}
use Rattle.candidates.specs.Weights.{far}
use Rattle.candidates.specs.Moves.{start}
use Rattle.candidates.specs.Problem.{View, count_in, all_at_end, greatest}
use Rattle.candidates.specs.Looked.{looked}
use Rattle.candidates.specs.declared.look.Move.{Move}
use Rattle.search.specs.Round.{Look, over, ends, enters}
use Rattle.search.specs.Machine.{limit}
use Rattle.search.specs.Steps.{need_in, look_of, look_in, Held, held, entered_at, moved_on, no_frame, round_with, after_look, going_step, step_of, held_step, held_steps}
use Rattle.search.specs.ByExamples.{held_begun}
use Rattle.search.specs.declared.frame.Frame.{Frame}
use Rattle.search.specs.declared.status.Status.{Status}
use Rattle.search.specs.declared.status.Status.TheVariants.{Going, Found, NoRule}

pub record Small (x : Held) : Type 0 where
  pub cheap : x.budget ≤ limit
  pub near : x.short ≤ far
  pub few : x.depth ≤ 8
  pub eight : length x.frames ≡ 8

-- the shortfall that a look notes is no more than before
abbrev NearLook : ℕ → Look (List ℕ) → Type 0
NearLook n (over m) = m ≤ n
NearLook n ends = Unit {0}
NearLook n (enters s l) = Unit {0}

look_near : (v : View) (k left n : ℕ) (o : Option Move) → NearLook n (look_of v k left n o)
look_near v k left n None = omega arith
look_near v k left n (Some m) =
    pick_both (leb (need_in v m k) left) into (over (min n (need_in v m k - left))) (λ y. NearLook n y)
    (λ _. pick_both (all_at_end v v.examples m.state) ends (enters m.state (left - m.weight)) (λ y. NearLook n y) (λ _. tt) (λ _. tt)) (λ _. omega arith)
  where
    into : Look (List ℕ)
    into = pick (all_at_end v v.examples m.state) ends (enters m.state (left - m.weight))

round_small : (b : ℕ) (fs : List Frame) → length fs ≡ 8 → Small (round_with b fs)
round_small b fs e =
    pick_both (leb b limit) (held Going b far 1 (set fs 0 (entered_at start b))) (held NoRule 0 0 0 fs) (λ x. Small x)
    (λ h. record { cheap = leb-true b limit h; near = omega arith; few = omega arith; eight = length-set fs 0 (entered_at start b) ∙ e })
    (λ _. record { cheap = omega arith; near = omega arith; few = omega arith; eight = e })

after_small : (b n d : ℕ) (fs : List Frame) (y : Look (List ℕ)) → b ≤ limit → n ≤ far → d < 8 → length fs ≡ 8 → NearLook n y → Small (after_look b n d fs y)
after_small b n d fs (over m) c s l e h = record { cheap = c; near = omega arith; few = omega arith; eight = e }
after_small b n d fs ends c s l e h = record { cheap = c; near = s; few = omega arith; eight = e }
after_small b n d fs (enters t left) c s l e h =
    pick_both (ltb d 7) (held Going b n (d + 2) (set fs (d + 1) (entered_at t left))) (held Going b n (d + 1) fs) (λ x. Small x)
    (λ u. let k = ltb-true d 7 u in record { cheap = c; near = s; few = omega arith; eight = length-set fs (d + 1) (entered_at t left) ∙ e })
    (λ _. record { cheap = c; near = s; few = omega arith; eight = e })

going_small : (v : View) (b n d : ℕ) (fs : List Frame) → b ≤ limit → n ≤ far → d ≤ 8 → length fs ≡ 8 → Small (going_step v b n d fs)
unfolding going_step
going_small v b n zero fs c s l e = round_small (b + n) fs e
going_small v b n (suc d) fs c s l e =
    pick_both (leb (count_in v f.state) f.index) (held Going b n d fs) (after_look b n d (set fs d (moved_on f)) (look_in v f (7 - d) n)) (λ x. Small x)
    (λ _. record { cheap = c; near = s; few = omega arith; eight = e })
    (λ _. after_small b n d (set fs d (moved_on f)) (look_in v f (7 - d) n) c s (omega arith) (length-set fs d (moved_on f) ∙ e) (look_near v (7 - d) f.left n (looked v f.state f.index)))
  where
    f : Frame
    f = get_or fs d no_frame

pub step_small : (v : View) (x : Held) → Small x → Small (held_step v x)
unfolding held_step
step_small v x h = go x.status
  where
    go : (st : Status) → Small (step_of v x st)
    go Going = going_small v x.budget x.short x.depth x.frames h.cheap h.near h.few h.eight
    go Found = h
    go NoRule = h

pub begun_small : (v : View) (fs : List Frame) → length fs ≡ 8 → Small (held_begun v fs)
begun_small v fs e =
    pick_both (all_at_end v v.examples start) (held Found 0 0 0 fs) (round_with (greatest v 8 v.examples start) fs) (λ x. Small x)
    (λ _. record { cheap = omega arith; near = omega arith; few = omega arith; eight = e }) (λ _. round_small (greatest v 8 v.examples start) fs e)

pub steps_small : (v : View) (n : ℕ) (x : Held) → Small x → Small (held_steps v n x)
unfolding held_steps
steps_small v zero x h = h
steps_small v (suc n) x h = step_small v (held_steps v n x) (steps_small v n x h)
