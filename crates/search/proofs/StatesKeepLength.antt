-- Every state in a frame has nine numbers, and steps keep it so.
use Rattle.std.proofs.Common.{◌≡◌, ℕ, zero, suc, ◌+◌, ◌-◌, ◌*◌, ◌<◌, ◌≤◌, true, eqb, ltb, leb, List, [], ◌∷◌, length, get_or, drop, set, Some, None, Option, refl, ap, ◌∙◌, arith, length-drop, length-set}
use Rattle.std.proofs.lemmas.List.{length-take-le}
use Rattle.std.proofs.lemmas.Bool.{and_parts, and_from, eqb-true, eq-eqb}
use Rattle.rules.specs.Rules.{Made}
use Rattle.rules.proofs.Tests.{pick_both}
use Rattle.candidates.specs.Weights.{far}
use Rattle.candidates.specs.Problem.{View, all_go, all_moved, all_at_end, candidate_piece, candidate_weight, count_in, greatest}
use Rattle.candidates.specs.Moves.{start}
use Rattle.candidates.specs.declared.look.Move.{Move}
use Rattle.search.specs.Round.{Look, over, ends, enters}
use Rattle.search.specs.Machine.{limit}
use Rattle.search.specs.Steps.{Held, held, need_in, weigh_in, look_of, look_in, entered_at, moved_on, no_frame, round_with, after_look, going_step, step_of, held_step, held_steps}
use Rattle.search.specs.ByExamples.{held_begun}
use Rattle.search.specs.Memory.{frames_from, loaded}
use Rattle.search.specs.declared.frame.Frame.{Frame}
use Rattle.search.specs.declared.status.Status.{Status}
use Rattle.search.specs.declared.status.Status.TheVariants.{Going, Found, NoRule}
use Rattle.search.proofs.FramesInMemory.{nines}
use Rattle.search.proofs.HeldSmall.{Small, step_small, begun_small}

pub moved_long : (piece : ℕ → Made) (m : ℕ) (s : List ℕ) → length (all_moved piece m s) ≡ length s
unfolding all_moved
moved_long piece zero s = refl
moved_long piece (suc m) s = length-set (all_moved piece m s) m _ ∙ moved_long piece m s

nines_set : (fs : List Frame) (i : ℕ) (f : Frame) → nines fs ≡ true → length f.state ≡ 9 → nines (set fs i f) ≡ true
nines_set [] i f n h = n
nines_set (g ∷ fs) zero f n h = let both = and_parts (eqb (length g.state) 9) (nines fs) n in and_from _ _ (eq-eqb _ _ h) both.1
nines_set (g ∷ fs) (suc i) f n h = let both = and_parts (eqb (length g.state) 9) (nines fs) n in and_from _ _ both.0 (nines_set fs i f both.1 h)

nine_at : (fs : List Frame) (i : ℕ) (d : Frame) → nines fs ≡ true → i < length fs → length (get_or fs i d).state ≡ 9
nine_at [] i d n h = absurd (omega arith)
nine_at (g ∷ fs) zero d n h = eqb-true _ _ (and_parts (eqb (length g.state) 9) (nines fs) n).0
nine_at (g ∷ fs) (suc i) d n h = nine_at fs i d (and_parts (eqb (length g.state) 9) (nines fs) n).1 (omega arith)

-- a state that is entered has nine numbers
Nine : Look (List ℕ) → Type 0
Nine (over n) = zero ≡ zero
Nine ends = zero ≡ zero
Nine (enters s l) = length s ≡ 9

weigh_nine : (v : View) (m : Move) (k left n : ℕ) → length m.state ≡ 9 → Nine (weigh_in v m k left n)
unfolding Nine
weigh_nine v m k left n h =
    pick_both (leb (need_in v m k) left) _ _ Nine
    (λ _. pick_both (all_at_end v v.examples m.state) ends (enters m.state (left - m.weight)) Nine (λ _. refl) (λ _. h)) (λ _. refl)

look_nine : (v : View) (f : Frame) (k n : ℕ) → length f.state ≡ 9 → Nine (look_in v f k n)
unfolding Nine
look_nine v f k n h =
    pick_both {A = Option Move} (all_go v (candidate_piece v f.state f.index) v.examples f.state)
    (Some (record { state = all_moved (candidate_piece v f.state f.index) v.examples f.state; weight = candidate_weight v f.state f.index })) None
    (λ o. Nine (look_of v k f.left n o))
    (λ _. weigh_nine v (record { state = all_moved (candidate_piece v f.state f.index) v.examples f.state; weight = candidate_weight v f.state f.index }) k f.left n (moved_long (candidate_piece v f.state f.index) v.examples f.state ∙ h))
    (λ _. refl)

after_nine : (b n d : ℕ) (fs : List Frame) (l : Look (List ℕ)) → nines fs ≡ true → Nine l → nines (after_look b n d fs l).frames ≡ true
unfolding Nine
after_nine b n d fs (over m) h k = h
after_nine b n d fs ends h k = h
after_nine b n d fs (enters s l) h k =
    pick_both (ltb d 7) (held Going b n (d + 2) (set fs (d + 1) (entered_at s l))) (held Going b n (d + 1) fs) (λ (x : Held). nines x.frames ≡ true)
    (λ _. nines_set fs (d + 1) (entered_at s l) h k) (λ _. h)

round_nine : (b : ℕ) (fs : List Frame) → nines fs ≡ true → nines (round_with b fs).frames ≡ true
round_nine b fs h =
    pick_both (leb b limit) (held Going b far 1 (set fs 0 (entered_at start b))) (held NoRule 0 0 0 fs) (λ (x : Held). nines x.frames ≡ true)
    (λ _. nines_set fs 0 (entered_at start b) h refl) (λ _. h)

going_nine : (v : View) (b n d : ℕ) (fs : List Frame) → nines fs ≡ true → d ≤ length fs → nines (going_step v b n d fs).frames ≡ true
unfolding going_step
going_nine v b n zero fs h few = round_nine (b + n) fs h
going_nine v b n (suc d) fs h few =
    let f : Frame = get_or fs d no_frame in
    let nine = nine_at fs d no_frame h (omega arith) in
    pick_both (leb (count_in v f.state) f.index) (held Going b n d fs) (after_look b n d (set fs d (moved_on f)) (look_in v f (7 - d) n)) (λ (x : Held). nines x.frames ≡ true)
    (λ _. h) (λ _. after_nine b n d (set fs d (moved_on f)) (look_in v f (7 - d) n) (nines_set fs d (moved_on f) h nine) (look_nine v f (7 - d) n nine))

-- a machine that can be stored and loaded again
pub record Shaped (x : Held) : Type 0 where
  pub small : Small x
  pub nine : nines x.frames ≡ true

step_nine : (v : View) (x : Held) (st : Status) → Shaped x → nines (step_of v x st).frames ≡ true
step_nine v x Going h = let few = h.small.few in let eight = h.small.eight in going_nine v x.budget x.short x.depth x.frames h.nine (omega arith)
step_nine v x Found h = h.nine
step_nine v x NoRule h = h.nine

pub step_shaped : (v : View) (x : Held) → Shaped x → Shaped (held_step v x)
unfolding held_step
step_shaped v x h = record { small = step_small v x h.small; nine = step_nine v x x.status h }

pub steps_shaped : (v : View) (n : ℕ) (x : Held) → Shaped x → Shaped (held_steps v n x)
unfolding held_steps
steps_shaped v zero x h = h
steps_shaped v (suc n) x h = step_shaped v (held_steps v n x) (steps_shaped v n x h)

pub begun_shaped : (v : View) (fs : List Frame) → length fs ≡ 8 → nines fs ≡ true → Shaped (held_begun v fs)
begun_shaped v fs eight h = record {
  small = begun_small v fs eight;
  nine = pick_both (all_at_end v v.examples start) (held Found 0 0 0 fs) (round_with (greatest v 8 v.examples start) fs) (λ (x : Held). nines x.frames ≡ true)
      (λ _. h) (λ _. round_nine (greatest v 8 v.examples start) fs h);
}

-- what is loaded is such a machine
pub loaded_nine : (k : ℕ) (ns : List ℕ) → 11 * k ≤ length ns → nines (frames_from k ns) ≡ true
unfolding frames_from
loaded_nine zero ns h = refl
loaded_nine (suc k) ns h = let l = length-drop 11 ns in and_from _ _ (eq-eqb _ _ (length-take-le 9 ns (omega arith))) (loaded_nine k (drop 11 ns) (omega arith))

loaded_eight : (k : ℕ) (ns : List ℕ) → length (frames_from k ns) ≡ k
unfolding frames_from
loaded_eight zero ns = refl
loaded_eight (suc k) ns = ap suc (loaded_eight k (drop 11 ns))

pub loaded_shaped : (m : List ℕ) → 92 ≤ length m → Shaped (loaded m)
unfolding loaded
loaded_shaped m h = record {
  small = record { cheap = omega arith; near = omega arith; few = omega arith; eight = loaded_eight 8 (drop 4 m) };
  nine = (let l = length-drop 4 m in loaded_nine 8 (drop 4 m) (omega arith));
}
