-- What holds of the machine at every step: eight frames at most, in fit states, with numbers that stay small.
use Rattle.std.proofs.Common.{◌≡◌, ℕ, ◌+◌, ◌-◌, ◌≤◌, Bool, true, false, eqb, leb, List, [], ◌∷◌, length, refl, subst, arith}
use Rattle.std.proofs.lemmas.Bool.{leb-true, leb-false, eqb-false}
use Rattle.std.proofs.lemmas.Bool.Decides.{nat_tests}
use Rattle.rules.specs.Lists.{pick}
use Rattle.rules.specs.Rules.{Part}
use Rattle.rules.proofs.Tests.{pick_both}
use Rattle.search.specs.Automaton.{Guided, Sound, part_weight}
use Rattle.search.specs.Round.{Look, over, ends, enters, smaller, needed, look}
use Rattle.search.specs.Machine.{Frame, Status, going, found_it, there_is_none, Machine, limit, far, machine, entered, moved, fresh, next_round, begun, parts_after, looked, stepped, micro_at, micro}

module _ {S : Type 0} (g : Guided S) (fit : S → Bool) where
  -- a frame of whose candidates at least `from` have been looked at
  pub record Fair (from : ℕ) (f : Frame S) : Type 0 where
    pub fits : fit f.state ≡ true
    pub left_small : f.left ≤ limit
    pub index_from : from ≤ f.index
    pub index_within : f.index ≤ g.count f.state

  -- frames under another have led to it by a candidate
  abbrev pub FairFrames : ℕ → List (Frame S) → Type 0
  FairFrames from [] = Unit {0}
  FairFrames from (f ∷ fs) = Fair from f × FairFrames 1 fs

  -- and all have, when it is found
  abbrev pub top_from : Status → ℕ
  top_from going = 0
  top_from found_it = 1
  top_from there_is_none = 0

  abbrev pub BudgetSmall : Status → ℕ → Type 0
  BudgetSmall going b = b ≤ limit
  BudgetSmall found_it b = b ≤ limit
  BudgetSmall there_is_none b = Unit {0}

  pub record Kept (x : Machine S) : Type 0 where
    pub budget_small : BudgetSmall x.status x.budget
    pub short_small : x.short ≤ far
    pub few : length x.frames ≤ 8
    pub fair : FairFrames (top_from x.status) x.frames

  -- what a look leads to
  abbrev pub FairLook : ℕ → Look S → Type 0
  FairLook n (over m) = m ≤ n
  FairLook n ends = Unit {0}
  FairLook n (enters t l) = (fit t ≡ true) × (l ≤ limit)

  fair_from_none : (fs : List (Frame S)) → FairFrames 1 fs → FairFrames 0 fs
  fair_from_none [] h = tt
  fair_from_none (f ∷ fs) h = (record { fits = h.0.fits; left_small = h.0.left_small; index_from = omega arith; index_within = h.0.index_within }, h.1)

  module _ (most : ℕ) (sound : Sound g fit most) where
    pub look_fair : (k : ℕ) (s : S) (left i n : ℕ) → fit s ≡ true → left ≤ limit → FairLook n (look g k s left i n)
    look_fair k s left i n fits small = pick_both (g.automaton.goes c s) going_on (over n) (λ x. FairLook n x) at_goes (λ _. omega arith)
      where
        c : Part
        c = g.candidate s i

        t : S
        t = g.automaton.after c s

        into : Look S
        into = pick (g.automaton.accepts t) ends (enters t (left - part_weight c))

        going_on : Look S
        going_on = pick (leb (needed g k c t) left) into (over (smaller n (needed g k c t - left)))

        at_goes : g.automaton.goes c s ≡ true → FairLook n going_on
        at_goes goes =
            pick_both (leb (needed g k c t) left) into (over (smaller n (needed g k c t - left))) (λ x. FairLook n x)
            (λ _. pick_both (g.automaton.accepts t) ends (enters t (left - part_weight c)) (λ x. FairLook n x) (λ _. tt) (λ _. (sound.fit_after c s fits goes, omega arith)))
            (λ _. grind (arith, nat_tests))

    fair_entered : (t : S) (l : ℕ) → fit t ≡ true → l ≤ limit → Fair 0 (entered t l)
    fair_entered t l fits small = record { fits = fits; left_small = small; index_from = omega arith; index_within = omega arith }

    pub fresh_kept : (b : ℕ) → b ≤ limit → Kept (fresh g b)
    fresh_kept b h = record { budget_small = h; short_small = omega arith; few = omega arith; fair = (fair_entered g.automaton.start b sound.fit_start h, tt) }

    pub next_kept : (b : ℕ) → Kept (next_round g b)
    next_kept b =
        pick_both (leb b limit) (fresh g b) (machine there_is_none 0 0 []) (λ x. Kept x) (λ h. fresh_kept b (leb-true b limit h))
        (λ _. record { budget_small = tt; short_small = omega arith; few = omega arith; fair = tt })

    looked_kept : (b n : ℕ) (f : Frame S) (fs : List (Frame S)) (x : Look S) → Kept (machine going b n (f ∷ fs)) → leb (g.count f.state) f.index ≡ false → FairLook n x → Kept (looked (parts_after fs) b n f fs x)
    looked_kept b n f fs x kept more fair = go x fair
      where
        under : Fair 1 (moved f)
        under = let h = leb-false (g.count f.state) f.index more in record { fits = kept.fair.0.fits; left_small = kept.fair.0.left_small; index_from = omega arith; index_within = omega arith }

        top : Fair 0 (moved f)
        top = record { fits = under.fits; left_small = under.left_small; index_from = omega arith; index_within = under.index_within }

        few : length fs ≤ 7
        few = let h = kept.few in omega arith

        short_small : n ≤ far
        short_small = kept.short_small

        going_with : (frames : List (Frame S)) → length frames ≤ 8 → FairFrames 0 frames → Kept (machine going b n frames)
        going_with frames h fair = record { budget_small = kept.budget_small; short_small = short_small; few = h; fair = fair }

        go : (x : Look S) → FairLook n x → Kept (looked (parts_after fs) b n f fs x)
        go (over m) h = record { budget_small = kept.budget_small; short_small = omega arith; few = omega arith; fair = (top, kept.fair.1) }
        go ends h = record { budget_small = kept.budget_small; short_small = short_small; few = omega arith; fair = (under, kept.fair.1) }
        go (enters t l) h =
            pick_both (eqb (parts_after fs) 0) (moved f ∷ fs) (entered t l ∷ (moved f ∷ fs)) (λ frames. Kept (machine going b n frames))
            (λ _. going_with (moved f ∷ fs) (omega arith) (top, kept.fair.1))
            (λ e. let k = eqb-false (parts_after fs) 0 e in going_with (entered t l ∷ (moved f ∷ fs)) (omega arith) (fair_entered t l h.0 h.1, (under, kept.fair.1)))

    pub stepped_kept : (b n : ℕ) (fs : List (Frame S)) → Kept (machine going b n fs) → Kept (stepped g b n fs)
    unfolding stepped
    stepped_kept b n [] kept = next_kept (b + n)
    stepped_kept b n (f ∷ fs) kept =
        pick_both (leb (g.count f.state) f.index) (machine going b n fs) (looked (parts_after fs) b n f fs x) (λ x. Kept x)
        (λ _. record { budget_small = kept.budget_small; short_small = kept.short_small; few = (let h = kept.few in omega arith); fair = fair_from_none fs kept.fair.1 })
        (λ more. looked_kept b n f fs x kept more (look_fair (parts_after fs) f.state f.left f.index n kept.fair.0.fits kept.fair.0.left_small))
      where
        x : Look S
        x = look g (parts_after fs) f.state f.left f.index n

    pub begun_kept : Kept (begun g)
    begun_kept =
        pick_both (g.automaton.accepts g.automaton.start) (machine found_it 0 0 []) (next_round g (g.guide 8 g.automaton.start)) (λ x. Kept x)
        (λ _. record { budget_small = omega arith; short_small = omega arith; few = omega arith; fair = tt })
        (λ _. next_kept (g.guide 8 g.automaton.start))

    pub micro_kept : (x : Machine S) → Kept x → Kept (micro g x)
    unfolding micro
    micro_kept x kept = go x.status refl
      where
        go : (st : Status) → x.status ≡ st → Kept (micro_at g x st)
        go going e = stepped_kept x.budget x.short x.frames (subst (λ st. Kept (machine st x.budget x.short x.frames)) e kept)
        go found_it e = kept
        go there_is_none e = kept
