-- Each step of a machine keeps it right: the frames of one that is going on have the round left to do, and one that has ended has ended right.
use Rattle.std.proofs.Common.{◌≡◌, ℕ, zero, suc, ◌+◌, ◌<◌, ◌≤◌, Bool, true, false, leb, List, [], ◌∷◌, length, sym, refl, ◌∙◌, subst, arith}
use Rattle.std.proofs.lemmas.Bool.{and_parts, and_from, leb-true, leb-false, le-leb}
use Rattle.rules.specs.Lists.{flat, every}
use Rattle.rules.specs.Rules.{Rule, a_part, a_rule}
use Rattle.rules.specs.Order.{part_spelled, rule_before, First, None}
use Rattle.rules.proofs.Tests.{pick_both}
use Rattle.search.specs.Automaton.{Guided, Sound, accepted, weight}
use Rattle.search.specs.Round.{Result, found, short, Look, over, ends, enters, look, round}
use Rattle.search.specs.Machine.{Frame, Status, going, found_it, there_is_none, Machine, limit, far, machine, moved, fresh, next_round, begun, parts_after, deeper, looked, stepped, micro_at, micro, runs, chosen}
use Rattle.search.proofs.WeightOrder.{not_before, within_limit}
use Rattle.search.proofs.SpelledBehind.{not_so, nothing_earlier}
use Rattle.search.proofs.RoundFirst.{Suffix, NoneBelow, FirstOf, ShortOf, Right, round_right}
use Rattle.search.proofs.MachineKept.{Kept, next_kept, stepped_kept}
use Rattle.search.proofs.MachineMeans.{back, means, found_chosen, rest_entered, stepped_means}

-- a step within a round ends in a machine that is going on with the same budget, or has found a rule
pub within_round : {S : Type 0} (g : Guided S) (b n : ℕ) (f : Frame S) (fs : List (Frame S)) (P : Machine S → Type 0) → ((m : ℕ) (frames : List (Frame S)) → P (machine going b m frames)) → ((frames : List (Frame S)) → P (machine found_it b n frames)) → P (stepped g b n (f ∷ fs))
unfolding stepped
within_round {S} g b n f fs P at_going at_found =
    pick_both (leb (g.count f.state) f.index) (machine going b n fs) (looked k b n f fs (look g k f.state f.left f.index n)) P (λ _. at_going n fs) (λ _. by_look (look g k f.state f.left f.index n))
  where
    k : ℕ
    k = parts_after fs

    by_look : (x : Look S) → P (looked k b n f fs x)
    by_look (over m) = at_going m (moved f ∷ fs)
    by_look ends = at_found (moved f ∷ fs)
    by_look (enters t l) = at_going n (deeper k t l (moved f ∷ fs))

module _ {S : Type 0} (g : Guided S) (fit : S → Bool) where
  -- no accepted rule weighs less than the budget
  abbrev pub Least : ℕ → Type 0
  Least b = NoneBelow g 8 g.automaton.start b

  pub record Going (b n : ℕ) (fs : List (Frame S)) : Type 0 where
    pub not_yet : g.automaton.accepts g.automaton.start ≡ false
    pub means : back g fs (short n) ≡ round g 8 g.automaton.start b far
    pub least : Least b

  abbrev pub RightAt : (b n : ℕ) → List (Frame S) → Status → Type 0
  RightAt b n fs going = Going b n fs
  RightAt b n fs found_it = First (accepted g.automaton g.automaton.start) (chosen g fs)
  RightAt b n fs there_is_none = None (accepted g.automaton g.automaton.start)

  pub record RightMachine (x : Machine S) : Type 0 where
    pub kept : Kept g fit x
    pub right : RightAt x.budget x.short x.frames x.status

-- where the empty rule passes, it is the first
pub empty_first : (f : Rule → Bool) → f [] ≡ true → First f []
unfolding First weight
empty_first f h = (refl, h, λ q a _. not_before q [] (leb-true (length q) 8 (and_parts (leb (length q) 8) (every a_part q) a).0) (omega arith) (omega arith) (λ _. nothing_earlier (flat part_spelled q)))

module _ {S : Type 0} (g : Guided S) (fit : S → Bool) (most : ℕ) (sound : Sound g fit most) (not_yet : g.automaton.accepts g.automaton.start ≡ false) where
  abbrev accepts_rule : Rule → Bool
  accepts_rule = accepted g.automaton g.automaton.start

  abbrev the_round : ℕ → Result
  the_round b = round g 8 g.automaton.start b far

  suffix_of : (q : Rule) → a_rule q ≡ true → accepts_rule q ≡ true → Suffix g 8 g.automaton.start q
  suffix_of q h k = let a = and_parts (leb (length q) 8) (every a_part q) h in record { parts = a.1; few = leb-true (length q) 8 a.0; ok = k }

  round_at : (b : ℕ) → Least g fit b → (r : Result) → the_round b ≡ r → Right g 8 g.automaton.start b far r
  round_at b least r e = subst (λ z. Right g 8 g.automaton.start b far z) e (round_right g fit most sound 8 (omega arith) g.automaton.start b far sound.fit_start not_yet (omega arith) least)

  -- what a round finds is first of all
  found_first : (b : ℕ) (r : Rule) → Least g fit b → the_round b ≡ found r → First accepts_rule r
  unfolding First
  found_first b r least e = (and_from _ _ (le-leb (length r) 8 few) x.is.parts, x.is.ok, first)
    where
      x : FirstOf g 8 g.automaton.start b r
      x = round_at b least (found r) e

      few : length r ≤ 8
      few = x.is.few

      weighs : weight r ≡ b
      weighs = x.weighs

      first : (q : Rule) → a_rule q ≡ true → accepts_rule q ≡ true → rule_before q r ≡ false
      first q h k =
          let y = suffix_of q h k in
          let low = least q y in
          not_before q r y.few few (omega (arith, weighs)) (λ same. x.first q y (same ∙ weighs))

  -- above the limit there is none
  none_above : (b : ℕ) → Least g fit b → limit < b → None accepts_rule
  unfolding None
  none_above b least h q a = not_so (accepts_rule q) (λ k. let y = suffix_of q a k in let low = least q y in let high = within_limit q y.parts y.few in omega arith)

  pub next_right : (b : ℕ) → Least g fit b → RightMachine g fit (next_round g b)
  next_right b least =
      pick_both (leb b limit) (fresh g b) (machine there_is_none 0 0 []) (λ x. Kept g fit x → RightMachine g fit x)
      (λ _ kept. record { kept = kept; right = record { not_yet = not_yet; means = rest_entered g [] g.automaton.start b far; least = least } })
      (λ h kept. record { kept = kept; right = none_above b least (leb-false b limit h) }) (next_kept g fit most sound b)

  -- a round that ends without a rule says which budget to go on with
  pub raised : (b n : ℕ) → Going g fit b n [] → ShortOf g 8 g.automaton.start b far n
  raised b n x = round_at b x.least (short n) (sym x.means)

  pub stepped_right : (b n : ℕ) (fs : List (Frame S)) → Kept g fit (machine going b n fs) → Going g fit b n fs → RightMachine g fit (stepped g b n fs)
  unfolding stepped
  stepped_right b n [] kept x = next_right (b + n) (raised b n x).above
  stepped_right b n (f ∷ fs) kept x =
      within_round g b n f fs (λ y. Kept g fit y → means g y ≡ the_round b → RightMachine g fit y)
      (λ m frames kept e. record { kept = kept; right = record { not_yet = not_yet; means = e; least = x.least } })
      (λ frames kept e. record { kept = kept; right = found_first b (chosen g frames) x.least (sym e ∙ found_chosen g frames) }) (stepped_kept g fit most sound b n (f ∷ fs) kept)
      (sym (stepped_means g b n f fs (let few = kept.few in omega arith)) ∙ x.means)

-- the machine that is begun, and every step; what is sound does not matter where the start accepts
module _ {S : Type 0} (g : Guided S) (fit : S → Bool) (most : ℕ) (sound : g.automaton.accepts g.automaton.start ≡ false → Sound g fit most) where
  pub begun_right : RightMachine g fit (begun g)
  unfolding chosen accepted
  begun_right =
      pick_both (g.automaton.accepts g.automaton.start) (machine found_it 0 0 []) (next_round g least) (λ x. RightMachine g fit x)
      (λ e. record { kept = record { budget_small = omega arith; short_small = omega arith; few = omega arith; fair = tt }; right = empty_first (accepted g.automaton g.automaton.start) e })
      (λ e. next_right g fit most (sound e) e least (λ q x. (sound e).lower 8 g.automaton.start q (sound e).fit_start x.parts x.few (omega arith) x.ok))
    where
      least : ℕ
      least = g.guide 8 g.automaton.start

  pub micro_right : (x : Machine S) → RightMachine g fit x → RightMachine g fit (micro g x)
  unfolding micro
  micro_right x h = go x.status refl
    where
      go : (st : Status) → x.status ≡ st → RightMachine g fit (micro_at g x st)
      go going e =
          let y : RightMachine g fit (machine going x.budget x.short x.frames) = subst (λ st. RightMachine g fit (machine st x.budget x.short x.frames)) e h in
          stepped_right g fit most (sound y.right.not_yet) y.right.not_yet x.budget x.short x.frames y.kept y.right
      go found_it e = h
      go there_is_none e = h

  pub runs_right : (n : ℕ) (x : Machine S) → RightMachine g fit x → RightMachine g fit (runs n g x)
  unfolding runs
  runs_right zero x h = h
  runs_right (suc n) x h = runs_right n (micro g x) (micro_right x h)

-- what is said of a machine that has ended
pub right_first : {S : Type 0} (g : Guided S) (fit : S → Bool) (x : Machine S) → RightMachine g fit x → x.status ≡ found_it → First (accepted g.automaton g.automaton.start) (chosen g x.frames)
right_first g fit x h e = subst (λ st. RightAt g fit x.budget x.short x.frames st) e h.right

pub right_none : {S : Type 0} (g : Guided S) (fit : S → Bool) (x : Machine S) → RightMachine g fit x → x.status ≡ there_is_none → None (accepted g.automaton g.automaton.start)
right_none g fit x h e = subst (λ st. RightAt g fit x.budget x.short x.frames st) e h.right
