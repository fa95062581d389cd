-- A round within a budget that no accepted rule weighs less than finds the first rule of that weight; or there is none, and it says by how much more the budget may grow.
use Rattle.std.proofs.Common.{◌≡◌, ℕ, zero, suc, ◌+◌, ◌-◌, ◌<◌, ◌≤◌, Bool, true, false, leb, ◌⊎◌, [], ◌∷◌, ◌++◌, length, sym, refl, subst, inl, inr, ⊎_elim, arith}
use Rattle.std.proofs.lemmas.Bool.{both_ways, cases_order, and_parts, and_from, leb-true, leb-false}
use Rattle.std.proofs.lemmas.Bool.Decides.{nat_tests}
use Rattle.rules.specs.Lists.{pick, flat, every, earlier}
use Rattle.rules.specs.Rules.{Part, Rule, a_part}
use Rattle.rules.specs.Order.{part_spelled}
use Rattle.rules.proofs.Tests.{pick_both}
use Rattle.search.specs.Automaton.{Guided, StandsFor, Sound, accepted, part_weight, weight}
use Rattle.search.specs.Round.{Result, found, short, Look, over, ends, enters, smaller, needed, look, after_deeper, after_look, tries, round}
use Rattle.search.proofs.SpelledBehind.{nothing_earlier, not_earlier, not_earlier_past}

module _ {S : Type 0} (g : Guided S) where
  -- parts there are, at most k of them, that lead from the state to one that accepts
  pub record Suffix (k : ℕ) (s : S) (q : Rule) : Type 0 where
    pub parts : every a_part q ≡ true
    pub few : length q ≤ k
    pub ok : accepted g.automaton s q ≡ true

  abbrev pub NoneBelow : ℕ → S → ℕ → Type 0
  NoneBelow k s w = (q : Rule) → Suffix k s q → w ≤ weight q

  -- of those that weigh w, the first by its spelling
  pub record FirstOf (k : ℕ) (s : S) (w : ℕ) (r : Rule) : Type 0 where
    pub is : Suffix k s r
    pub weighs : weight r ≡ w
    pub first : (q : Rule) → Suffix k s q → weight q ≡ w → earlier (flat part_spelled q) (flat part_spelled r) ≡ false

  -- all weigh more than w, by m at least; n was noted before
  pub record ShortOf (k : ℕ) (s : S) (w n m : ℕ) : Type 0 where
    pub falls : m ≤ n
    pub grows : 1 ≤ m
    pub above : NoneBelow k s (w + m)

  abbrev pub Right : ℕ → S → (w n : ℕ) → Result → Type 0
  Right k s w n (found r) = FirstOf k s w r
  Right k s w n (short m) = ShortOf k s w n m

  -- more noted before
  pub noted_more : (k : ℕ) (s : S) (w n m : ℕ) (r : Result) → m ≤ n → Right k s w m r → Right k s w n r
  noted_more k s w n m (found r) h x = x
  noted_more k s w n m (short l) h x = record { falls = (let y = x.falls in omega arith); grows = x.grows; above = x.above }

  suffix_more : (k : ℕ) (s : S) (c : Part) (q : Rule) → a_part c ≡ true → g.automaton.goes c s ≡ true → Suffix k (g.automaton.after c s) q → Suffix (suc k) s (c ∷ q)
  unfolding accepted
  suffix_more k s c q a h x = record { parts = and_from _ _ a x.parts; few = (let y = x.few in omega arith); ok = and_from _ _ h x.ok }

  -- what is known of a rule by its first part
  pub record Split (k : ℕ) (s : S) (p : Part) (q : Rule) : Type 0 where
    pub part : a_part p ≡ true
    pub goes : g.automaton.goes p s ≡ true
    pub rest : Suffix k (g.automaton.after p s) q

  split : (k : ℕ) (s : S) (p : Part) (q : Rule) → Suffix (suc k) s (p ∷ q) → Split k s p q
  unfolding accepted
  split k s p q x =
      let a = and_parts _ _ x.parts in
      let b = and_parts _ _ x.ok in
      record { part = a.0; goes = b.0; rest = record { parts = a.1; few = (let y = x.few in omega arith); ok = b.1 } }

  -- every rule from s for whose first part a candidate below i stands weighs more than w by n at least
  abbrev Looked : ℕ → S → (w i n : ℕ) → Type 0
  Looked k s w i n = (p : Part) (q : Rule) → Split k s p q → (j : ℕ) → j < i → StandsFor g s j p → w + n ≤ part_weight p + weight q

-- STEPS OVER ONE CANDIDATE
module _ {S : Type 0} (g : Guided S) (fit : S → Bool) (most : ℕ) (sound : Sound g fit most) where
  module _ (k : ℕ) (s : S) (fits : fit s ≡ true) (w : ℕ) (least : NoneBelow g (suc k) s w) where
    -- a candidate that stands for the first part of one of the lightest rules weighs as much
    stand_same : (p : Part) (q : Rule) (j : ℕ) → Split g k s p q → part_weight p + weight q ≡ w → StandsFor g s j p → (part_weight (g.candidate s j) ≡ part_weight p) × (earlier (part_spelled p) (part_spelled (g.candidate s j)) ≡ false)
    unfolding weight
    stand_same p q j x e st = ⊎_elim (λ less. absurd (lighter less)) (λ same. same) st.as_good
      where
        lighter : part_weight (g.candidate s j) < part_weight p → ⊥
        lighter less =
            let behind : Suffix g k (g.automaton.after (g.candidate s j) s) q = subst (λ t. Suffix g k t q) (sym st.leads) x.rest in
            let low = least (g.candidate s j ∷ q) (suffix_more g k s (g.candidate s j) q (sound.valid s j fits st.there) st.goes behind) in
            omega arith

    -- the first rule behind a candidate, where all before it are too heavy
    first_behind : (i n : ℕ) (r : Rule) → i < g.count s → g.automaton.goes (g.candidate s i) s ≡ true → g.automaton.accepts s ≡ false → 1 ≤ n → Looked g k s w i n → part_weight (g.candidate s i) ≤ w → FirstOf g k (g.automaton.after (g.candidate s i) s) (w - part_weight (g.candidate s i)) r → FirstOf g (suc k) s w (g.candidate s i ∷ r)
    unfolding weight accepted
    first_behind i n r there goes not_yet some looked small x = record { is = suffix_more g k s c r (sound.valid s i fits there) goes x.is; weighs = (let e = x.weighs in omega arith); first = first }
      where
        c : Part
        c = g.candidate s i

        at_same : (p : Part) (q : Rule) → Split g k s p q → part_weight p + weight q ≡ w → StandsFor g s i p → earlier (part_spelled p ++ flat part_spelled q) (part_spelled c ++ flat part_spelled r) ≡ false
        at_same p q y e st =
            let same = stand_same p q i y e st in
            let light = same.0 in
            let behind = x.first q (subst (λ t. Suffix g k t q) (sym st.leads) y.rest) (omega arith) in
            not_earlier p c (flat part_spelled q) (flat part_spelled r) same.1 behind

        at_stand : (p : Part) (q : Rule) → Split g k s p q → part_weight p + weight q ≡ w → (j : ℕ) → StandsFor g s j p → (j ≡ i) ⊎ ((j < i) ⊎ (i < j)) → earlier (part_spelled p ++ flat part_spelled q) (part_spelled c ++ flat part_spelled r) ≡ false
        at_stand p q y e j st (inl same) = at_same p q y e (subst (λ z. StandsFor g s z p) same st)
        at_stand p q y e j st (inr (inl below)) = let heavy = looked p q y j below st in absurd (omega arith)
        at_stand p q y e j st (inr (inr above)) =
            not_earlier_past p c (g.candidate s j) (flat part_spelled q) (flat part_spelled r) (sound.ordered s i j fits above st.there) (stand_same p q j y e st).1

        first : (q : Rule) → Suffix g (suc k) s q → weight q ≡ w → earlier (flat part_spelled q) (flat part_spelled (c ∷ r)) ≡ false
        first [] y e = absurd (both_ways _ not_yet y.ok)
        first (p ∷ q) y e =
            let z = split g k s p q y in
            let st = sound.complete s p fits z.part z.goes in
            at_stand p q z e st.0 st.1 (cases_order st.0 i)

    -- when all candidates are done
    all_looked : (i n : ℕ) → g.count s ≤ i → g.automaton.accepts s ≡ false → 1 ≤ n → Looked g k s w i n → ShortOf g (suc k) s w n n
    unfolding weight accepted
    all_looked i n all not_yet some looked = record { falls = omega arith; grows = some; above = above }
      where
        above : (q : Rule) → Suffix g (suc k) s q → w + n ≤ weight q
        above [] y = absurd (both_ways _ not_yet y.ok)
        above (p ∷ q) y =
            let z = split g k s p q y in
            let st = sound.complete s p fits z.part z.goes in
            let there = st.1.there in
            looked p q z st.0 (omega arith) st.1

    -- one candidate more is looked at, behind which all weigh enough
    looked_more : (i n m : ℕ) → m ≤ n → Looked g k s w i n → (g.automaton.goes (g.candidate s i) s ≡ true → (q : Rule) → Suffix g k (g.automaton.after (g.candidate s i) s) q → w + m ≤ part_weight (g.candidate s i) + weight q) → Looked g k s w (i + 1) m
    looked_more i n m fall looked here p q y j below st = go (cases_order j i)
      where
        at_same : StandsFor g s i p → w + m ≤ part_weight p + weight q
        at_same st =
            let enough = here st.goes q (subst (λ t. Suffix g k t q) (sym st.leads) y.rest) in
            ⊎_elim (λ less. omega arith) (λ same. let e = same.0 in omega arith) st.as_good

        go : (j ≡ i) ⊎ ((j < i) ⊎ (i < j)) → w + m ≤ part_weight p + weight q
        go (inl same) = at_same (subst (λ z. StandsFor g s z p) same st)
        go (inr (inl before)) = let old = looked p q y j before st in omega arith
        go (inr (inr past)) = absurd (omega arith)

  -- a round from every fit state that does not accept
  abbrev pub RoundRight : ℕ → Type 0
  RoundRight k = (s : S) (w n : ℕ) → fit s ≡ true → g.automaton.accepts s ≡ false → 1 ≤ n → NoneBelow g k s w → Right g k s w n (round g k s w n)

  module _ (k : ℕ) (few : k ≤ 8) (deeper_right : RoundRight k) (s : S) (fits : fit s ≡ true) (not_yet : g.automaton.accepts s ≡ false) (w : ℕ) (least : NoneBelow g (suc k) s w) where
    -- one look, and what comes after it
    look_right : (i n : ℕ) (next : ℕ → Result) → i < g.count s → 1 ≤ n → Looked g k s w i n → ((m : ℕ) → 1 ≤ m → Looked g k s w (i + 1) m → Right g (suc k) s w m (next m)) → Right g (suc k) s w n (after_look (g.candidate s i) (round g k) next n (look g k s w i n))
    unfolding weight accepted
    look_right i n next there some looked next_right = pick_both (g.automaton.goes c s) going_on (over n) P at_goes at_stays
      where
        c : Part
        c = g.candidate s i

        t : S
        t = g.automaton.after c s

        P : Look S → Type 0
        P x = Right g (suc k) s w n (after_look c (round g k) next n x)

        into : Look S
        into = pick (g.automaton.accepts t) ends (enters t (w - part_weight c))

        going_on : Look S
        going_on = pick (leb (needed g k c t) w) into (over (smaller n (needed g k c t - w)))

        on_with : (m : ℕ) → m ≤ n → 1 ≤ m → (g.automaton.goes c s ≡ true → (q : Rule) → Suffix g k t q → w + m ≤ part_weight c + weight q) → Right g (suc k) s w n (next m)
        on_with m fall rise enough = noted_more g (suc k) s w n m (next m) fall (next_right m rise (looked_more k s fits w least i n m fall looked enough))

        at_stays : g.automaton.goes c s ≡ false → P (over n)
        at_stays h = on_with n (omega arith) some (λ goes. absurd (both_ways _ h goes))

        at_goes : g.automaton.goes c s ≡ true → P going_on
        at_goes goes = pick_both (leb (needed g k c t) w) into (over (smaller n (needed g k c t - w))) P at_small at_large
          where
            fits_after : fit t ≡ true
            fits_after = sound.fit_after c s fits goes

            guided : (q : Rule) → Suffix g k t q → g.guide k t ≤ weight q
            guided q y = sound.lower k t q fits_after y.parts y.few few y.ok

            at_large : leb (needed g k c t) w ≡ false → P (over (smaller n (needed g k c t - w)))
            at_large h =
                let large = leb-false (needed g k c t) w h in
                on_with (smaller n (needed g k c t - w)) (grind (arith, nat_tests)) (grind (arith, nat_tests)) (λ _ q y. let low = guided q y in grind (arith, nat_tests))

            at_small : leb (needed g k c t) w ≡ true → P into
            at_small h = pick_both (g.automaton.accepts t) ends (enters t (w - part_weight c)) P ends_there at_deeper
              where
                small : part_weight c ≤ w
                small = let e = leb-true (needed g k c t) w h in omega arith

                behind : (r : Rule) → FirstOf g k t (w - part_weight c) r → FirstOf g (suc k) s w (c ∷ r)
                behind r x = first_behind k s fits w least i n r there goes not_yet some looked small x

                least_behind : NoneBelow g k t (w - part_weight c)
                least_behind q y = let low = least (c ∷ q) (suffix_more g k s c q (sound.valid s i fits there) goes y) in omega arith

                ends_there : g.automaton.accepts t ≡ true → P ends
                ends_there accepts =
                    let done : Suffix g k t [] = record { parts = refl; few = omega arith; ok = accepts } in
                    let low = least_behind [] done in
                    behind [] (record { is = done; weighs = omega arith; first = λ q _ _. nothing_earlier (flat part_spelled q) })

                after_right : (x : Result) → Right g k t (w - part_weight c) n x → Right g (suc k) s w n (after_deeper c next x)
                after_right (found r) x = behind r x
                after_right (short m) x = on_with m x.falls x.grows (λ _ q y. let low = x.above q y in omega arith)

                at_deeper : g.automaton.accepts t ≡ false → P (enters t (w - part_weight c))
                at_deeper not_there = after_right (round g k t (w - part_weight c) n) (deeper_right t (w - part_weight c) n fits_after not_there some least_behind)

    tries_right : (m i n : ℕ) → i + m ≡ g.count s → 1 ≤ n → Looked g k s w i n → Right g (suc k) s w n (tries g (round g k) k s w i m n)
    unfolding tries
    tries_right zero i n e some looked = all_looked k s fits w least i n (omega arith) not_yet some looked
    tries_right (suc m) i n e some looked =
        look_right i n (λ l. tries g (round g k) k s w (i + 1) m l) (omega arith) some looked (λ l rise more. tries_right m (i + 1) l (omega arith) rise more)

  pub round_right : (k : ℕ) → k ≤ 8 → RoundRight k
  unfolding round accepted
  round_right zero few s w n fits not_yet some least = record { falls = omega arith; grows = some; above = above }
    where
      above : NoneBelow g 0 s (w + n)
      above [] y = absurd (both_ways _ not_yet y.ok)
      above (p ∷ q) y = let few = y.few in absurd (omega arith)
  round_right (suc k) few s w n fits not_yet some least =
      tries_right k (omega arith) (round_right k (omega arith)) s fits not_yet w least (g.count s) 0 n (omega arith) some (λ p q y j below st. absurd (omega arith))
