-- One list has all rules there are, so for any test there is a first rule or there is none.
use Rattle.std.proofs.Common.{◌≡◌, ℕ, Bool, true, false, ◌&&◌, ltb, leb, ◌⊎◌, List, [], ◌∷◌, ◌++◌, length, refl, inl, inr, arith}
use mathlib.Core.List.Memᴰ.{append_left as in_left}
use mathlib.Core.List.Memᴰ.{append_right as in_right}
use mathlib.Core.List.Memᴰ.{head as here}
use mathlib.Core.List.Memᴰ.{tail as later}
use mathlib.Core.List.{Memᴰ as In}
use Rattle.std.proofs.lemmas.Bool.Decides.{nat_tests}
use Rattle.rules.specs.Lists.{every, each, flat}
use Rattle.rules.specs.Places.{Place, from_first, from_last, nth_of}
use Rattle.rules.specs.Rules.{Part, bytes, cut, Rule, a_place, a_part, a_rule}
use Rattle.rules.specs.Order.{First, None, rule_before}
use Rattle.rules.specs.Promises.{FirstOrNone, FirstThere}
use Rattle.rules.proofs.FirstOfList.{first_of, Least, Lacks}
use Rattle.rules.proofs.Listed.{Listed, in_each, in_flat, numbers_listed, lists_listed}
use Rattle.rules.proofs.RuleOrder.{before_irrefl, before_trans}

in_flags : (b : Bool) → In b (true ∷ false ∷ [])
in_flags true = here refl
in_flags false = later (here refl)

pub places_listed : Listed a_place
unfolding a_place
places_listed = go (numbers_listed 65) (numbers_listed 512)
  where
    go : Listed (λ n. ltb n 65) → Listed (λ k. ltb k 512) → Listed a_place
    go ns ks = (firsts ++ (lasts ++ nths), has)
      where
        firsts : List Place
        firsts = each (λ n. from_first n) ns.0

        lasts : List Place
        lasts = each (λ n. from_last n) ns.0

        backs : ℕ → ℕ → ℕ → List Place
        backs l r n = each (λ b. nth_of l r n b) (true ∷ false ∷ [])

        counts : ℕ → ℕ → List Place
        counts l r = flat (λ n. backs l r n) ns.0

        behinds : ℕ → List Place
        behinds l = flat (λ r. counts l r) ks.0

        nths : List Place
        nths = flat (λ l. behinds l) ks.0

        has : (p : Place) → a_place p ≡ true → In p (firsts ++ (lasts ++ nths))
        has (from_first n) h = in_left (lasts ++ nths) (in_each (λ m. from_first m) ns.0 n (ns.1 n (grind (arith, nat_tests))))
        has (from_last n) h = in_right firsts (in_left nths (in_each (λ m. from_last m) ns.0 n (ns.1 n (grind (arith, nat_tests)))))
        has (nth_of l r n b) h =
            in_right firsts
            (in_right lasts
            (in_flat (λ l. behinds l) ks.0 l (nth_of l r n b) (ks.1 l (grind (arith, nat_tests)))
            (in_flat (λ r. counts l r) ks.0 r (nth_of l r n b) (ks.1 r (grind (arith, nat_tests)))
            (in_flat (λ n. backs l r n) ns.0 n (nth_of l r n b) (ns.1 n (grind (arith, nat_tests))) (in_each (λ b. nth_of l r n b) (true ∷ false ∷ []) b (in_flags b))))))

pub parts_listed : Listed a_part
unfolding a_part
parts_listed = go (lists_listed (λ c. ltb c 256) (numbers_listed 256) 64) places_listed
  where
    go : Listed (λ (b : List ℕ). leb (length b) 64 && every (λ c. ltb c 256) b) → Listed a_place → Listed a_part
    go bs ps = (literals ++ cuts, has)
      where
        literals : List Part
        literals = each (λ b. bytes b) bs.0

        tos : Place → List Part
        tos p = each (λ q. cut p q) ps.0

        cuts : List Part
        cuts = flat tos ps.0

        has : (p : Part) → a_part p ≡ true → In p (literals ++ cuts)
        has (bytes b) h = in_left cuts (in_each (λ b. bytes b) bs.0 b (bs.1 b (grind (arith, nat_tests))))
        has (cut p q) h = in_right literals (in_flat tos ps.0 p (cut p q) (ps.1 p (grind (arith, nat_tests))) (in_each (λ q. cut p q) ps.0 q (ps.1 q (grind (arith, nat_tests)))))

pub rules_listed : Listed a_rule
rules_listed = lists_listed a_part parts_listed 8

pub first_or_none : FirstOrNone
unfolding First None
first_or_none f = go rules_listed
  where
    go : Listed a_rule → ((r : Rule) × First f r) ⊎ None f
    go all = from (first_of rule_before before_irrefl before_trans f' all.0)
      where
        f' : Rule → Bool
        f' r = a_rule r && f r

        from : ((r : Rule) × Least rule_before f' all.0 r) ⊎ Lacks f' all.0 → ((r : Rule) × First f r) ⊎ None f
        from (inl m) = inl (m.0, (grind (arith, m.1.1), grind (arith, m.1.1), λ q a h. m.1.2 q (all.1 q a) (grind arith)))
        from (inr n) = inr (λ q a. let e = n q (all.1 q a) in grind arith)

pub first_there : FirstThere
unfolding First None
first_there f r a h = go (first_or_none f)
  where
    go : ((q : Rule) × First f q) ⊎ None f → (q : Rule) × First f q
    go (inl m) = m
    go (inr n) = let e = n r a in absurd (grind arith)
