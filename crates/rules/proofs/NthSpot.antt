-- Going through the positions of a text and counting finds where an nth place is, and how many there are.
use Rattle.std.proofs.Common.{◌≡◌, ℕ, suc, ◌+◌, ◌-◌, ◌<◌, ◌≤◌, Bool, true, false, ◌&&◌, List, [], ◌∷◌, length, get_or, take, sym, ap, ◌∙◌, subst, arith}
use Rattle.std.proofs.iter.Yields.{nat_range_steps}
use Rattle.std.proofs.lemmas.Iterator.{YieldsList, YieldsList-from_range}
use Rattle.std.proofs.lemmas.List.{take_all}
use Rattle.std.specs.List.{filter}
use Rattle.std.specs.declared.ops.Range.{Range}
use Rattle.rules.specs.Lists.{pick, those}
use Rattle.rules.specs.Places.{before_is, behind_is, all_of, nth, nth_of, spot}
use Rattle.rules.proofs.NthCounts.{filter_is, up_to_is, positions, length_positions, positions_at, those_positions, counts_more, nth_found, nth_missing}

-- before the position there is an l, and behind it an r
abbrev pub fits : List ℕ → ℕ → ℕ → ℕ → Bool
fits t l r p = before_is t l p && behind_is t r p

module _ (t : List ℕ) (l r n : ℕ) (back : Bool) where
  -- of the first positions, so many steps, so many fit, and the nth is not among them
  pub record Counted (count step : ℕ) : Type 0 where
    pub so_far : count ≡ length (those (fits t l r) (take step (positions (length t) back)))
    pub within : count ≤ step
    pub few : 0 < n → count < n

  module _ (count step at : ℕ) (c : Counted count step) (h : step ≤ length t) (e : at ≡ pick back (length t - step) step) where
    inside : step < length (positions (length t) back)
    inside = let k = length_positions (length t) back in omega arith

    is : at ≡ get_or (positions (length t) back) step 0
    is = e ∙ positions_at (length t) step back h

    pub counted_fits : (more : ℕ) → more ≡ count + 1 → fits t l r at ≡ true → (count + 1 ≡ n → ⊥) → Counted more (step + 1)
    counted_fits more is_more f ne = record {
      so_far = is_more ∙ ap (λ k. k + 1) c.so_far ∙ sym (counts_more (fits t l r) (positions (length t) back) step at inside is ∙ ap (λ b. pick b (length (those (fits t l r) (take step (positions (length t) back))) + 1) (length (those (fits t l r) (take step (positions (length t) back))))) f);
      within = let k = c.within in omega arith;
      few = λ some. let k = c.few some in omega arith;
    }

    pub counted_not : (more : ℕ) → more ≡ count → fits t l r at ≡ false → Counted more (step + 1)
    counted_not more is_more f = record {
      so_far = is_more ∙ c.so_far ∙ sym (counts_more (fits t l r) (positions (length t) back) step at inside is ∙ ap (λ b. pick b (length (those (fits t l r) (take step (positions (length t) back))) + 1) (length (those (fits t l r) (take step (positions (length t) back))))) f);
      within = let k = c.within in omega arith;
      few = λ some. let k = c.few some in omega arith;
    }

    pub counted_found : fits t l r at ≡ true → count + 1 ≡ n → at ∷ [] ≡ spot t (nth_of l r n back)
    unfolding spot
    counted_found f there =
        sym (ap (λ ps. nth ps n) (sym (those_positions (fits t l r) (length t) back))
        ∙ nth_found (fits t l r) (positions (length t) back) step at n inside is f (ap (λ k. k + 1) (sym c.so_far) ∙ there))

  pub counted_all : (count step : ℕ) → Counted count step → length t < step → [] ≡ spot t (nth_of l r n back)
  unfolding spot
  counted_all count step c h =
      let long = length_positions (length t) back in
      let all = take_all step (positions (length t) back) (omega arith) in
      let total : count ≡ length (those (fits t l r) (positions (length t) back)) = c.so_far ∙ ap (λ ps. length (those (fits t l r) ps)) all in
      sym (ap (λ ps. nth ps n) (sym (those_positions (fits t l r) (length t) back))
      ∙ nth_missing (fits t l r) (positions (length t) back) n (λ some. let k = c.few some in omega arith))

-- the positions of a text of n bytes come one after the other
pub from_front : (n : ℕ) (s : Range ℕ) → s ≡ record { start = 0; end = n + 1 } → YieldsList nat_range_steps (λ x. x) s (positions n false)
from_front n s e = subst (YieldsList nat_range_steps (λ x. x) s) (up_to_is (suc n)) (YieldsList-from_range 0 (n + 1) (suc n) e (omega arith))

pub count_is : (t : List ℕ) (l r k : ℕ) → k ≡ length (filter (fits t l r) (positions (length t) false)) → k ≡ length (all_of t l r)
count_is t l r k e = e ∙ ap length (filter_is (fits t l r) (positions (length t) false))
