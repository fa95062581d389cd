-- The least sum taken in a loop: what is least so far, and what is least of the rest, give the whole.
use Rattle.std.proofs.Common.{◌≡◌, ℕ, ◌+◌, ◌*◌, ◌<◌, ◌≤◌, ◌⊎◌, inl, inr, List, [], ◌∷◌, ◌++◌, length, get_or, drop, sym, refl, ap, ◌∙◌, subst, arith, length-append}
use Rattle.std.proofs.lemmas.List.{drop_at, get_or_append_left}
use Rattle.std.proofs.lemmas.Bool.Decides.{nat_tests}
use Rattle.candidates.specs.Weights.{smaller, far}
use Rattle.candidates.specs.Guide.{least_in}

least_in_far : (k : ℕ) (ns m : List ℕ) → least_in k ns m ≤ far
unfolding least_in
least_in_far k [] m = omega arith
least_in_far k (n ∷ ns) m = let ih = least_in_far k ns (drop 9 m) in grind (arith, nat_tests)

-- the sum of a step and of the column that lies behind it, before the rest
least_in_more : (k n : ℕ) (ns c m : List ℕ) → k < 9 → length c ≡ 9 → least_in k (n ∷ ns) (c ++ m) ≡ smaller (n + get_or c k 0) (least_in k ns m)
unfolding least_in
least_in_more k n ns c m h nine =
    ap (λ z. smaller (n + z) (least_in k ns (drop 9 (c ++ m)))) (get_or_append_left c m 0 k (omega arith))
    ∙ ap (λ l. smaller (n + get_or c k 0) (least_in k ns l)) (drop_at c m 9 nine)

least_in_none : (k : ℕ) (m : List ℕ) → least_in k [] m ≡ far
unfolding least_in
least_in_none k m = refl

smaller_thrice : (a b c : ℕ) → smaller (smaller a b) c ≡ smaller a (smaller b c)
smaller_thrice a b c = grind (arith, nat_tests)

-- of steps and the columns behind them some are left
pub record LeastSoFar (k : ℕ) (ns m left behind : List ℕ) (least : ℕ) : Type 0 where
  pub low : least ≤ far
  pub nine_each : length behind ≡ 9 * length left
  pub whole : smaller least (least_in k left behind) ≡ least_in k ns m

module _ (k : ℕ) (ns m : List ℕ) where
  pub least_starts : (left behind : List ℕ) → left ≡ ns → behind ≡ m → length m ≡ 9 * length ns → LeastSoFar k ns m left behind far
  least_starts left behind e f h =
      let top = least_in_far k ns m in
      let begins : LeastSoFar k ns m ns m far = record { low = omega arith; nine_each = h; whole = grind (arith, nat_tests) } in
      subst (λ l. LeastSoFar k ns m l behind far) (sym e) (subst (λ b. LeastSoFar k ns m ns b far) (sym f) begins)

  pub least_goes_on : (left behind ns' c m' : List ℕ) (n least v : ℕ) → k < 9 → left ≡ n ∷ ns' → behind ≡ c ++ m' → length c ≡ 9 → v ≡ smaller least (n + get_or c k 0) →
      LeastSoFar k ns m left behind least → LeastSoFar k ns m ns' m' v
  least_goes_on left behind ns' c m' n least v h at from nine is so =
      let one : least_in k left behind ≡ smaller (n + get_or c k 0) (least_in k ns' m') = ap (λ l. least_in k l behind) at ∙ ap (least_in k (n ∷ ns')) from ∙ least_in_more k n ns' c m' h nine in
      record {
        low = let f = so.low in grind (arith, nat_tests);
        nine_each = omega (arith, so.nine_each, ap length at, ap length from, length-append c m');
        whole = ap (λ z. smaller z (least_in k ns' m')) is ∙ smaller_thrice least (n + get_or c k 0) (least_in k ns' m') ∙ ap (smaller least) (sym one) ∙ so.whole;
      }

  -- where no step is left, or no column
  pub least_ends : (left behind : List ℕ) (least : ℕ) → (length left ≡ 0) ⊎ (length behind < 9) → LeastSoFar k ns m left behind least → least ≡ least_in k ns m
  least_ends [] behind least past so = let f = so.low in let none = least_in_none k behind in let w = so.whole in grind (arith, nat_tests)
  least_ends (n ∷ left) behind least (inl e) so = absurd (omega arith)
  least_ends (n ∷ left) behind least (inr h) so = absurd (omega (arith, so.nine_each))
