-- Going through the kinds by their numbers collects those that stand in a text.
use Rattle.std.proofs.Common.{◌≡◌, ℕ, suc, ◌+◌, ◌≤◌, Bool, true, false, ◌&&◌, ◌||◌, List, [], ◌∷◌, ◌++◌, length, sym, refl, ap, ◌∙◌, ap₂, append-nil, length-append, arith}
use Rattle.std.specs.List.{list_any}
use Rattle.std.proofs.lemmas.Bool.{ne_eqb}
use Rattle.rules.specs.declared.kind.Kind.{Kind}
use Rattle.rules.specs.declared.kind.Kind.TheVariants.{Anything, Digits, Letters, Capitals, SmallLetters, Blanks, Sign}
use Rattle.rules.specs.Lists.{pick, or, any, each, those, up_to}
use Rattle.rules.specs.Places.{of_kind}
use Rattle.rules.specs.Rules.{a_kind}
use Rattle.rules.specs.Values.{kind_number}
use Rattle.rules.proofs.NthCounts.{those-++}
use Rattle.rules.proofs.EachElement.{each_append}
use Rattle.candidates.specs.Places.{stands_in, kinds_in}

-- only the kind `Anything` has the number 0
pub zero_is : (k : Kind) → kind_number k ≡ 0 → k ≡ Anything
zero_is Anything e = refl
zero_is Digits e = absurd (omega arith)
zero_is Letters e = absurd (omega arith)
zero_is Capitals e = absurd (omega arith)
zero_is SmallLetters e = absurd (omega arith)
zero_is Blanks e = absurd (omega arith)
zero_is (Sign b) e = absurd (omega arith)

any_is : (p : ℕ → Bool) (xs : List ℕ) → list_any p xs ≡ any p xs
any_is p [] = refl
any_is p (x ∷ xs) = go (p x) (any_is p xs)
  where
    go : (b : Bool) → list_any p xs ≡ any p xs → (b || list_any p xs) ≡ or b (any p xs)
    go true e = refl
    go false e = e

-- a kind that is not anything stands in a text if a byte is of it
pub some_byte : (t : List ℕ) (k : ℕ) (r : Bool) → (k ≡ 0 → ⊥) → r ≡ list_any (λ c. of_kind k c) t → r ≡ stands_in t k
some_byte t k r h e = e ∙ any_is (λ c. of_kind k c) t ∙ sym (ap (λ b. or b (any (λ c. of_kind k c) t)) (ne_eqb k 0 h))

-- THE KINDS OF A TEXT
module _ (t : List ℕ) where
  -- a kind that stands in the text
  abbrev wanted : ℕ → Bool
  wanted k = a_kind k && stands_in t k

  -- those with numbers below n are collected
  pub record Collected (n : ℕ) (kinds : List Kind) : Type 0 where
    pub few : length kinds ≤ n
    pub is : each kind_number kinds ≡ those wanted (up_to n)

  those_next : (n : ℕ) → those wanted (up_to (n + 1)) ≡ those wanted (up_to n) ++ pick (wanted n) (n ∷ []) []
  unfolding up_to
  those_next n = ap (λ m. those wanted (up_to m)) (let k : n + 1 ≡ suc n = omega arith in k) ∙ those-++ wanted (up_to n) (n ∷ [])

  module _ (n : ℕ) (kinds : List Kind) (c : Collected n kinds) where
    -- one is put behind them
    pub collected_more : (x : Kind) (after : List Kind) → kind_number x ≡ n → a_kind n ≡ true → stands_in t (kind_number x) ≡ true → after ≡ kinds ++ x ∷ [] → Collected (n + 1) after
    collected_more x after e a s f =
        let few = c.few in
        let one_more = ap length f ∙ length-append kinds (x ∷ []) in
        let yes_wanted : wanted n ≡ true = ap₂ (λ b d. b && d) a (ap (stands_in t) (sym e) ∙ s) in
        record {
          few = omega arith;
          is = ap (each kind_number) f ∙ each_append kind_number kinds (x ∷ [])
              ∙ ap₂ (λ l k. l ++ k ∷ []) c.is e ∙ sym (those_next n ∙ ap (λ b. those wanted (up_to n) ++ pick b (n ∷ []) []) yes_wanted);
        }

    collected_same : (after : List Kind) → wanted n ≡ false → after ≡ kinds → Collected (n + 1) after
    collected_same after w f =
        let few = c.few in
        record {
          few = omega (arith, ap length f);
          is = ap (each kind_number) f ∙ c.is
              ∙ sym (those_next n ∙ ap (λ b. those wanted (up_to n) ++ pick b (n ∷ []) []) w ∙ append-nil (those wanted (up_to n)));
        }

    -- it is a kind, and does not stand in the text
    pub collected_absent : (x : Kind) (after : List Kind) → kind_number x ≡ n → a_kind n ≡ true → stands_in t (kind_number x) ≡ false → after ≡ kinds
        → Collected (n + 1) after
    collected_absent x after e a s f = collected_same after (ap₂ (λ b d. b && d) a (ap (stands_in t) (sym e) ∙ s)) f

    -- it is no kind
    pub collected_none_there : (after : List Kind) → a_kind n ≡ false → after ≡ kinds → Collected (n + 1) after
    collected_none_there after a f = collected_same after (ap (λ b. b && stands_in t n) a) f

  pub collected_none : (kinds : List Kind) → kinds ≡ [] → Collected 0 kinds
  unfolding up_to
  collected_none kinds e = record { few = omega (arith, ap length e); is = ap (each kind_number) e }

  pub collected_all : (n : ℕ) (kinds : List Kind) → Collected n kinds → n ≡ 512 → each kind_number kinds ≡ kinds_in t
  unfolding kinds_in
  collected_all n kinds c e = c.is ∙ ap (λ m. those wanted (up_to m)) e
