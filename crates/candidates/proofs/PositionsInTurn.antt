-- Going through the examples notes where a place lies in each given text, until it is missing in one.
use Rattle.std.proofs.Common.{◌≡◌, ℕ, zero, suc, ◌+◌, ◌<◌, ◌≤◌, not, ◌&&◌, List, [], ◌∷◌, length, get_or, take, drop, set, sym, refl, ap, ◌∙◌, ap₂, arith}
use Rattle.std.proofs.lemmas.List.{at_drop_more}
use Rattle.rules.specs.Lists.{none_of}
use Rattle.rules.specs.Places.{Place, spot}
use Rattle.candidates.specs.declared.example.Example.{Example}
use Rattle.candidates.specs.Positions.{position, positions_in}
use Rattle.candidates.specs.Rows.{lies_in_all}
use Rattle.candidates.specs.Values.{the_examples}

-- one example more is one number more
positions_suc : (p : Place) (es : List Example) (n i : ℕ) (d : Example) → i < length es → i < n
    → set (positions_in (the_examples (take i es)) n p) i (position (get_or es i d).given.now p) ≡ positions_in (the_examples (take (suc i) es)) n p
positions_suc p [] n i d h k = absurd (omega arith)
positions_suc p (e ∷ es) zero i d h k = absurd (omega arith)
positions_suc p (e ∷ es) (suc n) zero d h k = refl
positions_suc p (e ∷ es) (suc n) (suc i) d h k = let ih = positions_suc p es n i d (omega arith) (omega arith) in ap (λ l. position e.given.now p ∷ l) ih

module _ (p : Place) (es : List Example) where
  -- the numbers of the first i examples are noted, and those from number i on decide whether the place is there in all
  pub record Noted (i : ℕ) (at : List ℕ) : Type 0 where
    pub is : at ≡ positions_in (the_examples (take i es)) 8 p
    pub decide : lies_in_all (the_examples es) p ≡ lies_in_all (the_examples (drop i es)) p

  module _ (i : ℕ) (at : List ℕ) (d : Example) (n : Noted i at) (h : i < length es) where
    next : lies_in_all (the_examples es) p ≡ (not (none_of (spot (get_or es i d).given.now p)) && lies_in_all (the_examples (drop (i + 1) es)) p)
    next = n.decide ∙ at_drop_more (λ l. lies_in_all (the_examples l) p) es i d h

    -- the place is there in this text
    pub noted_more : (x : ℕ) → length es ≤ 8 → x ∷ [] ≡ spot (get_or es i d).given.now p → Noted (i + 1) (set at i x)
    noted_more x few e = record {
      is = ap₂ (λ l y. set l i y) n.is (ap (λ l. get_or l 0 255) e) ∙ positions_suc p es 8 i d h (omega arith)
          ∙ ap (λ k. positions_in (the_examples (take k es)) 8 p) (let k : suc i ≡ i + 1 = omega arith in k);
      decide = next ∙ ap (λ l. not (none_of l) && lies_in_all (the_examples (drop (i + 1) es)) p) (sym e);
    }
