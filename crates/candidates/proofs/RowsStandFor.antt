-- Of the places that lie alike one stands for all: the cheapest, and of those the earliest. How a list of such places stays right as one more is tried.
use Rattle.std.proofs.Common.{◌≡◌, ℕ, ◌<◌, ◌≤◌, Bool, true, false, not, ◌⊎◌, List, [], ◌∷◌, ◌++◌, drop, sym, refl, ap, ◌∙◌, subst, inl, inr, append_assoc, arith}
use mathlib.Core.List.Memᴰ.{append_cases as in_parts}
use mathlib.Core.List.Memᴰ.{append_left as in_left}
use mathlib.Core.List.Memᴰ.{append_right as in_right}
use mathlib.Core.List.Memᴰ.{cases_cons as in_cases}
use mathlib.Core.List.Memᴰ.{eq_of_singleton as only}
use mathlib.Core.List.Memᴰ.{head as here}
use mathlib.Core.List.{Memᴰ as In}
use Rattle.std.proofs.lemmas.Bool.{and_parts, cases_Bool, cases_eq, both_ways, not_from_false, not-true}
use Rattle.rules.specs.Lists.{every, same}
use Rattle.rules.specs.Places.{Place}
use Rattle.rules.specs.Rules.{place_cost, a_place}
use Rattle.rules.specs.Order.{place_spelled}
use Rattle.rules.proofs.Tests.{same_eq, same_itself}
use Rattle.rules.proofs.EachElement.{every_push}
use Rattle.rules.proofs.DictionaryOrder.{earlier_irrefl, earlier_trans}
use Rattle.candidates.specs.Rows.{NoLater}
use Rattle.candidates.specs.RowTable.{alike}
use Rattle.candidates.proofs.ListMembers.{every_in}
use Rattle.candidates.proofs.OrderedLists.{every_without, ordered, ordered_both, ordered_without, ordered_apart}
use Rattle.candidates.proofs.PlacesOrdered.{before}

-- LISTS OF PLACES
-- of the places in the table and those still to be tried
abbrev pub Fine : List Place → Type 0
Fine ps = (ordered before ps ≡ true) × (every a_place ps ≡ true)

pub fine_without : (xs : List Place) (y : Place) (zs : List Place) → Fine (xs ++ y ∷ zs) → Fine (xs ++ zs)
fine_without xs y zs h = (ordered_without before xs y zs h.0, every_without a_place xs y zs h.1)

-- one taken out of the middle, and another moved to the end of the first
moved_on : {A : Type 0} (cs ds : List A) (p : A) (ps : List A) → cs ++ (ds ++ p ∷ ps) ≡ ((cs ++ ds) ++ p ∷ []) ++ ps
moved_on cs ds p ps = sym (append_assoc (cs ++ ds) (p ∷ []) ps ∙ append_assoc cs ds (p ∷ ps))

pub fine_in_place_of : (cs : List Place) (c : Place) (ds : List Place) (p : Place) (todo : List Place) → Fine ((cs ++ c ∷ ds) ++ p ∷ todo) → Fine (((cs ++ ds) ++ p ∷ []) ++ todo)
fine_in_place_of cs c ds p todo h =
    subst Fine (moved_on cs ds p todo) (fine_without cs c (ds ++ p ∷ todo) (subst Fine (append_assoc cs (c ∷ ds) (p ∷ todo)) h))

-- what stands earlier is not spelled later
not_later : (p q : Place) → before p q ≡ true → before q p ≡ false
not_later p q h = go (cases_Bool (before q p))
  where
    go : (before q p ≡ true) ⊎ (before q p ≡ false) → before q p ≡ false
    go (inl k) = absurd (both_ways (before p p) (earlier_irrefl (place_spelled p)) (earlier_trans (place_spelled p) (place_spelled q) (place_spelled p) h k))
    go (inr k) = k

-- the cheaper can stand for the dearer, and for all that this stood for
no_later_trans : (a b c : Place) → place_cost a < place_cost b → NoLater b c → NoLater a c
no_later_trans a b c h (inl k) = inl (omega arith)
no_later_trans a b c h (inr k) = let e = k.0 in inl (omega arith)

pub no_later_from : (c p : Place) → place_cost c ≤ place_cost p → before c p ≡ true → NoLater c p
no_later_from c p h b = go (cases_eq (place_cost c) (place_cost p))
  where
    go : (place_cost c ≡ place_cost p) ⊎ (place_cost c ≡ place_cost p → ⊥) → NoLater c p
    go (inl e) = inr (e, not_later c p b)
    go (inr n) = inl (omega arith)

module _ (row : Place → List ℕ) where
  -- the two lie in different positions
  abbrev pub unlike : Place → Place → Bool
  unlike p q = not (alike (row p) (row q))

  -- one of the places lies like p, and can stand for it
  abbrev pub Covered : List Place → Place → Type 0
  Covered ps p = (c : Place) × In c ps × (drop 6 (row c) ≡ drop 6 (row p)) × NoLater c p

  pub alike_same : (p q : Place) → alike (row p) (row q) ≡ true → drop 6 (row p) ≡ drop 6 (row q)
  alike_same p q h = same_eq (drop 6 (row p)) (drop 6 (row q)) h

  -- what lies unlike one lies unlike the other that lies like it
  unlike_both : (x c p : Place) → unlike x c ≡ true → drop 6 (row c) ≡ drop 6 (row p) → unlike x p ≡ true
  unlike_both x c p h e = ap not (ap (same (drop 6 (row x))) (sym e)) ∙ h

  unlike_turned : (x c p : Place) → unlike c x ≡ true → drop 6 (row c) ≡ drop 6 (row p) → unlike x p ≡ true
  unlike_turned x c p h e = go (cases_Bool (alike (row x) (row p)))
    where
      go : (alike (row x) (row p) ≡ true) ⊎ (alike (row x) (row p) ≡ false) → unlike x p ≡ true
      go (inl k) =
          let s : drop 6 (row c) ≡ drop 6 (row x) = e ∙ sym (alike_same x p k) in
          absurd (both_ways (alike (row c) (row x)) (not-true (alike (row c) (row x)) h) (ap (λ l. same l (drop 6 (row x))) s ∙ same_itself (drop 6 (row x))))
      go (inr k) = not_from_false (alike (row x) (row p)) k

  unlike_the_others : (cs : List Place) (c : Place) (ds : List Place) (p x : Place) → ordered unlike (cs ++ c ∷ ds) ≡ true → drop 6 (row c) ≡ drop 6 (row p) → In x (cs ++ ds) → unlike x p ≡ true
  unlike_the_others cs c ds p x h e i = go (in_parts cs i)
    where
      tail : every (unlike c) ds ≡ true
      tail = (and_parts (every (unlike c) ds) (ordered unlike ds) (back cs h)).0
        where
          back : (as₁ : List Place) → ordered unlike (as₁ ++ c ∷ ds) ≡ true → ordered unlike (c ∷ ds) ≡ true
          back [] g = g
          back (a ∷ as₁) g = back as₁ (and_parts (every (unlike a) (as₁ ++ c ∷ ds)) (ordered unlike (as₁ ++ c ∷ ds)) g).1

      go : In x cs ⊎ In x ds → unlike x p ≡ true
      go (inl j) = unlike_both x c p (ordered_apart unlike cs (c ∷ ds) x c h j (here refl)) e
      go (inr j) = unlike_turned x c p (every_in (unlike c) ds x tail j) e

  module _ (f : Place → Bool) where
    -- of the places in the table: they pass a test, and no two lie alike
    abbrev pub Own : List Place → Type 0
    Own ps = (every f ps ≡ true) × (ordered unlike ps ≡ true)

    pub own_push : (ps : List Place) (p : Place) → Own ps → f p ≡ true → ((x : Place) → In x ps → unlike x p ≡ true) → Own (ps ++ p ∷ [])
    own_push ps p h k u = (every_push f ps p h.0 k, ordered_both unlike ps (p ∷ []) h.1 refl (λ x y i j. ap (unlike x) (only j) ∙ u x i))

    pub own_in_place_of : (cs : List Place) (c : Place) (ds : List Place) (p : Place) → Own (cs ++ c ∷ ds) → f p ≡ true → drop 6 (row c) ≡ drop 6 (row p) → Own ((cs ++ ds) ++ p ∷ [])
    own_in_place_of cs c ds p h k e = own_push (cs ++ ds) p (every_without f cs c ds h.0, ordered_without unlike cs c ds h.1) k (λ x i. unlike_the_others cs c ds p x h.1 e i)

  -- WHAT IS COVERED
  pub covered_push : (ps : List Place) (p q : Place) → Covered ps q → Covered (ps ++ p ∷ []) q
  covered_push ps p q c = (c.0, in_left (p ∷ []) c.1, c.2, c.3)

  pub covered_last : (ps : List Place) (p : Place) → Covered (ps ++ p ∷ []) p
  covered_last ps p = (p, in_right ps (here refl), refl, inr (refl, earlier_irrefl (place_spelled p)))

  -- p covers what the one it stands for covered
  pub covered_in_place_of : (cs : List Place) (c : Place) (ds : List Place) (p q : Place) → drop 6 (row c) ≡ drop 6 (row p) → place_cost p < place_cost c → Covered (cs ++ c ∷ ds) q → Covered ((cs ++ ds) ++ p ∷ []) q
  covered_in_place_of cs c ds p q e h k = go (in_parts cs k.1)
    where
      tail : (k.0 ≡ c) ⊎ In k.0 ds → Covered ((cs ++ ds) ++ p ∷ []) q
      tail (inl i) = (p, in_right (cs ++ ds) (here refl), sym e ∙ ap (λ x. drop 6 (row x)) (sym i) ∙ k.2, no_later_trans p c q h (subst (λ x. NoLater x q) i k.3))
      tail (inr i) = (k.0, in_left (p ∷ []) (in_right cs i), k.2, k.3)

      go : In k.0 cs ⊎ In k.0 (c ∷ ds) → Covered ((cs ++ ds) ++ p ∷ []) q
      go (inl i) = (k.0, in_left (p ∷ []) (in_left ds i), k.2, k.3)
      go (inr i) = tail (in_cases i)
