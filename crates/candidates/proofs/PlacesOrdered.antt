-- The places in a text stand in the order of their spelling, and each is one of those there are.
use Rattle.std.proofs.Common.{◌≡◌, ℕ, ◌+◌, ◌/◌, ◌%◌, ◌<◌, ◌≤◌, Bool, true, false, ◌&&◌, eqb, ltb, leb, ◌⊎◌, List, [], ◌∷◌, ◌++◌, length, sym, refl, ap, ◌∙◌, subst, subst₂, inl, inr, arith}
use mathlib.Core.List.Memᴰ.{append_cases as in_parts}
use mathlib.Core.List.Memᴰ.{cases_cons as in_cases}
use mathlib.Core.List.Memᴰ.{eq_of_singleton as only}
use mathlib.Core.List.{Memᴰ as In}
use Rattle.std.proofs.lemmas.Bool.{ltb-true, le-leb, and_parts, and_from}
use Rattle.std.proofs.lemmas.Bool.Decides.{nat_tests}
use Rattle.rules.specs.Lists.{every, each, those, flat, up_to, earlier}
use Rattle.rules.specs.Places.{Place, from_first, from_last, nth_of, all_of}
use Rattle.rules.specs.Rules.{a_kind, a_place}
use Rattle.rules.specs.Order.{place_spelled}
use Rattle.rules.proofs.Tests.{pick_both}
use Rattle.candidates.specs.Weights.{smaller}
use Rattle.candidates.specs.Places.{stands_in, kinds_in, both_ways, places_between, places_behind, places_in}
use Rattle.candidates.proofs.ListMembers.{every_in, every_from, those_pass, in_each_from, in_flat_from}
use Rattle.candidates.proofs.OrderedLists.{ordered, ordered_both, ordered_those, ordered_up_to, up_to_below, ordered_each, ordered_flat}

-- p is spelled earlier than q
abbrev pub before : Place → Place → Bool
before p q = earlier (place_spelled p) (place_spelled q)

-- TWO SPELLINGS
-- the smaller first number decides, and the same one does not
smaller_first : (a b : ℕ) (xs ys : List ℕ) → a < b → earlier (a ∷ xs) (b ∷ ys) ≡ true
unfolding earlier
smaller_first a b xs ys h = grind (arith, nat_tests)

same_first : (a : ℕ) (xs ys : List ℕ) → earlier xs ys ≡ true → earlier (a ∷ xs) (a ∷ ys) ≡ true
unfolding earlier
same_first a xs ys h = grind (arith, nat_tests)

-- of two numbers in two bytes the smaller is earlier
smaller_two : (k l : ℕ) (xs ys : List ℕ) → k < l → earlier ((k / 256) ∷ (k % 256) ∷ xs) ((l / 256) ∷ (l % 256) ∷ ys) ≡ true
unfolding earlier
smaller_two k l xs ys h = grind (arith, nat_tests)

same_two : (k : ℕ) (xs ys : List ℕ) → earlier xs ys ≡ true → earlier ((k / 256) ∷ (k % 256) ∷ xs) ((k / 256) ∷ (k % 256) ∷ ys) ≡ true
same_two k xs ys h = same_first (k / 256) _ _ (same_first (k % 256) xs ys h)

by_left : (l k r s n m : ℕ) (b c : Bool) → l < k → before (nth_of l r n b) (nth_of k s m c) ≡ true
unfolding place_spelled
by_left l k r s n m b c h = same_first 2 _ _ (smaller_two l k _ _ h)

by_right : (l r s n m : ℕ) (b c : Bool) → r < s → before (nth_of l r n b) (nth_of l s m c) ≡ true
unfolding place_spelled
by_right l r s n m b c h = same_first 2 _ _ (same_two l _ _ (smaller_two r s _ _ h))

by_count : (l r n m : ℕ) (b c : Bool) → n < m → before (nth_of l r n b) (nth_of l r m c) ≡ true
unfolding place_spelled
by_count l r n m b c h = same_first 2 _ _ (same_two l _ _ (same_two r _ _ (smaller_first n m _ _ h)))

by_way : (l r n : ℕ) → before (nth_of l r n false) (nth_of l r n true) ≡ true
unfolding place_spelled
by_way l r n = same_first 2 _ _ (same_two l _ _ (same_two r _ _ (same_first n _ _ (smaller_first 0 1 [] [] (omega arith)))))

first_last : (n m : ℕ) → before (from_first n) (from_last m) ≡ true
unfolding place_spelled
first_last n m = smaller_first 0 1 _ _ (omega arith)

first_nth : (n l r m : ℕ) (b : Bool) → before (from_first n) (nth_of l r m b) ≡ true
unfolding place_spelled
first_nth n l r m b = smaller_first 0 2 _ _ (omega arith)

last_nth : (n l r m : ℕ) (b : Bool) → before (from_last n) (nth_of l r m b) ≡ true
unfolding place_spelled
last_nth n l r m b = smaller_first 1 2 _ _ (omega arith)

firsts : (n m : ℕ) → ltb n m ≡ true → before (from_first n) (from_first m) ≡ true
unfolding place_spelled
firsts n m h = same_first 0 _ _ (smaller_first n m [] [] (ltb-true n m h))

lasts : (n m : ℕ) → ltb n m ≡ true → before (from_last n) (from_last m) ≡ true
unfolding place_spelled
lasts n m h = same_first 1 _ _ (smaller_first n m [] [] (ltb-true n m h))

-- WHAT THE LISTS HAVE
below_smaller : (n a b : ℕ) → ltb n (smaller a b) ≡ true → n < b
below_smaller n a b h = grind (arith, nat_tests)

pub in_both_ways : (l r n : ℕ) (p : Place) → In p (both_ways l r n) → (b : Bool) × (p ≡ nth_of l r (n + 1) b)
in_both_ways l r n p i = go (in_cases i)
  where
    go : (p ≡ nth_of l r (n + 1) false) ⊎ In p (nth_of l r (n + 1) true ∷ []) → (b : Bool) × (p ≡ nth_of l r (n + 1) b)
    go (inl e) = (false, e)
    go (inr j) = (true, only j)

-- a place between two kinds: its number is up to 64, and not both kinds are anything
pub in_between : (t : List ℕ) (l r : ℕ) (p : Place) → In p (places_between t l r) → (n : ℕ) × (b : Bool) × (n < 64) × (1 ≤ l + r) × (p ≡ nth_of l r (n + 1) b)
unfolding places_between
in_between t l r p i =
    pick_both (eqb (l + r) 0) [] (flat (both_ways l r) (up_to few)) (λ ps. In p ps → (n : ℕ) × (b : Bool) × (n < 64) × (1 ≤ l + r) × (p ≡ nth_of l r (n + 1) b))
    (λ _ j. elim j [ ])
    (λ e j. let x = in_flat_from (both_ways l r) (up_to few) p j in
    let y = in_both_ways l r x.0 p x.2 in
    let h : ltb x.0 few ≡ true = every_in (λ k. ltb k few) (up_to few) x.0 (up_to_below few few (omega arith)) x.1 in
    (x.0, y.0, small x.0 h, some e, y.1)) i
  where
    few : ℕ
    few = smaller (length (all_of t l r)) 64

    small : (n : ℕ) → ltb n few ≡ true → n < 64
    small n h = below_smaller n (length (all_of t l r)) 64 h

    some : eqb (l + r) 0 ≡ false → 1 ≤ l + r
    some e = grind (arith, nat_tests)

pub in_behind : (t rs : List ℕ) (l : ℕ) (p : Place) → In p (places_behind t rs l) → (r : ℕ) × (n : ℕ) × (b : Bool) × In r rs × (n < 64) × (1 ≤ l + r) × (p ≡ nth_of l r (n + 1) b)
unfolding places_behind
in_behind t rs l p i =
    let x = in_flat_from (λ r. places_between t l r) rs p i in
    let y = in_between t l x.0 p x.2 in
    (x.0, y.0, y.1, x.1, y.2, y.3, y.4)

-- THE ORDER
between_ordered : (t : List ℕ) (l r : ℕ) → ordered before (places_between t l r) ≡ true
unfolding places_between
between_ordered t l r =
    pick_both (eqb (l + r) 0) [] (flat (both_ways l r) (up_to few)) (λ ps. ordered before ps ≡ true) (λ _. refl)
    (λ _. ordered_flat ltb before (both_ways l r) inside across (up_to few) (ordered_up_to few))
  where
    few : ℕ
    few = smaller (length (all_of t l r)) 64

    inside : (n : ℕ) → ordered before (both_ways l r n) ≡ true
    inside n = let h = by_way l r (n + 1) in grind arith

    across : (n m : ℕ) (p q : Place) → ltb n m ≡ true → In p (both_ways l r n) → In q (both_ways l r m) → before p q ≡ true
    across n m p q h i j =
        let x = in_both_ways l r n p i in
        let y = in_both_ways l r m q j in
        subst₂ (λ a b. before a b ≡ true) (sym x.1) (sym y.1) (by_count l r (n + 1) (m + 1) x.0 y.0 (let k = ltb-true n m h in omega arith))

behind_ordered : (t rs : List ℕ) (l : ℕ) → ordered ltb rs ≡ true → ordered before (places_behind t rs l) ≡ true
unfolding places_behind
behind_ordered t rs l h = ordered_flat ltb before (λ r. places_between t l r) (λ r. between_ordered t l r) across rs h
  where
    across : (r s : ℕ) (p q : Place) → ltb r s ≡ true → In p (places_between t l r) → In q (places_between t l s) → before p q ≡ true
    across r s p q h i j =
        let x = in_between t l r p i in
        let y = in_between t l s q j in
        subst₂ (λ a b. before a b ≡ true) (sym x.4) (sym y.4) (by_right l r s (x.0 + 1) (y.0 + 1) x.1 y.1 (ltb-true r s h))

nths_ordered : (t ls rs : List ℕ) → ordered ltb ls ≡ true → ordered ltb rs ≡ true → ordered before (flat (λ l. places_behind t rs l) ls) ≡ true
nths_ordered t ls rs h k = ordered_flat ltb before (λ l. places_behind t rs l) (λ l. behind_ordered t rs l k) across ls h
  where
    across : (l m : ℕ) (p q : Place) → ltb l m ≡ true → In p (places_behind t rs l) → In q (places_behind t rs m) → before p q ≡ true
    across l m p q h i j =
        let x = in_behind t rs l p i in
        let y = in_behind t rs m q j in
        subst₂ (λ a b. before a b ≡ true) (sym x.6) (sym y.6) (by_left l m x.0 y.0 (x.1 + 1) (y.1 + 1) x.2 y.2 (ltb-true l m h))

-- the numbers of the kinds stand in order
kinds_ordered : (t : List ℕ) → ordered ltb (kinds_in t) ≡ true
unfolding kinds_in
kinds_ordered t = ordered_those ltb (λ k. a_kind k && stands_in t k) (up_to 512) (ordered_up_to 512)

-- three lists one after the other
module _ (ls : List ℕ) (t rs : List ℕ) where
  abbrev nths : List Place
  nths = flat (λ l. places_behind t rs l) ls

  in_nths : (p : Place) → In p nths → (l : ℕ) × (r : ℕ) × (n : ℕ) × (b : Bool) × In l ls × In r rs × (n < 64) × (1 ≤ l + r) × (p ≡ nth_of l r (n + 1) b)
  in_nths p i =
      let x = in_flat_from (λ l. places_behind t rs l) ls p i in
      let y = in_behind t rs x.0 p x.2 in
      (x.0, y.0, y.1, y.2, x.1, y.3, y.4, y.5, y.6)

  joined_ordered : (ns ms : List ℕ) → ordered ltb ns ≡ true → ordered ltb ms ≡ true → ordered before nths ≡ true
      → ordered before (each (λ n. from_first n) ns ++ (each (λ n. from_last n) ms ++ nths)) ≡ true
  joined_ordered ns ms h k g =
      ordered_both before (each (λ n. from_first n) ns) (each (λ n. from_last n) ms ++ nths)
      (ordered_each ltb before (λ n. from_first n) firsts ns h)
      (ordered_both before (each (λ n. from_last n) ms) nths (ordered_each ltb before (λ n. from_last n) lasts ms k) g
      (λ p q i j. let x = in_each_from (λ n. from_last n) ms p i in let y = in_nths q j in
      subst₂ (λ a b. before a b ≡ true) (sym x.2) (sym y.8) (last_nth x.0 y.0 y.1 (y.2 + 1) y.3)))
      (λ p q i j. let x = in_each_from (λ n. from_first n) ns p i in subst (λ a. before a q ≡ true) (sym x.2) (first_other x.0 q (in_parts (each (λ n. from_last n) ms) j)))
    where
      first_other : (n : ℕ) (q : Place) → In q (each (λ n. from_last n) ms) ⊎ In q nths → before (from_first n) q ≡ true
      first_other n q (inl j) = let y = in_each_from (λ n. from_last n) ms q j in subst (λ b. before (from_first n) b ≡ true) (sym y.2) (first_last n y.0)
      first_other n q (inr j) = let y = in_nths q j in subst (λ b. before (from_first n) b ≡ true) (sym y.8) (first_nth n y.0 y.1 (y.2 + 1) y.3)

pub places_ordered : (t : List ℕ) → ordered before (places_in t) ≡ true
unfolding places_in
places_ordered t =
    joined_ordered (kinds_in t) t (kinds_in t) (up_to 65) (up_to 65) (ordered_up_to 65) (ordered_up_to 65) (nths_ordered t (kinds_in t) (kinds_in t) (kinds_ordered t) (kinds_ordered t))

-- WHICH THEY ARE
kinds_are : (t : List ℕ) (k : ℕ) → In k (kinds_in t) → a_kind k ≡ true
unfolding kinds_in
kinds_are t k i = (and_parts (a_kind k) (stands_in t k) (every_in (λ k. a_kind k && stands_in t k) (those (λ k. a_kind k && stands_in t k) (up_to 512)) k (those_pass (λ k. a_kind k && stands_in t k) (up_to 512)) i)).0

first_valid : (n : ℕ) → ltb n 65 ≡ true → a_place (from_first n) ≡ true
unfolding a_place
first_valid n h = grind (arith, nat_tests)

last_valid : (n : ℕ) → ltb n 65 ≡ true → a_place (from_last n) ≡ true
unfolding a_place
last_valid n h = grind (arith, nat_tests)

nth_valid : (l r n : ℕ) (b : Bool) → a_kind l ≡ true → a_kind r ≡ true → n < 64 → 1 ≤ l + r → a_place (nth_of l r (n + 1) b) ≡ true
unfolding a_place
nth_valid l r n b h k s o =
    and_from (a_kind l && a_kind r) (leb 1 (n + 1) && (leb (n + 1) 64 && leb 1 (l + r))) (and_from (a_kind l) (a_kind r) h k)
    (and_from (leb 1 (n + 1)) (leb (n + 1) 64 && leb 1 (l + r)) (le-leb 1 (n + 1) (omega arith)) (and_from (leb (n + 1) 64) (leb 1 (l + r)) (le-leb (n + 1) 64 (omega arith)) (le-leb 1 (l + r) o)))

pub places_valid : (t : List ℕ) → every a_place (places_in t) ≡ true
unfolding places_in
places_valid t = every_from a_place (places_in t) (λ p i. go p (in_parts (each (λ n. from_first n) (up_to 65)) i))
  where
    below : (n : ℕ) → In n (up_to 65) → ltb n 65 ≡ true
    below n i = every_in (λ k. ltb k 65) (up_to 65) n (up_to_below 65 65 (omega arith)) i

    other : (p : Place) → In p (each (λ n. from_last n) (up_to 65)) ⊎ In p (nths (kinds_in t) t (kinds_in t)) → a_place p ≡ true
    other p (inl i) = let x = in_each_from (λ n. from_last n) (up_to 65) p i in ap a_place x.2 ∙ last_valid x.0 (below x.0 x.1)
    other p (inr i) =
        let x = in_nths (kinds_in t) t (kinds_in t) p i in
        ap a_place x.8 ∙ nth_valid x.0 x.1 x.2 x.3 (kinds_are t x.0 x.4) (kinds_are t x.1 x.5) x.6 x.7

    go : (p : Place) → In p (each (λ n. from_first n) (up_to 65)) ⊎ In p (each (λ n. from_last n) (up_to 65) ++ nths (kinds_in t) t (kinds_in t)) → a_place p ≡ true
    go p (inl i) = let x = in_each_from (λ n. from_first n) (up_to 65) p i in ap a_place x.2 ∙ first_valid x.0 (below x.0 x.1)
    go p (inr i) = other p (in_parts (each (λ n. from_last n) (up_to 65)) i)
