-- Each place there is that lies in a text is one of the places in it.
use Rattle.std.proofs.Common.{◌≡◌, ℕ, zero, suc, ◌+◌, ◌-◌, ◌<◌, ◌≤◌, Bool, true, false, not, ◌&&◌, eqb, ltb, leb, List, [], ◌∷◌, ◌++◌, length, get_or, take, drop, refl, ap, ◌∙◌, arith}
use mathlib.Core.List.Memᴰ.{append_left as in_left}
use mathlib.Core.List.Memᴰ.{append_right as in_right}
use mathlib.Core.List.Memᴰ.{head as here}
use mathlib.Core.List.Memᴰ.{tail as later}
use mathlib.Core.List.{Memᴰ as In}
use Rattle.std.proofs.lemmas.List.{length-reverse}
use Rattle.std.proofs.lemmas.Bool.{and_parts, and_from, ltb-true, leb-true}
use Rattle.std.proofs.lemmas.Bool.Decides.{nat_tests}
use Rattle.rules.specs.Lists.{pick, or, any, each, those, flat, none_of, up_to, backwards}
use Rattle.rules.specs.Places.{Place, from_first, from_last, nth_of, of_kind, there, before_is, behind_is, all_of, nth, spot}
use Rattle.rules.specs.Rules.{a_kind, a_place}
use Rattle.rules.proofs.Tests.{pick_both}
use Rattle.rules.proofs.Listed.{in_each, in_flat}
use Rattle.rules.proofs.NthCounts.{backwards_is}
use Rattle.candidates.specs.Weights.{smaller}
use Rattle.candidates.specs.Places.{stands_in, kinds_in, both_ways, places_between, places_behind, places_in}
use Rattle.candidates.proofs.ListMembers.{in_up_to, in_those}

-- THE NTH OF A LIST
left_over : (xs : List ℕ) (n : ℕ) → none_of (take 1 (drop n xs)) ≡ false → n < length xs
left_over [] zero h = grind arith
left_over [] (suc n) h = grind arith
left_over (x ∷ xs) zero h = omega arith
left_over (x ∷ xs) (suc n) h = let ih = left_over xs n h in omega arith

-- where there is an nth, the list has so many
nth_few : (xs : List ℕ) (n : ℕ) → none_of (nth xs n) ≡ false → n ≤ length xs
nth_few xs n =
    pick_both (eqb n 0) [] (take 1 (drop (n - 1) xs)) (λ l. none_of l ≡ false → n ≤ length xs) (λ e h. grind arith) (λ e h. let k = left_over xs (n - 1) h in omega arith)

backwards_long : (xs : List ℕ) → length (backwards xs) ≡ length xs
backwards_long xs = ap length (backwards_is xs) ∙ length-reverse xs

either_way : (xs : List ℕ) (n : ℕ) (b : Bool) → none_of (nth (pick b (backwards xs) xs) n) ≡ false → n ≤ length xs
either_way xs n true h = let k = nth_few (backwards xs) n h in let e = backwards_long xs in omega arith
either_way xs n false h = nth_few xs n h

some_passes : (f : ℕ → Bool) (xs : List ℕ) → 1 ≤ length (those f xs) → (x : ℕ) × (f x ≡ true)
some_passes f [] h = absurd (omega arith)
some_passes f (x ∷ xs) h =
    pick_both (f x) (x ∷ those f xs) (those f xs) (λ l. 1 ≤ length l → (y : ℕ) × (f y ≡ true)) (λ e _. (x, e)) (λ _ k. some_passes f xs k) h

-- THE KINDS
passes_there : (f : ℕ → Bool) (t : List ℕ) (i : ℕ) → i < length t → f (get_or t i 0) ≡ true → any f t ≡ true
passes_there f [] i h k = absurd (omega arith)
passes_there f (c ∷ t) zero h k = ap (λ x. or x (any f t)) k
passes_there f (c ∷ t) (suc i) h k = let ih = passes_there f t i (omega arith) k in grind arith

there_stands : (f : ℕ → Bool) (t : List ℕ) (i : ℕ) → (ltb i (length t) && f (get_or t i 0)) ≡ true → any f t ≡ true
there_stands f t i h = let p = and_parts (ltb i (length t)) (f (get_or t i 0)) h in passes_there f t i (ltb-true i (length t) p.0) p.1

unless : (z a s : Bool) → pick z true a ≡ true → (a ≡ true → s ≡ true) → or z s ≡ true
unless true a s h k = refl
unless false a s h k = k h

before_stands : (t : List ℕ) (k p : ℕ) → before_is t k p ≡ true → stands_in t k ≡ true
before_stands t k p h =
    unless (eqb k 0) (leb 1 p && (there t k (p - 1) && or (leb 256 k) (not (there t k p)))) (any (λ c. of_kind k c) t) h
    (λ g. there_stands (λ c. of_kind k c) t (p - 1) (and_parts (there t k (p - 1)) (or (leb 256 k) (not (there t k p))) (and_parts (leb 1 p) (there t k (p - 1) && or (leb 256 k) (not (there t k p))) g).1).0)

behind_stands : (t : List ℕ) (k p : ℕ) → behind_is t k p ≡ true → stands_in t k ≡ true
behind_stands t k p h =
    unless (eqb k 0) (there t k p && or (leb 256 k) (or (eqb p 0) (not (there t k (p - 1))))) (any (λ c. of_kind k c) t) h
    (λ g. there_stands (λ c. of_kind k c) t p (and_parts (there t k p) (or (leb 256 k) (or (eqb p 0) (not (there t k (p - 1))))) g).0)

-- where there is a place between two kinds, both stand in the text
both_stand : (t : List ℕ) (l r : ℕ) → 1 ≤ length (all_of t l r) → (stands_in t l ≡ true) × (stands_in t r ≡ true)
both_stand t l r h =
    let x = some_passes (λ p. before_is t l p && behind_is t r p) (up_to (suc (length t))) h in
    let e = and_parts (before_is t l x.0) (behind_is t r x.0) x.1 in
    (before_stands t l x.0 e.0, behind_stands t r x.0 e.1)

kind_below : (k : ℕ) → a_kind k ≡ true → k < 512
kind_below k h = grind (arith, nat_tests)

in_kinds : (t : List ℕ) (k : ℕ) → a_kind k ≡ true → stands_in t k ≡ true → In k (kinds_in t)
unfolding kinds_in
in_kinds t k h s = in_those (λ k. a_kind k && stands_in t k) (up_to 512) k (in_up_to 512 k (kind_below k h)) (and_from (a_kind k) (stands_in t k) h s)

-- THE PLACES
in_ways : (l r n m : ℕ) (b : Bool) → n ≡ m + 1 → In (nth_of l r n b) (both_ways l r m)
in_ways l r n m true e = later (here (ap (λ k. nth_of l r k true) e))
in_ways l r n m false e = here (ap (λ k. nth_of l r k false) e)

below_both : (n a b : ℕ) → n < a → n < b → n < smaller a b
below_both n a b h k = pick_both (ltb a b) a b (λ x. n < x) (λ _. h) (λ _. k)

in_places_between : (t : List ℕ) (l r n : ℕ) (b : Bool) → 1 ≤ l + r → 1 ≤ n → n ≤ 64 → n ≤ length (all_of t l r) → In (nth_of l r n b) (places_between t l r)
unfolding places_between
in_places_between t l r n b h o s few =
    pick_both (eqb (l + r) 0) [] (flat (both_ways l r) (up_to (smaller (length (all_of t l r)) 64))) (λ ps. In (nth_of l r n b) ps)
    (λ e. absurd (grind (arith, nat_tests)))
    (λ _. in_flat (both_ways l r) (up_to (smaller (length (all_of t l r)) 64)) (n - 1) (nth_of l r n b)
    (in_up_to (smaller (length (all_of t l r)) 64) (n - 1) (below_both (n - 1) (length (all_of t l r)) 64 (omega arith) (omega arith)))
    (in_ways l r n (n - 1) b (omega arith)))

in_places_behind : (t rs : List ℕ) (l r : ℕ) (p : Place) → In r rs → In p (places_between t l r) → In p (places_behind t rs l)
unfolding places_behind
in_places_behind t rs l r p i j = in_flat (λ r. places_between t l r) rs r p i j

in_nths : (t ls rs : List ℕ) (l r : ℕ) (p : Place) → In l ls → In r rs → In p (places_between t l r) → In p (flat (λ l. places_behind t rs l) ls)
in_nths t ls rs l r p i j k = in_flat (λ l. places_behind t rs l) ls l p i (in_places_behind t rs l r p j k)

-- what an nth place has to be
nth_parts : (l r n : ℕ) (b : Bool) → a_place (nth_of l r n b) ≡ true → (a_kind l ≡ true) × (a_kind r ≡ true) × (1 ≤ n) × (n ≤ 64) × (1 ≤ l + r)
unfolding a_place
nth_parts l r n b h =
    let p = and_parts (a_kind l && a_kind r) (leb 1 n && (leb n 64 && leb 1 (l + r))) h in
    let k = and_parts (a_kind l) (a_kind r) p.0 in
    let q = and_parts (leb 1 n) (leb n 64 && leb 1 (l + r)) p.1 in
    let s = and_parts (leb n 64) (leb 1 (l + r)) q.1 in
    (k.0, k.1, leb-true 1 n q.0, leb-true n 64 s.0, leb-true 1 (l + r) s.1)

pub places_complete : (t : List ℕ) (p : Place) → a_place p ≡ true → none_of (spot t p) ≡ false → In p (places_in t)
unfolding places_in a_place spot
places_complete t (from_first n) h s =
    in_left (each (λ n. from_last n) (up_to 65) ++ flat (λ l. places_behind t (kinds_in t) l) (kinds_in t)) (in_each (λ n. from_first n) (up_to 65) n (in_up_to 65 n (let k = leb-true n 64 h in omega arith)))
places_complete t (from_last n) h s =
    in_right (each (λ n. from_first n) (up_to 65))
    (in_left (flat (λ l. places_behind t (kinds_in t) l) (kinds_in t)) (in_each (λ n. from_last n) (up_to 65) n (in_up_to 65 n (let k = leb-true n 64 h in omega arith))))
places_complete t (nth_of l r n b) h s =
    let few = either_way (all_of t l r) n b s in
    let v = nth_parts l r n b h in
    let both = both_stand t l r (let k = v.2 in omega arith) in
    in_right (each (λ n. from_first n) (up_to 65))
    (in_right (each (λ n. from_last n) (up_to 65))
    (in_nths t (kinds_in t) (kinds_in t) l r (nth_of l r n b) (in_kinds t l v.0 both.0) (in_kinds t r v.1 both.1) (in_places_between t l r n b v.4 v.2 v.3 few)))
