-- Whether a part goes on, and how far, by the bytes of a literal and by where the places of a cut lie.
use Rattle.std.proofs.Common.{◌≡◌, ℕ, ◌-◌, ◌≤◌, Bool, true, false, ◌&&◌, leb, List, [], ◌∷◌, length, take, drop, sym, refl, ◌∙◌, subst, ap₂, arith, length-drop}
use Rattle.std.proofs.lemmas.List.{length-take-le}
use Rattle.std.proofs.lemmas.Bool.{and_parts, leb-true, leb-false}
use Rattle.rules.specs.Lists.{pick, every, same}
use Rattle.rules.specs.Places.{Place, spot}
use Rattle.rules.specs.Rules.{bytes, cut, nothing, made, from_to, part_of, is_made}
use Rattle.rules.specs.Promises.{made_length}
use Rattle.rules.specs.Examples.{Example}
use Rattle.rules.proofs.PlacesWithin.{places_within}
use Rattle.rules.proofs.Tests.{pick_both}
use Rattle.candidates.specs.Moves.{goes_on}

pub goes_on_bytes : (e : Example) (b : List ℕ) (j : ℕ) → goes_on e (bytes b) j ≡ same b (take (length b) (drop j e.wanted))
unfolding part_of made_length is_made
goes_on_bytes e b j = refl

pub bytes_length : (t b : List ℕ) → made_length (part_of t (bytes b)) ≡ length b
unfolding part_of made_length
bytes_length t b = refl

-- a place that lies somewhere lies within the text
pub lies_within : (t : List ℕ) (p : Place) (a : ℕ) → spot t p ≡ a ∷ [] → a ≤ length t
lies_within t p a h =
    let w = subst (λ ps. every (λ k. leb k (length t)) ps ≡ true) h (places_within t p) in
    leb-true a (length t) (and_parts (leb a (length t)) true w).0

-- the bytes between two positions
pub between_length : (t : List ℕ) (a b : ℕ) → a ≤ b → b ≤ length t → length (take (b - a) (drop a t)) ≡ b - a
between_length t a b h k = let d = length-drop a t in length-take-le (b - a) (drop a t) (omega arith)

-- what a cut makes, by where its places lie
pub cut_makes : (t : List ℕ) (p q : Place) (a b : ℕ) → spot t p ≡ a ∷ [] → spot t q ≡ b ∷ [] → part_of t (cut p q) ≡ pick (leb a b) (made (take (b - a) (drop a t))) nothing
unfolding part_of
cut_makes t p q a b h k = ap₂ (λ x y. from_to t x y) h k

-- a cut that makes nothing moves by 0, which is b - a too
pub cut_length : (t : List ℕ) (p q : Place) (a b : ℕ) → spot t p ≡ a ∷ [] → spot t q ≡ b ∷ [] → made_length (part_of t (cut p q)) ≡ b - a
unfolding made_length
cut_length t p q a b h k =
    let w = lies_within t q b k in
    subst (λ m. made_length m ≡ b - a) (sym (cut_makes t p q a b h k))
    (pick_both (leb a b) (made (take (b - a) (drop a t))) nothing (λ m. made_length m ≡ b - a)
    (λ u. between_length t a b (leb-true a b u) w) (λ u. let v = leb-false a b u in omega arith))

pub goes_on_cut :
    (e : Example) (p q : Place) (j a b : ℕ) → spot e.given p ≡ a ∷ [] → spot e.given q ≡ b ∷ [] →
    goes_on e (cut p q) j ≡ (leb a b && same (take (b - a) (drop a e.given)) (take (b - a) (drop j e.wanted)))
unfolding is_made
goes_on_cut e p q j a b h k =
    ap₂ (λ m n. is_made m (take n (drop j e.wanted))) (cut_makes e.given p q a b h k) (cut_length e.given p q a b h k)
    ∙ go (leb a b)
  where
    go : (u : Bool) → is_made (pick u (made (take (b - a) (drop a e.given))) nothing) (take (b - a) (drop j e.wanted)) ≡ (u && same (take (b - a) (drop a e.given)) (take (b - a) (drop j e.wanted)))
    go true = refl
    go false = refl
