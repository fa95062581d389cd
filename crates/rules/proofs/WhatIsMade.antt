-- Laws of what is made: the tests on it are equations, and parts one after the other make their bytes one after the other.
use Rattle.std.proofs.Common.{◌≡◌, ℕ, true, List, [], ◌∷◌, ◌++◌, sym, refl, ap, ◌∙◌, append_assoc, append-nil, arith}
use Rattle.rules.specs.Rules.{Rule, Made, nothing, made, with_made, makes, part_of, is_made, same_made}
use Rattle.rules.proofs.Tests.{same_eq, same_itself}

pub is_made_eq : (m : Made) (w : List ℕ) → is_made m w ≡ true → m ≡ made w
unfolding is_made
is_made_eq nothing w h = grind arith
is_made_eq (made t) w h = ap (λ x. made x) (same_eq t w h)

pub is_made_itself : (w : List ℕ) → is_made (made w) w ≡ true
unfolding is_made
is_made_itself w = same_itself w

pub same_made_eq : (m n : Made) → same_made m n ≡ true → m ≡ n
unfolding same_made
same_made_eq nothing nothing h = refl
same_made_eq nothing (made b) h = grind arith
same_made_eq (made a) nothing h = grind arith
same_made_eq (made a) (made b) h = ap (λ x. made x) (same_eq a b h)

pub with_made_assoc : (l m n : Made) → with_made (with_made l m) n ≡ with_made l (with_made m n)
unfolding with_made
with_made_assoc nothing m n = refl
with_made_assoc (made a) nothing n = refl
with_made_assoc (made a) (made b) nothing = refl
with_made_assoc (made a) (made b) (made c) = ap (λ x. made x) (append_assoc a b c)

pub with_made_left : (m : Made) → with_made (made []) m ≡ m
unfolding with_made
with_made_left nothing = refl
with_made_left (made b) = refl

pub with_made_right : (m : Made) → with_made m (made []) ≡ m
unfolding with_made
with_made_right nothing = refl
with_made_right (made b) = ap (λ x. made x) (append-nil b)

pub makes_append : (p q : Rule) (t : List ℕ) → makes (p ++ q) t ≡ with_made (makes p t) (makes q t)
unfolding makes
makes_append [] q t = sym (with_made_left (makes q t))
makes_append (x ∷ xs) q t = ap (λ m. with_made (part_of t x) m) (makes_append xs q t) ∙ sym (with_made_assoc (part_of t x) (makes xs t) (makes q t))

-- what two make one after the other has two pieces
pub with_made_pieces :
    (m n : Made) (w : List ℕ) → with_made m n ≡ made w → (a : List ℕ) × (b : List ℕ) × (m ≡ made a) × (n ≡ made b) × (w ≡ a ++ b)
unfolding with_made
with_made_pieces nothing n w e = absurd (grind arith)
with_made_pieces (made a) nothing w e = absurd (grind arith)
with_made_pieces (made a) (made b) w e = (a, b, refl, refl, cc)
