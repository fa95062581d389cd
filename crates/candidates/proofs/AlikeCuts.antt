-- Cuts between places that lie alike in every given text make the same moves.
use Rattle.std.proofs.Common.{◌≡◌, ℕ, suc, ◌+◌, ◌<◌, ◌&&◌, List, [], ◌∷◌, length, take, drop, refl, ap, ap₂, arith}
use Rattle.rules.specs.Places.{Place, spot}
use Rattle.rules.specs.Rules.{Part, cut, from_to, part_of, is_made}
use Rattle.rules.specs.Promises.{made_length}
use Rattle.rules.specs.Examples.{Example}
use Rattle.candidates.specs.Moves.{goes, moved}
use Rattle.candidates.specs.Rows.{given_of}

-- the places lie alike in every given text
abbrev pub LieAlike : List Example → Place → Place → Type 0
LieAlike es p q = (e : ℕ) → e < length es → spot (given_of es e) p ≡ spot (given_of es e) q

-- the parts make the same of every given text
abbrev pub MakeAlike : List Example → Part → Part → Type 0
MakeAlike es p q = (e : ℕ) → e < length es → part_of (given_of es e) p ≡ part_of (given_of es e) q

pub alike_goes : (es : List Example) (p q : Part) (s : List ℕ) → MakeAlike es p q → goes es p s ≡ goes es q s
unfolding goes
alike_goes [] p q s h = refl
alike_goes (x ∷ es) p q [] h = refl
alike_goes (x ∷ es) p q (j ∷ js) h =
    ap₂ ◌&&◌ (ap (λ m. is_made m (take (made_length m) (drop j x.wanted))) (h 0 (omega arith))) (alike_goes es p q js (λ e k. h (suc e) (omega arith)))

pub alike_moved : (es : List Example) (p q : Part) (s : List ℕ) → MakeAlike es p q → moved es p s ≡ moved es q s
unfolding moved
alike_moved [] p q s h = refl
alike_moved (x ∷ es) p q [] h = refl
alike_moved (x ∷ es) p q (j ∷ js) h =
    ap₂ (λ a b. a ∷ b) (ap (λ m. j + made_length m) (h 0 (omega arith))) (alike_moved es p q js (λ e k. h (suc e) (omega arith)))

pub alike_cuts : (es : List Example) (a b c d : Place) → LieAlike es a c → LieAlike es b d → MakeAlike es (cut a b) (cut c d)
unfolding part_of
alike_cuts es a b c d h k e l = ap₂ (λ x y. from_to (given_of es e) x y) (h e l) (k e l)
