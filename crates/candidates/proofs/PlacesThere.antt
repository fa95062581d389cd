-- The places of a cut that goes on are there in every given text, so a rule that leads to the end uses only valid places that are.
use Rattle.std.proofs.Common.{◌≡◌, ℕ, Bool, true, not, ◌&&◌, List, [], ◌∷◌, refl, arith}
use Rattle.std.proofs.lemmas.Bool.{and_parts, and_from}
use Rattle.rules.specs.Lists.{every, none_of}
use Rattle.rules.specs.Places.{Place, spot}
use Rattle.rules.specs.Rules.{bytes, cut, Rule, made, from_to, part_of, a_place, a_part}
use Rattle.rules.specs.Examples.{Example}
use Rattle.candidates.specs.Moves.{goes_on, goes, moved, leads, uses}
use Rattle.candidates.specs.Rows.{lies_in_all}
use Rattle.candidates.proofs.GoesOn.{goes_on_made}

from_to_there : (t ps qs w : List ℕ) → from_to t ps qs ≡ made w → (not (none_of ps) && not (none_of qs)) ≡ true
from_to_there t [] qs w h = grind arith
from_to_there t (p ∷ ps) [] w h = grind arith
from_to_there t (p ∷ ps) (q ∷ qs) w h = refl

cut_on_there : (e : Example) (p q : Place) (j : ℕ) → goes_on e (cut p q) j ≡ true → (not (none_of (spot e.given p)) && not (none_of (spot e.given q))) ≡ true
unfolding part_of
cut_on_there e p q j h = from_to_there e.given (spot e.given p) (spot e.given q) _ (goes_on_made e (cut p q) j h)

pub cut_there : (es : List Example) (p q : Place) (s : List ℕ) → goes es (cut p q) s ≡ true → (lies_in_all es p ≡ true) × (lies_in_all es q ≡ true)
unfolding goes
cut_there [] p q s h = (refl, refl)
cut_there (e ∷ es) p q [] h = absurd (grind arith)
cut_there (e ∷ es) p q (j ∷ js) h =
    let a = and_parts (goes_on e (cut p q) j) (goes es (cut p q) js) h in
    let b = and_parts (not (none_of (spot e.given p))) (not (none_of (spot e.given q))) (cut_on_there e p q j a.0) in
    let ih = cut_there es p q js a.1 in
    (and_from _ _ b.0 ih.0, and_from _ _ b.1 ih.1)

-- valid, and there in every given text
abbrev pub usable : List Example → Place → Bool
usable es p = a_place p && lies_in_all es p

pub leads_uses : (es : List Example) (s : List ℕ) (q : Rule) → leads es s q ≡ true → every a_part q ≡ true → uses (usable es) q ≡ true
unfolding leads uses a_part
leads_uses es s [] h v = refl
leads_uses es s (bytes b ∷ q) h v =
    leads_uses es (moved es (bytes b) s) q (and_parts (goes es (bytes b) s) (leads es (moved es (bytes b) s) q) h).1 (and_parts (a_part (bytes b)) (every a_part q) v).1
leads_uses es s (cut x y ∷ q) h v =
    let a = and_parts (goes es (cut x y) s) (leads es (moved es (cut x y) s) q) h in
    let b = and_parts (a_part (cut x y)) (every a_part q) v in
    let c = and_parts (a_place x) (a_place y) b.0 in
    let d = cut_there es x y s a.0 in
    and_from _ _ (and_from _ _ (and_from _ _ c.0 d.0) (and_from _ _ c.1 d.1)) (leads_uses es (moved es (cut x y) s) q a.1 b.1)
