-- A state that is fit stays so under every part that goes on, and the start is fit.
use Rattle.std.proofs.Common.{◌≡◌, ℕ, zero, suc, ◌+◌, ◌<◌, ◌≤◌, true, eqb, leb, List, [], ◌∷◌, length, get_or, replicate, refl, ap, ◌∙◌, arith}
use Rattle.std.proofs.lemmas.Bool.{and_parts, and_from, leb-true, le-leb, eqb-true, eq-eqb}
use Rattle.rules.specs.Rules.{Part, part_of}
use Rattle.rules.specs.Promises.{made_length}
use Rattle.rules.specs.Examples.{Example}
use Rattle.candidates.specs.Moves.{goes_on, goes, moved, within, fit, start}
use Rattle.candidates.specs.Rows.{given_of, wanted_of}
use Rattle.candidates.proofs.GoesOn.{goes_on_within}

pub moved_length : (es : List Example) (p : Part) (s : List ℕ) → length (moved es p s) ≡ length s
unfolding moved
moved_length [] p s = refl
moved_length (e ∷ es) p [] = refl
moved_length (e ∷ es) p (j ∷ js) = ap suc (moved_length es p js)

-- each position is moved on by what the part makes of its given text
pub moved_at : (es : List Example) (p : Part) (s : List ℕ) (e : ℕ) → e < length es → e < length s → get_or (moved es p s) e 0 ≡ get_or s e 0 + made_length (part_of (given_of es e) p)
unfolding moved
moved_at [] p s e h k = absurd (omega arith)
moved_at (x ∷ es) p [] e h k = absurd (omega arith)
moved_at (x ∷ es) p (j ∷ js) zero h k = refl
moved_at (x ∷ es) p (j ∷ js) (suc e) h k = moved_at es p js e (omega arith) (omega arith)

-- and the numbers past the last example stay as they are
pub moved_past : (es : List Example) (p : Part) (s : List ℕ) (e : ℕ) → length es ≤ e → get_or (moved es p s) e 0 ≡ get_or s e 0
unfolding moved
moved_past [] p s e h = refl
moved_past (x ∷ es) p [] e h = refl
moved_past (x ∷ es) p (j ∷ js) zero h = absurd (omega arith)
moved_past (x ∷ es) p (j ∷ js) (suc e) h = moved_past es p js e (omega arith)

pub moved_within : (es : List Example) (p : Part) (s : List ℕ) → within es s ≡ true → goes es p s ≡ true → within es (moved es p s) ≡ true
unfolding moved within goes
moved_within [] p s w g = refl
moved_within (e ∷ es) p [] w g = w
moved_within (e ∷ es) p (j ∷ js) w g =
    let a = and_parts (leb j (length e.wanted)) (within es js) w in
    let b = and_parts (goes_on e p j) (goes es p js) g in
    let k = goes_on_within e p j b.0 (leb-true j (length e.wanted) a.0) in
    and_from _ _ (le-leb (j + made_length (part_of e.given p)) (length e.wanted) k) (moved_within es p js a.1 b.1)

pub fit_length : (es : List Example) (s : List ℕ) → fit es s ≡ true → length s ≡ 9
fit_length es s h = eqb-true (length s) 9 (and_parts (eqb (length s) 9) (within es s) h).0

pub fit_within : (es : List Example) (s : List ℕ) → fit es s ≡ true → within es s ≡ true
fit_within es s h = (and_parts (eqb (length s) 9) (within es s) h).1

-- no position of a fit state is past the end
pub within_at : (es : List Example) (s : List ℕ) (e : ℕ) → within es s ≡ true → e < length es → get_or s e 0 ≤ length (wanted_of es e)
unfolding within
within_at [] s e w h = absurd (omega arith)
within_at (x ∷ es) [] e w h = absurd (grind arith)
within_at (x ∷ es) (j ∷ js) zero w h = leb-true j (length x.wanted) (and_parts (leb j (length x.wanted)) (within es js) w).0
within_at (x ∷ es) (j ∷ js) (suc e) w h = within_at es js e (and_parts (leb j (length x.wanted)) (within es js) w).1 (omega arith)

pub stays_fit : (es : List Example) (p : Part) (s : List ℕ) → fit es s ≡ true → goes es p s ≡ true → fit es (moved es p s) ≡ true
stays_fit es p s h g =
    and_from _ _ (eq-eqb (length (moved es p s)) 9 (moved_length es p s ∙ fit_length es s h)) (moved_within es p s (fit_within es s h) g)

start_within : (es : List Example) (n : ℕ) → length es ≤ n → within es (replicate n 0) ≡ true
unfolding within
start_within [] n h = refl
start_within (e ∷ es) zero h = absurd (omega arith)
start_within (e ∷ es) (suc n) h = and_from _ _ (le-leb 0 (length e.wanted) (omega arith)) (start_within es n (omega arith))

pub start_fit : (es : List Example) → length es ≤ 8 → fit es start ≡ true
start_fit es h = start_within es 9 (omega arith)
