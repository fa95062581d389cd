-- A move, and the test of it, over the examples that a loop has gone through, and over those that are left.
use Rattle.std.proofs.Common.{◌≡◌, ℕ, zero, suc, ◌+◌, ◌<◌, ◌≤◌, true, ◌&&◌, eqb, List, [], ◌∷◌, length, get_or, take, drop, set, refl, ap, ◌∙◌, add-one, arith}
use Rattle.std.proofs.lemmas.List.{take_all, drop_all}
use Rattle.std.proofs.lemmas.Bool.{and_parts, and_from}
use Rattle.rules.specs.Rules.{Part, part_of}
use Rattle.rules.specs.Promises.{made_length}
use Rattle.rules.specs.Examples.{Example}
use Rattle.candidates.specs.Moves.{goes_on, goes, moved, at_end}
use Rattle.candidates.specs.Rows.{given_of, wanted_of, example_at}

-- the example that is read, with any default
pub example_read : (es : List Example) (e : ℕ) (d : Example) → e < length es → get_or es e d ≡ example_at es e
example_read [] e d h = absurd (omega arith)
example_read (x ∷ es) zero d h = refl
example_read (x ∷ es) (suc e) d h = example_read es e d (omega arith)

-- THE TEST
pub goes_at : (es : List Example) (p : Part) (s : List ℕ) (e : ℕ) → goes es p s ≡ true → e < length es → goes_on (example_at es e) p (get_or s e 0) ≡ true
unfolding goes
goes_at [] p s e h k = absurd (omega arith)
goes_at (x ∷ es) p [] e h k = absurd (grind arith)
goes_at (x ∷ es) p (j ∷ js) zero h k = (and_parts (goes_on x p j) (goes es p js) h).0
goes_at (x ∷ es) p (j ∷ js) (suc e) h k = goes_at es p js e (and_parts (goes_on x p j) (goes es p js) h).1 (omega arith)

pub goes_from : (es : List Example) (p : Part) (s : List ℕ) → length es ≤ length s → ((e : ℕ) → e < length es → goes_on (example_at es e) p (get_or s e 0) ≡ true) → goes es p s ≡ true
unfolding goes
goes_from [] p s l h = refl
goes_from (x ∷ es) p [] l h = absurd (omega arith)
goes_from (x ∷ es) p (j ∷ js) l h = and_from _ _ (h 0 (omega arith)) (goes_from es p js (omega arith) (λ e k. h (suc e) (omega arith)))

goes_left_suc : (es : List Example) (p : Part) (s : List ℕ) (e : ℕ) → e < length es → e < length s → goes (drop e es) p (drop e s) ≡ (goes_on (example_at es e) p (get_or s e 0) && goes (drop (suc e) es) p (drop (suc e) s))
unfolding goes
goes_left_suc [] p s e h k = absurd (omega arith)
goes_left_suc (x ∷ es) p [] e h k = absurd (omega arith)
goes_left_suc (x ∷ es) p (j ∷ js) zero h k = refl
goes_left_suc (x ∷ es) p (j ∷ js) (suc e) h k = goes_left_suc es p js e (omega arith) (omega arith)

pub goes_left : (es : List Example) (p : Part) (s : List ℕ) (e : ℕ) → e < length es → e < length s → goes (drop e es) p (drop e s) ≡ (goes_on (example_at es e) p (get_or s e 0) && goes (drop (e + 1) es) p (drop (e + 1) s))
goes_left es p s e h k = rw add-one (goes_left_suc es p s e h k)

goes_none : (p : Part) (s : List ℕ) → goes [] p s ≡ true
unfolding goes
goes_none p s = refl

pub goes_left_none : (es : List Example) (p : Part) (s : List ℕ) (e : ℕ) → length es ≤ e → goes (drop e es) p (drop e s) ≡ true
goes_left_none es p s e h = ap (λ xs. goes xs p (drop e s)) (drop_all e es h) ∙ goes_none p (drop e s)

goes_past_suc : (es : List Example) (p : Part) (s : List ℕ) (e : ℕ) → e < length es → e < length s → goes (take (suc e) es) p s ≡ (goes (take e es) p s && goes_on (example_at es e) p (get_or s e 0))
unfolding goes
goes_past_suc [] p s e h k = absurd (omega arith)
goes_past_suc (x ∷ es) p [] e h k = absurd (omega arith)
goes_past_suc (x ∷ es) p (j ∷ js) zero h k = grind arith
goes_past_suc (x ∷ es) p (j ∷ js) (suc e) h k = let ih = goes_past_suc es p js e (omega arith) (omega arith) in grind arith

pub goes_past : (es : List Example) (p : Part) (s : List ℕ) (e : ℕ) → e < length es → e < length s → goes (take (e + 1) es) p s ≡ (goes (take e es) p s && goes_on (example_at es e) p (get_or s e 0))
goes_past es p s e h k = rw add-one (goes_past_suc es p s e h k)

pub goes_past_none : (es : List Example) (p : Part) (s : List ℕ) → goes (take 0 es) p s ≡ true
unfolding goes
goes_past_none es p s = refl

pub goes_past_all : (es : List Example) (p : Part) (s : List ℕ) (e : ℕ) → length es ≤ e → goes (take e es) p s ≡ goes es p s
goes_past_all es p s e h = ap (λ xs. goes xs p s) (take_all e es h)

-- THE MOVE: the numbers that were not gone through are as they were
moved_more_suc : (es : List Example) (p : Part) (s : List ℕ) (e : ℕ) → e < length es → e < length s → moved (take (suc e) es) p s ≡ set (moved (take e es) p s) e (get_or s e 0 + made_length (part_of (given_of es e) p))
unfolding moved
moved_more_suc [] p s e h k = absurd (omega arith)
moved_more_suc (x ∷ es) p [] e h k = absurd (omega arith)
moved_more_suc (x ∷ es) p (j ∷ js) zero h k = refl
moved_more_suc (x ∷ es) p (j ∷ js) (suc e) h k = ap (λ r. (j + made_length (part_of x.given p)) ∷ r) (moved_more_suc es p js e (omega arith) (omega arith))

pub moved_more : (es : List Example) (p : Part) (s : List ℕ) (e : ℕ) → e < length es → e < length s → moved (take (e + 1) es) p s ≡ set (moved (take e es) p s) e (get_or s e 0 + made_length (part_of (given_of es e) p))
moved_more es p s e h k = rw add-one (moved_more_suc es p s e h k)

pub moved_none : (es : List Example) (p : Part) (s : List ℕ) → moved (take 0 es) p s ≡ s
unfolding moved
moved_none es p s = refl

pub moved_all : (es : List Example) (p : Part) (s : List ℕ) (e : ℕ) → length es ≤ e → moved (take e es) p s ≡ moved es p s
moved_all es p s e h = ap (λ xs. moved xs p s) (take_all e es h)

-- the number that is next is as it was
moved_take_next : (es : List Example) (p : Part) (s : List ℕ) (e k : ℕ) → e ≤ k → get_or (moved (take e es) p s) k 0 ≡ get_or s k 0
unfolding moved
moved_take_next es p s zero k h = refl
moved_take_next [] p s (suc e) k h = refl
moved_take_next (x ∷ es) p [] (suc e) k h = refl
moved_take_next (x ∷ es) p (j ∷ js) (suc e) zero h = absurd (omega arith)
moved_take_next (x ∷ es) p (j ∷ js) (suc e) (suc k) h = moved_take_next es p js e k (omega arith)

pub moved_next : (es : List Example) (p : Part) (s : List ℕ) (e : ℕ) → get_or (moved (take e es) p s) e 0 ≡ get_or s e 0
moved_next es p s e = moved_take_next es p s e e (omega arith)

-- THE END
at_end_left_suc : (es : List Example) (s : List ℕ) (e : ℕ) → e < length es → e < length s → at_end (drop e es) (drop e s) ≡ (eqb (get_or s e 0) (length (wanted_of es e)) && at_end (drop (suc e) es) (drop (suc e) s))
unfolding at_end
at_end_left_suc [] s e h k = absurd (omega arith)
at_end_left_suc (x ∷ es) [] e h k = absurd (omega arith)
at_end_left_suc (x ∷ es) (j ∷ js) zero h k = refl
at_end_left_suc (x ∷ es) (j ∷ js) (suc e) h k = at_end_left_suc es js e (omega arith) (omega arith)

pub at_end_left : (es : List Example) (s : List ℕ) (e : ℕ) → e < length es → e < length s → at_end (drop e es) (drop e s) ≡ (eqb (get_or s e 0) (length (wanted_of es e)) && at_end (drop (e + 1) es) (drop (e + 1) s))
at_end_left es s e h k = rw add-one (at_end_left_suc es s e h k)

at_end_none : (s : List ℕ) → at_end [] s ≡ true
unfolding at_end
at_end_none s = refl

pub at_end_left_none : (es : List Example) (s : List ℕ) (e : ℕ) → length es ≤ e → at_end (drop e es) (drop e s) ≡ true
at_end_left_none es s e h = ap (λ xs. at_end xs (drop e s)) (drop_all e es h) ∙ at_end_none (drop e s)
