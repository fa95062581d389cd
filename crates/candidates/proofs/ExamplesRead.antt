-- The texts of the example that is read at a number, and how long they are.
use Rattle.std.proofs.Common.{◌≡◌, ℕ, zero, suc, ◌<◌, ◌≤◌, true, List, [], ◌∷◌, length, get_or, refl, ap, arith}
use Rattle.std.proofs.lemmas.Bool.{and_parts}
use Rattle.rules.specs.Lists.{every}
use Rattle.rules.proofs.EachElement.{each_length}
use Rattle.candidates.specs.declared.example.Example.{Example}
use Rattle.candidates.specs.Values.{the_example, the_examples}
use Rattle.candidates.specs.Rows.{short_example, given_of, wanted_of}
use Rattle.candidates.proofs.SmallExamples.{short_at}

pub given_read : (xs : List Example) (e : ℕ) (d : Example) → e < length xs → given_of (the_examples xs) e ≡ (get_or xs e d).given.now
given_read [] e d h = absurd (omega arith)
given_read (x ∷ xs) zero d h = refl
given_read (x ∷ xs) (suc e) d h = given_read xs e d (omega arith)

pub wanted_read : (xs : List Example) (e : ℕ) (d : Example) → e < length xs → wanted_of (the_examples xs) e ≡ (get_or xs e d).wanted.now
wanted_read [] e d h = absurd (omega arith)
wanted_read (x ∷ xs) zero d h = refl
wanted_read (x ∷ xs) (suc e) d h = wanted_read xs e d (omega arith)

pub short_read : (xs : List Example) (e : ℕ) (d : Example) → e < length xs → every short_example (the_examples xs) ≡ true →
    (length (get_or xs e d).given.now ≤ 64) × (length (get_or xs e d).wanted.now ≤ 64)
short_read xs e d h all =
    let s = short_at (the_examples xs) all e (omega (arith, each_length the_example xs)) in
    let g = ap length (given_read xs e d h) in
    let w = ap length (wanted_read xs e d h) in
    (omega (arith, s.0), omega (arith, s.1))

pub example_short : (xs : List Example) (e : ℕ) (d : Example) → e < length xs → every short_example (the_examples xs) ≡ true → short_example (the_example (get_or xs e d)) ≡ true
example_short [] e d h all = absurd (omega arith)
example_short (x ∷ xs) zero d h all = (and_parts (short_example (the_example x)) (every short_example (the_examples xs)) all).0
example_short (x ∷ xs) (suc e) d h all = example_short xs e d (omega arith) (and_parts (short_example (the_example x)) (every short_example (the_examples xs)) all).1
