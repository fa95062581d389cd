-- The texts of several examples, each laid down in its place: they are read back, and as many numbers stay.
use Rattle.std.proofs.Common.{◌≡◌, ℕ, zero, suc, ◌+◌, ◌*◌, ◌<◌, ◌≤◌, min, ◌≢◌, List, ◌++◌, length, get_or, take, drop, set, sym, refl, ap, ◌∙◌, add-one, arith, length-append, length-drop, length-set, below_more}
use Rattle.std.proofs.lemmas.List.{take_at, take-set-le, drop_at, length-take-le, get_or-set_same, get_or-set_other}
use Rattle.rules.specs.Examples.{Example}
use Rattle.candidates.specs.declared.example.Example as declared
use Rattle.candidates.specs.Values.{the_examples}
use Rattle.candidates.specs.Rows.{given_of, wanted_of}
use Rattle.candidates.specs.LaidProblem.{with_text, with_example, texts_laid}
use Rattle.candidates.proofs.ExamplesRead.{given_read, wanted_read}
use Rattle.candidates.proofs.SameFronts.{same_shorter, same_number, same_part}

-- A TEXT
module _ (ns : List ℕ) (at : ℕ) (t : List ℕ) (room : at + length t ≤ length ns) where
  front_long : length (take at ns) ≡ at
  front_long = length-take-le at ns (omega arith)

  text_long : length (with_text ns at t) ≡ length ns
  text_long =
      let a = length-append (take at ns) (t ++ drop (at + length t) ns) in
      let b = length-append t (drop (at + length t) ns) in
      let c = length-drop (at + length t) ns in
      omega (arith, front_long)

  text_there : take (length t) (drop at (with_text ns at t)) ≡ t
  text_there = ap (take (length t)) (drop_at (take at ns) (t ++ drop (at + length t) ns) at front_long) ∙ take_at t (drop (at + length t) ns) (length t) refl

  text_front : take at (with_text ns at t) ≡ take at ns
  text_front = take_at (take at ns) (t ++ drop (at + length t) ns) at front_long

-- AN EXAMPLE
-- the texts of example e lie in their place
record There (ns : List ℕ) (e : ℕ) (given wanted : List ℕ) : Type 0 where
  given_long : get_or ns (130 * e) 0 ≡ length given
  wanted_long : get_or ns (130 * e + 1) 0 ≡ length wanted
  given_there : take (length given) (drop (130 * e + 2) ns) ≡ given
  wanted_there : take (length wanted) (drop (130 * e + 66) ns) ≡ wanted

-- numbers behind them do not matter
there_still : (n e : ℕ) (xs ys g w : List ℕ) → take n xs ≡ take n ys → 130 * e + 130 ≤ n → length g ≤ 64 → length w ≤ 64 → There ys e g w → There xs e g w
there_still n e xs ys g w same room few short there = record {
  given_long = same_number n xs ys same (130 * e) (omega arith) ∙ there.given_long;
  wanted_long = same_number n xs ys same (130 * e + 1) (omega arith) ∙ there.wanted_long;
  given_there = same_part n xs ys same (130 * e + 2) (length g) (omega arith) ∙ there.given_there;
  wanted_there = same_part n xs ys same (130 * e + 66) (length w) (omega arith) ∙ there.wanted_there;
}

module _ (ns : List ℕ) (a : ℕ) (g w : List ℕ) (room : a + 130 ≤ length ns) (few : length g ≤ 64) (short : length w ≤ 64) where
  abbrev lengths : List ℕ
  lengths = set (set ns a (length g)) (a + 1) (length w)

  abbrev half : List ℕ
  half = with_text lengths (a + 2) g

  abbrev whole : List ℕ
  whole = with_text half (a + 66) w

  lengths_long : length lengths ≡ length ns
  lengths_long = length-set (set ns a (length g)) (a + 1) (length w) ∙ length-set ns a (length g)

  half_long : length half ≡ length ns
  half_long = text_long lengths (a + 2) g (omega (arith, lengths_long)) ∙ lengths_long

  whole_long : length whole ≡ length ns
  whole_long = text_long half (a + 66) w (omega (arith, half_long)) ∙ half_long

  whole_half : take (a + 66) whole ≡ take (a + 66) half
  whole_half = text_front half (a + 66) w (omega (arith, half_long))

  whole_lengths : take (a + 2) whole ≡ take (a + 2) lengths
  whole_lengths = same_shorter (a + 66) whole half whole_half (a + 2) (omega arith) ∙ text_front lengths (a + 2) g (omega (arith, lengths_long))

  whole_front : take a whole ≡ take a ns
  whole_front =
      same_shorter (a + 2) whole lengths whole_lengths a (omega arith) ∙ take-set-le a (set ns a (length g)) (a + 1) (length w) (omega arith)
      ∙ take-set-le a ns a (length g) (omega arith)

  first_number : get_or whole a 0 ≡ length g
  first_number =
      let apart : a ≢ a + 1 = omega arith in
      same_number (a + 2) whole lengths whole_lengths a (omega arith) ∙ get_or-set_other (set ns a (length g)) (a + 1) a (length w) 0 apart
      ∙ get_or-set_same ns a (length g) 0 (omega arith)

  second_number : get_or whole (a + 1) 0 ≡ length w
  second_number =
      same_number (a + 2) whole lengths whole_lengths (a + 1) (omega arith)
      ∙ get_or-set_same (set ns a (length g)) (a + 1) (length w) 0 (omega (arith, length-set ns a (length g)))

  given_part : take (length g) (drop (a + 2) whole) ≡ g
  given_part = same_part (a + 66) whole half whole_half (a + 2) (length g) (omega arith) ∙ text_there lengths (a + 2) g (omega (arith, lengths_long))

  wanted_part : take (length w) (drop (a + 66) whole) ≡ w
  wanted_part = text_there half (a + 66) w (omega (arith, half_long))

-- ALL EXAMPLES
module _ (es : List Example) (short : (e : ℕ) → e < length es → (length (given_of es e) ≤ 64) × (length (wanted_of es e) ≤ 64)) where
  texts_all : (ns : List ℕ) (m : ℕ) → 130 * m ≤ length ns → m ≤ length es →
      (length (texts_laid es m ns) ≡ length ns) × ((e : ℕ) → e < m → There (texts_laid es m ns) e (given_of es e) (wanted_of es e))
  unfolding texts_laid
  texts_all ns zero room few = (refl, λ e h. absurd (omega arith))
  texts_all ns (suc m) room few =
      let was : List ℕ = texts_laid es m ns in
      let g : List ℕ = given_of es m in
      let w : List ℕ = wanted_of es m in
      let ih = texts_all ns m (omega arith) (omega arith) in
      let wide : 130 * m + 130 ≤ length was = omega (arith, ih.0) in
      let s = short m (omega arith) in (
        whole_long was (130 * m) g w wide s.0 s.1 ∙ ih.0,
        λ e h. below_more (λ e. There (with_example was m g w) e (given_of es e) (wanted_of es e)) m
            (λ e k. let t = short e (omega arith) in there_still (130 * m) e (with_example was m g w) was (given_of es e) (wanted_of es e) (whole_front was (130 * m) g w wide s.0 s.1) (omega arith) t.0 t.1 (ih.1 e k))
            (record {
              given_long = first_number was (130 * m) g w wide s.0 s.1;
              wanted_long = second_number was (130 * m) g w wide s.0 s.1;
              given_there = given_part was (130 * m) g w wide s.0 s.1;
              wanted_there = wanted_part was (130 * m) g w wide s.0 s.1;
            }) e (omega arith),
      )

  pub texts_long : (ns : List ℕ) (m : ℕ) → 130 * m ≤ length ns → m ≤ length es → length (texts_laid es m ns) ≡ length ns
  texts_long ns m room few = (texts_all ns m room few).0

  -- as a view reads them
  module _ (ns : List ℕ) (m : ℕ) (room : 130 * m ≤ length ns) (few : m ≤ length es) (e : ℕ) (below : e < m) where
    there : There (texts_laid es m ns) e (given_of es e) (wanted_of es e)
    there = (texts_all ns m room few).1 e below

    pub given_back : take (min (get_or (texts_laid es m ns) (130 * e) 0) 64) (drop (130 * e + 2) (texts_laid es m ns)) ≡ given_of es e
    given_back =
        let s = (short e (omega arith)).0 in
        ap (λ n. take n (drop (130 * e + 2) (texts_laid es m ns))) (ap (λ n. min n 64) there.given_long ∙ omega arith) ∙ there.given_there

    pub wanted_back : take (min (get_or (texts_laid es m ns) (130 * e + 1) 0) 64) (drop (130 * e + 66) (texts_laid es m ns)) ≡ wanted_of es e
    wanted_back =
        let s = (short e (omega arith)).1 in
        ap (λ n. take n (drop (130 * e + 66) (texts_laid es m ns))) (ap (λ n. min n 64) there.wanted_long ∙ omega arith) ∙ there.wanted_there

-- as a loop lays down the example that it has come to
pub texts_goes_on :
    (xs : List declared.Example) (ns S S' : List ℕ) (e : ℕ) (d : declared.Example) → e < length xs →
    S' ≡ with_example S e (get_or xs e d).given.now (get_or xs e d).wanted.now → S ≡ texts_laid (the_examples xs) e ns → S' ≡ texts_laid (the_examples xs) (e + 1) ns
unfolding texts_laid
texts_goes_on xs ns S S' e d h is so =
    is ∙ ap (λ l. with_example l e (get_or xs e d).given.now (get_or xs e d).wanted.now) so
    ∙ ap (λ l. with_example (texts_laid (the_examples xs) e ns) e l (get_or xs e d).wanted.now) (sym (given_read xs e d h))
    ∙ ap (λ l. with_example (texts_laid (the_examples xs) e ns) e (given_of (the_examples xs) e) l) (sym (wanted_read xs e d h))
    ∙ ap (λ m. texts_laid (the_examples xs) m ns) (sym (add-one e))
