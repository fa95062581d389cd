-- The guides of several examples, each laid down in its place, leave the others as they are.
use Rattle.std.proofs.Common.{◌≡◌, ℕ, zero, suc, ◌+◌, ◌-◌, ◌*◌, ◌<◌, ◌≤◌, List, [], ◌++◌, length, get_or, take, drop, sym, refl, ap, ◌∙◌, add-one, arith, length-append, length-drop, take-append-drop, length-take, length-take-le, drop-drop, take_at, drop_at, below_more}
use lib.Seq.{take-append-le, drop-append-le}
use Rattle.rules.specs.Examples.{Example}
use Rattle.candidates.specs.declared.example.Example as declared
use Rattle.candidates.specs.Values.{the_examples}
use Rattle.candidates.specs.Rows.{given_of, wanted_of}
use Rattle.candidates.specs.Guide.{columns, laid_columns, columns_of, with_guide, guides_laid}
use Rattle.candidates.proofs.ColumnsLaid.{together, length_columns_together}
use Rattle.candidates.proofs.ExamplesRead.{given_read, wanted_read}
use Rattle.candidates.proofs.GuideFalls.{length_columns}

-- as a write to out[585 * e..585 * e + 585] leaves it
guide_put : (xs ys : List ℕ) (cols : List (List ℕ)) (e : ℕ) → ys ≡ laid_columns cols (take (585 * e + 585 - 585 * e) (drop (585 * e) xs)) →
    take (585 * e) xs ++ (ys ++ drop (585 * e + 585 - 585 * e) (drop (585 * e) xs)) ≡ with_guide xs e cols
guide_put xs ys cols e is =
    let size : 585 * e + 585 - 585 * e ≡ 585 = omega arith in
    ap (λ l. take (585 * e) xs ++ (l ++ drop (585 * e + 585 - 585 * e) (drop (585 * e) xs))) (is ∙ ap (λ n. laid_columns cols (take n (drop (585 * e) xs))) size)
    ∙ ap (λ l. take (585 * e) xs ++ (laid_columns cols (take 585 (drop (585 * e) xs)) ++ l)) (drop-drop (585 * e + 585 - 585 * e) (585 * e) xs ∙ ap (λ n. drop n xs) (omega arith))

laid_length : (cs gs ws ns : List ℕ) → length ws ≤ 64 → length ns ≡ 585 → length (laid_columns (columns cs gs ws) ns) ≡ 585
laid_length cs gs ws ns few size =
    let n = length_columns_together cs gs ws in
    let m = length_columns cs gs ws in
    let a = length-append (together (columns cs gs ws)) (drop (9 * length (columns cs gs ws)) ns) in
    let d = length-drop (9 * length (columns cs gs ws)) ns in
    omega arith

-- in its place
guide_here : (xs ys rest : List ℕ) (e : ℕ) → 585 * e ≤ length xs → length ys ≡ 585 → take 585 (drop (585 * e) (take (585 * e) xs ++ (ys ++ rest))) ≡ ys
guide_here xs ys rest e room size =
    ap (take 585) (drop_at (take (585 * e) xs) (ys ++ rest) (585 * e) (length-take-le (585 * e) xs room)) ∙ take_at ys rest 585 size

-- in an earlier one
front_alone : (front rest : List ℕ) (d : ℕ) → 585 * d + 585 ≤ length front → take 585 (drop (585 * d) (front ++ rest)) ≡ take 585 (drop (585 * d) front)
front_alone front rest d room =
    let n = length-drop (585 * d) front in
    ap (take 585) (drop-append-le (585 * d) front rest (omega arith)) ∙ take-append-le 585 (drop (585 * d) front) rest (omega arith)

guide_earlier : (xs back : List ℕ) (d e : ℕ) → d < e → 585 * e ≤ length xs → take 585 (drop (585 * d) (take (585 * e) xs ++ back)) ≡ take 585 (drop (585 * d) xs)
guide_earlier xs back d e h room =
    let n = length-take-le (585 * e) xs room in
    front_alone (take (585 * e) xs) back d (omega arith) ∙ sym (front_alone (take (585 * e) xs) (drop (585 * e) xs) d (omega arith))
    ∙ ap (λ l. take 585 (drop (585 * d) l)) (take-append-drop (585 * e) xs)

-- the columns of example e lie in their place, over anything
abbrev pub GuideLaid : List (List ℕ) → List Example → List ℕ → ℕ → Type 0
GuideLaid css es ns e = (before : List ℕ) × (take 585 (drop (585 * e) ns) ≡ laid_columns (columns_of css es e) before)

with_guide_long : (xs : List ℕ) (e : ℕ) (ys : List ℕ) → 585 * e + 585 ≤ length xs → length ys ≡ 585 → length (take (585 * e) xs ++ (ys ++ drop (585 * e + 585) xs)) ≡ length xs
with_guide_long xs e ys room size =
    let a = length-append (take (585 * e) xs) (ys ++ drop (585 * e + 585) xs) in
    let b = length-append ys (drop (585 * e + 585) xs) in
    let c = length-take-le (585 * e) xs (omega arith) in
    let d = length-drop (585 * e + 585) xs in
    omega arith

module _ (css : List (List ℕ)) (es : List Example) where
  -- one guide more
  guide_more : (S : List ℕ) (e : ℕ) → 585 * e + 585 ≤ length S → length (wanted_of es e) ≤ 64 →
      (length (with_guide S e (columns_of css es e)) ≡ length S) × (((d : ℕ) → d < e → GuideLaid css es S d) → (d : ℕ) → d < e + 1 → GuideLaid css es (with_guide S e (columns_of css es e)) d)
  guide_more S e room few =
      let place : List ℕ = take 585 (drop (585 * e) S) in
      let new : List ℕ = laid_columns (columns_of css es e) place in
      let rest : List ℕ = drop (585 * e + 585) S in
      let size : length place ≡ 585 = let a = length-take 585 (drop (585 * e) S) in let b = length-drop (585 * e) S in omega arith in
      let long : length new ≡ 585 = laid_length (get_or css e []) (given_of es e) (wanted_of es e) place few size in (
        with_guide_long S e new room long,
        λ so. below_more (λ d. GuideLaid css es (with_guide S e (columns_of css es e)) d) e
            (λ d h. ((so d h).0, guide_earlier S (new ++ rest) d e h (omega arith) ∙ (so d h).1))
            (place, guide_here S new rest e (omega arith) long),
      )

  -- each of the first m
  guides_all : (ns : List ℕ) (m : ℕ) → 585 * m ≤ length ns → ((e : ℕ) → e < m → length (wanted_of es e) ≤ 64) →
      (length (guides_laid css es m ns) ≡ length ns) × ((e : ℕ) → e < m → GuideLaid css es (guides_laid css es m ns) e)
  unfolding guides_laid
  guides_all ns zero room few = (refl, λ e h. absurd (omega arith))
  guides_all ns (suc m) room few =
      let ih = guides_all ns m (omega arith) (λ e h. few e (omega arith)) in
      let one = guide_more (guides_laid css es m ns) m (omega (arith, ih.0)) (few m (omega arith)) in
      (one.0 ∙ ih.0, λ e h. one.1 ih.1 e (omega arith))

  pub guides_long : (ns : List ℕ) (m : ℕ) → 585 * m ≤ length ns → ((e : ℕ) → e < m → length (wanted_of es e) ≤ 64) → length (guides_laid css es m ns) ≡ length ns
  guides_long ns m room few = (guides_all ns m room few).0

  pub guides_there : (ns : List ℕ) (m : ℕ) → 585 * m ≤ length ns → ((e : ℕ) → e < m → length (wanted_of es e) ≤ 64) → (e : ℕ) → e < m → GuideLaid css es (guides_laid css es m ns) e
  guides_there ns m room few = (guides_all ns m room few).1

-- as a loop lays down the guide of the example that it has come to
pub guides_goes_on :
    (css : List (List ℕ)) (cs : List ℕ) (xs : List declared.Example) (ns S ys : List ℕ) (e : ℕ) (d : declared.Example) → e < length xs → cs ≡ get_or css e [] →
    ys ≡ laid_columns (columns cs (get_or xs e d).given.now (get_or xs e d).wanted.now) (take (585 * e + 585 - 585 * e) (drop (585 * e) S)) → S ≡ guides_laid css (the_examples xs) e ns →
    take (585 * e) S ++ (ys ++ drop (585 * e + 585 - 585 * e) (drop (585 * e) S)) ≡ guides_laid css (the_examples xs) (e + 1) ns
unfolding guides_laid
guides_goes_on css cs xs ns S ys e d h costs is so =
    guide_put S ys (columns (get_or css e []) (get_or xs e d).given.now (get_or xs e d).wanted.now) e
    (is ∙ ap (λ k. laid_columns (columns k (get_or xs e d).given.now (get_or xs e d).wanted.now) (take (585 * e + 585 - 585 * e) (drop (585 * e) S))) costs)
    ∙ ap (λ l. with_guide l e (columns (get_or css e []) (get_or xs e d).given.now (get_or xs e d).wanted.now)) so
    ∙ ap (λ l. with_guide (guides_laid css (the_examples xs) e ns) e (columns (get_or css e []) l (get_or xs e d).wanted.now)) (sym (given_read xs e d h))
    ∙ ap (λ l. with_guide (guides_laid css (the_examples xs) e ns) e (columns (get_or css e []) (given_of (the_examples xs) e) l)) (sym (wanted_read xs e d h))
    ∙ ap (λ m. guides_laid css (the_examples xs) m ns) (sym (add-one e))
