-- What small examples are: few and short.
use Rattle.std.proofs.Common.{◌≡◌, ℕ, zero, suc, ◌<◌, ◌≤◌, true, ◌&&◌, ltb, leb, List, [], ◌∷◌, length, get_or, sym, refl, ap, ◌∙◌, arith, w8, Fits}
use Rattle.std.proofs.lemmas.Bool.{and_parts, and_from, lt-ltb, leb-true}
use Rattle.std.proofs.Math.Bool.{and-true}
use Rattle.rules.specs.Lists.{every}
use Rattle.rules.specs.Examples.{Example}
use Rattle.candidates.specs.Rows.{small_text, small_example, small_examples, short_example, given_of, wanted_of}

-- all numbers of a text of bytes are below 256
bytes_below : (t : List ℕ) → ((k : ℕ) → Fits w8 (get_or t k 0)) → every (λ c. ltb c 256) t ≡ true
bytes_below [] h = refl
bytes_below (x ∷ t) h = and_from _ _ (lt-ltb x 256 (h 0).fits) (bytes_below t (λ k. h (suc k)))

pub bytes_small : (t : List ℕ) → ((k : ℕ) → Fits w8 (get_or t k 0)) → leb (length t) 64 ≡ small_text t
bytes_small t h = sym (ap (λ b. leb (length t) 64 && b) (bytes_below t h) ∙ and-true (leb (length t) 64))

pub small_few : (es : List Example) → small_examples es ≡ true → length es ≤ 8
small_few es h = leb-true (length es) 8 (and_parts (leb (length es) 8) (every small_example es) h).0

text_short : (t : List ℕ) → small_text t ≡ true → leb (length t) 64 ≡ true
text_short t h = (and_parts (leb (length t) 64) (every (λ c. ltb c 256) t) h).0

all_short : (es : List Example) → every small_example es ≡ true → every short_example es ≡ true
all_short [] h = refl
all_short (e ∷ es) h =
    let a = and_parts (small_example e) (every small_example es) h in
    let b = and_parts (small_text e.given) (small_text e.wanted) a.0 in
    and_from _ _ (and_from _ _ (text_short e.given b.0) (text_short e.wanted b.1)) (all_short es a.1)

pub small_short : (es : List Example) → small_examples es ≡ true → every short_example es ≡ true
small_short es h = all_short es (and_parts (leb (length es) 8) (every small_example es) h).1

-- one by one
pub short_at : (es : List Example) → every short_example es ≡ true → (e : ℕ) → e < length es → (length (given_of es e) ≤ 64) × (length (wanted_of es e) ≤ 64)
short_at [] h e l = absurd (omega arith)
short_at (x ∷ es) h zero l =
    let both = and_parts (leb (length x.given) 64) (leb (length x.wanted) 64) (and_parts (short_example x) (every short_example es) h).0 in
    (leb-true (length x.given) 64 both.0, leb-true (length x.wanted) 64 both.1)
short_at (x ∷ es) h (suc e) l = short_at es (and_parts (short_example x) (every short_example es) h).1 e (omega arith)
