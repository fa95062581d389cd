-- There are at most 64 literals among the candidates, and a cut for each two rows.
use Rattle.std.proofs.Common.{◌≡◌, ℕ, ◌+◌, ◌*◌, ◌≤◌, true, ltb, leb, List, ◌∷◌, length, arith}
use Rattle.std.proofs.lemmas.Bool.{and_parts, leb-true}
use Rattle.rules.specs.Lists.{every}
use Rattle.rules.specs.Examples.{Example}
use Rattle.candidates.specs.Rows.{Rows, small_text, small_example, small_examples}
use Rattle.candidates.specs.Candidates.{count}

-- the first wanted text is small
pub first_small : (e : Example) (es : List Example) → small_examples (e ∷ es) ≡ true → (length e.wanted ≤ 64) × (every (λ c. ltb c 256) e.wanted ≡ true)
first_small e es h =
    let a = and_parts (leb (length (e ∷ es)) 8) (every small_example (e ∷ es)) h in
    let b = and_parts (small_example e) (every small_example es) a.1 in
    let c = and_parts (small_text e.given) (small_text e.wanted) b.0 in
    let d = and_parts (leb (length e.wanted) 64) (every (λ c. ltb c 256) e.wanted) c.1 in
    (leb-true (length e.wanted) 64 d.0, d.1)

pub candidates_few : (e : Example) (es : List Example) (R : Rows) (s : List ℕ) → small_examples (e ∷ es) ≡ true → count (e ∷ es) R s ≤ 64 + R.count * R.count
candidates_few e es R s h = let f = (first_small e es h).0 in omega arith
