-- How the candidate of a number is spelled, by what it is.
use Rattle.std.proofs.Common.{◌≡◌, ℕ, ◌+◌, ◌-◌, ◌*◌, ◌/◌, ◌%◌, ◌<◌, ◌≤◌, List, [], length, get_or, take, drop, sym, refl, ap, ◌∙◌, ap₂, arith, rules, length-append}
use Rattle.std.proofs.lemmas.Bool.{lt-ltb, le-ltb}
use Rattle.candidates.specs.Problem.{View, wanted_in, literals_in}
use Rattle.candidates.specs.Spelled.{numbers_spelled, row_spelled, literal_spelled, cut_spelled, candidate_spelled}

-- a place is spelled with up to seven bytes, and so a cut with up to fifteen
row_bound : (t : List ℕ) (i : ℕ) → length (row_spelled t i) ≤ 7
unfolding numbers_spelled
row_bound t i = search rules

pub cut_bound : (v : View) (i k : ℕ) → length (cut_spelled v i k) ≤ 15
cut_bound v i k = let from = row_bound v.table i in let to = row_bound v.table k in let both = length-append (row_spelled v.table i) (row_spelled v.table k) in omega arith

module _ (v : View) (s : List ℕ) (i : ℕ) where
  pub spelled_literal : i < literals_in v s → candidate_spelled v s i ≡ literal_spelled (take (i + 1) (drop (get_or s 0 0) (wanted_in v 0)))
  unfolding candidate_spelled
  spelled_literal h = rw (lt-ltb i (literals_in v s) h) refl

  pub spelled_cut : literals_in v s ≤ i → i - literals_in v s < v.rows * v.rows →
      candidate_spelled v s i ≡ cut_spelled v ((i - literals_in v s) / v.rows) ((i - literals_in v s) % v.rows)
  unfolding candidate_spelled
  spelled_cut h k = rw (le-ltb i (literals_in v s) h, lt-ltb (i - literals_in v s) (v.rows * v.rows) k) refl

  pub spelled_none : literals_in v s + v.rows * v.rows ≤ i → candidate_spelled v s i ≡ []
  unfolding candidate_spelled
  spelled_none h = rw (le-ltb i (literals_in v s) (omega arith), le-ltb (i - literals_in v s) (v.rows * v.rows) (omega arith)) refl

  -- the same of a text that is the first wanted one, and of a number that is how many literals there are
  pub literal_is : (w : List ℕ) (k : ℕ) → w ≡ wanted_in v 0 → k ≡ i + 1 → i < literals_in v s → literal_spelled (take k (drop (get_or s 0 0) w)) ≡ candidate_spelled v s i
  literal_is w k is e h = ap₂ (λ m l. literal_spelled (take m (drop (get_or s 0 0) l))) e is ∙ sym (spelled_literal h)

  pub cut_is : (n : ℕ) → n ≡ literals_in v s → n ≤ i → i - n < v.rows * v.rows → cut_spelled v ((i - n) / v.rows) ((i - n) % v.rows) ≡ candidate_spelled v s i
  cut_is n e h k =
      ap (λ m. cut_spelled v ((i - m) / v.rows) ((i - m) % v.rows)) e ∙ sym (spelled_cut (omega arith) (let e : i - n ≡ i - literals_in v s = omega arith in omega arith))
