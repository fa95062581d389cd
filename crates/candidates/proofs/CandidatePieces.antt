-- What a view says that a candidate makes of each example, and weighs, is what the candidate makes and weighs.
use Rattle.std.proofs.Common.{◌≡◌, ℕ, ◌+◌, ◌-◌, ◌*◌, ◌/◌, ◌%◌, ◌<◌, ◌≤◌, Bool, true, false, ◌&&◌, ltb, leb, List, ◌∷◌, length, get_or, take, drop, sym, refl, ap, ◌∙◌, arith}
use Rattle.std.proofs.lemmas.Bool.{le-leb, ltb-true, ltb-false}
use Rattle.rules.specs.Lists.{pick}
use Rattle.rules.specs.Rules.{bytes, made, nothing, part_of, part_cost}
use Rattle.rules.specs.Examples.{Example}
use Rattle.rules.proofs.Tests.{pick_both}
use Rattle.candidates.specs.Weights.{part_weight}
use Rattle.candidates.specs.Rows.{given_of}
use Rattle.candidates.specs.RowTable.{row_number, place_in}
use Rattle.candidates.specs.Candidates.{literals, count, cut_by, candidate}
use Rattle.candidates.specs.Problem.{View, wanted_in, middle_in, literal_piece, cut_piece, literals_in, count_in, cut_weighs, candidate_piece, candidate_weight}
use Rattle.candidates.specs.Laid.{Laid, rows_of}
use Rattle.candidates.proofs.CandidateKinds.{candidate_literal, candidate_cut}
use Rattle.candidates.proofs.CandidatesValid.{rows_below}
use Rattle.candidates.proofs.MovesByRows.{cut_makes, lies_within}

-- a position within the text needs no test
middle_within : (t : List ℕ) (a b : ℕ) → b ≤ length t → middle_in t a b ≡ pick (leb a b) (made (take (b - a) (drop a t))) nothing
middle_within t a b h = ap (λ x. pick (leb a b && x) (made (take (b - a) (drop a t))) nothing) (le-leb b (length t) h) ∙ go (leb a b)
  where
    go : (u : Bool) → pick (u && true) (made (take (b - a) (drop a t))) nothing ≡ pick u (made (take (b - a) (drop a t))) nothing
    go true = refl
    go false = refl

module _ (x : Example) (rest : List Example) (asked : List (List ℕ)) (v : View) (laid : Laid (x ∷ rest) asked v) where
  first_wanted_in : wanted_in v 0 ≡ x.wanted
  first_wanted_in = laid.wanted 0 (omega arith)

  pub literals_agree : (s : List ℕ) → literals_in v s ≡ literals (x ∷ rest) s
  literals_agree s = ap (λ w. length w - get_or s 0 0) first_wanted_in

  pub count_agrees : (s : List ℕ) → count_in v s ≡ count (x ∷ rest) (rows_of v) s
  count_agrees s = ap (λ n. n + v.rows * v.rows) (literals_agree s)

  -- CUTS
  cut_piece_made :
      (k e : ℕ) → k < v.rows * v.rows → e < length (x ∷ rest) → cut_piece v (k / v.rows) (k % v.rows) e ≡ part_of (given_of (x ∷ rest) e) (cut_by (rows_of v) k)
  cut_piece_made k e h l =
      let t = given_of (x ∷ rest) e in
      let below = rows_below v.rows k h in
      let from = laid.good.lies (k / v.rows) e below.0 l in
      let to = laid.good.lies (k % v.rows) e below.1 l in
      let a = row_number v.table (k / v.rows) (6 + e) in
      let b = row_number v.table (k % v.rows) (6 + e) in
      ap (λ g. middle_in g a b) (laid.given e l) ∙ middle_within t a b (lies_within t (place_in v.table (k % v.rows)) b to)
      ∙ sym (cut_makes t (place_in v.table (k / v.rows)) (place_in v.table (k % v.rows)) a b from to)

  cut_weight_made : (k : ℕ) → k < v.rows * v.rows → cut_weighs v (k / v.rows) (k % v.rows) ≡ part_weight (cut_by (rows_of v) k)
  unfolding part_cost
  cut_weight_made k h =
      let below = rows_below v.rows k h in
      let from = laid.costs (k / v.rows) below.0 in
      let to = laid.costs (k % v.rows) below.1 in
      omega arith

  -- CANDIDATES
  module _ (s : List ℕ) (i : ℕ) (h : i < count (x ∷ rest) (rows_of v) s) where
    pub pieces_made : (e : ℕ) → e < length (x ∷ rest) → candidate_piece v s i e ≡ part_of (given_of (x ∷ rest) e) (candidate (x ∷ rest) (rows_of v) s i)
    unfolding part_of
    pieces_made e l =
        let n = literals_agree s in
        let k = i - literals_in v s in
        pick_both (ltb i (literals_in v s)) (literal_piece v s (i + 1)) (cut_piece v (k / v.rows) (k % v.rows)) (λ f. f e ≡ part_of (given_of (x ∷ rest) e) (candidate (x ∷ rest) (rows_of v) s i))
        (λ t. let below = ltb-true i (literals_in v s) t in
        ap (λ w. made (take (i + 1) (drop (get_or s 0 0) w))) first_wanted_in ∙ ap (λ p. part_of (given_of (x ∷ rest) e) p) (sym (candidate_literal (x ∷ rest) (rows_of v) s i (omega arith))))
        (λ t. let past = ltb-false i (literals_in v s) t in
        cut_piece_made k e (omega arith) l
        ∙ ap (λ m. part_of (given_of (x ∷ rest) e) (cut_by (rows_of v) (i - m))) n ∙ ap (λ p. part_of (given_of (x ∷ rest) e) p) (sym (candidate_cut (x ∷ rest) (rows_of v) s i (omega arith))))

    pub weight_agrees : candidate_weight v s i ≡ part_weight (candidate (x ∷ rest) (rows_of v) s i)
    unfolding part_cost
    weight_agrees =
        let n = literals_agree s in
        let k = i - literals_in v s in
        pick_both (ltb i (literals_in v s)) (16 * (5 + 4 * length (take (i + 1) (drop (get_or s 0 0) (wanted_in v 0)))) + 1) (cut_weighs v (k / v.rows) (k % v.rows)) (λ m. m ≡ part_weight (candidate (x ∷ rest) (rows_of v) s i))
        (λ t. let below = ltb-true i (literals_in v s) t in
        ap (λ w. 16 * (5 + 4 * length (take (i + 1) (drop (get_or s 0 0) w))) + 1) first_wanted_in ∙ bytes_weigh (take (i + 1) (drop (get_or s 0 0) x.wanted)) ∙ ap part_weight (sym (candidate_literal (x ∷ rest) (rows_of v) s i (omega arith))))
        (λ t. let past = ltb-false i (literals_in v s) t in
        cut_weight_made k (omega arith) ∙ ap (λ m. part_weight (cut_by (rows_of v) (i - m))) n ∙ ap part_weight (sym (candidate_cut (x ∷ rest) (rows_of v) s i (omega arith))))
      where
        bytes_weigh : (b : List ℕ) → 16 * (5 + 4 * length b) + 1 ≡ part_weight (bytes b)
        bytes_weigh b = omega arith
