-- The rule that frames in memory stand for is the one that the stack of them stands for.
use Rattle.std.proofs.Common.{◌≡◌, ℕ, zero, suc, ◌+◌, ◌-◌, ◌/◌, ◌%◌, ltb, List, [], ◌∷◌, ◌++◌, length, get_or, take, drop, sym, refl, ap, ap₂, arith}
use Rattle.rules.specs.Lists.{pick}
use Rattle.rules.specs.Rules.{Part, bytes, cut}
use Rattle.rules.specs.Examples.{Example}
use Rattle.candidates.specs.RowTable.{place_in}
use Rattle.candidates.specs.Candidates.{candidate}
use Rattle.candidates.specs.Problem.{View}
use Rattle.candidates.specs.Laid.{Laid, rows_of}
use Rattle.search.specs.Machine.{chosen}
use Rattle.search.specs.Steps.{no_frame}
use Rattle.search.specs.ByExamples.{guided_by, stack_of, part_in, parts_in}
use Rattle.search.specs.declared.frame.Frame.{Frame}

module _ (x : Example) (rest : List Example) (asked : List (List ℕ)) (v : View) (laid : Laid (x ∷ rest) asked v) where
  pub part_agrees : (s : List ℕ) (i : ℕ) → candidate (x ∷ rest) (rows_of v) s i ≡ part_in v s i
  unfolding candidate
  part_agrees s i = ap by (sym (laid.wanted 0 (omega arith)))
    where
      -- the candidate by what is wanted of the first example
      by : List ℕ → Part
      by w =
          let l = length w - get_or s 0 0 in
          pick (ltb i l) (bytes (take (i + 1) (drop (get_or s 0 0) w))) (cut (place_in v.table ((i - l) / v.rows)) (place_in v.table ((i - l) % v.rows)))

  pub chosen_agrees : (d : ℕ) (fs : List Frame) → chosen (guided_by (x ∷ rest) v) (stack_of d fs) ≡ parts_in v d fs
  unfolding chosen stack_of parts_in
  chosen_agrees zero fs = refl
  chosen_agrees (suc d) fs = let f = get_or fs d no_frame in ap₂ (λ q p. q ++ p ∷ []) (chosen_agrees d fs) (part_agrees f.state (f.index - 1))
