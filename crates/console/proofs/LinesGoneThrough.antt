-- A file is gone through line by line: the first line, and then the lines behind it.
use Rattle.std.proofs.Common.{◌≡◌, ℕ, suc, ◌+◌, ◌<◌, ◌≤◌, false, eqb, ◌⊎◌, inl, inr, List, [], ◌∷◌, ◌++◌, length, get_or, take, min, Some, None, Option, vec_items, sym, refl, ap, ◌∙◌, ap₂, append_assoc, append-nil, arith, Bor, MatchOption}
use Rattle.std.specs.Option.{unwrap_or}
use Rattle.std.specs.List.{IsFirstMatchOrLen}
use Rattle.std.proofs.lemmas.Bool.{eqb-true, cases_lt}
use Rattle.std.proofs.lemmas.List.{take_more, take_all, nil_from_length, get_or_append_left, length-append}
use Rattle.rules.specs.Lists.{pick, none_of}
use Rattle.rules.specs.Rules.{Rule}
use Rattle.console.specs.Rows.{lines_from, lines, made_of, row, rows, miss, missed, OneMore, TableOf}
use Rattle.console.specs.declared.rows.Table.{Table}

-- no line ends in it
abbrev NoEnd : List ℕ → Type 0
NoEnd t = (k : ℕ) → k < length t → eqb (get_or t k 0) 10 ≡ false

no_end_rest : (c : ℕ) (t : List ℕ) → NoEnd (c ∷ t) → NoEnd t
no_end_rest c t h k l = h (suc k) (omega arith)

-- a line that ends, and the last one, which need not
line_ends : (so_far line rest : List ℕ) → NoEnd line → lines_from so_far (line ++ 10 ∷ rest) ≡ (so_far ++ line) ∷ lines rest
unfolding lines_from
line_ends so_far [] rest h = ap (λ l. l ∷ lines rest) (sym (append-nil so_far))
line_ends so_far (c ∷ line) rest h =
    ap (λ b. pick b (so_far ∷ lines (line ++ 10 ∷ rest)) (lines_from (so_far ++ c ∷ []) (line ++ 10 ∷ rest))) (h 0 (omega arith))
    ∙ line_ends (so_far ++ c ∷ []) line rest (no_end_rest c line h)
    ∙ ap (λ l. l ∷ lines rest) (append_assoc so_far (c ∷ []) line)

last_line : (so_far line : List ℕ) → NoEnd line → none_of (so_far ++ line) ≡ false → lines_from so_far line ≡ (so_far ++ line) ∷ []
unfolding lines_from
last_line so_far [] h some = ap (λ b. pick b [] (so_far ∷ [])) (ap none_of (sym (append-nil so_far)) ∙ some) ∙ ap (λ l. l ∷ []) (sym (append-nil so_far))
last_line so_far (c ∷ line) h some =
    ap (λ b. pick b (so_far ∷ lines line) (lines_from (so_far ++ c ∷ []) line)) (h 0 (omega arith))
    ∙ last_line (so_far ++ c ∷ []) line (no_end_rest c line h) (ap none_of (append_assoc so_far (c ∷ []) line) ∙ some)
    ∙ ap (λ l. l ∷ []) (append_assoc so_far (c ∷ []) line)

-- WHERE A FILE IS CUT, behind the first end of a line
module _ (t piece rest : List ℕ) (i : ℕ) (some : 0 < length t) (cut : t ≡ piece ++ rest) (long : length piece ≡ min (i + 1) (length t)) (first : IsFirstMatchOrLen (λ c. eqb c 10) t i) where
  -- so much of it has no end of a line
  no_end : (line : List ℕ) → length line ≤ i → ((k : ℕ) → k < length line → get_or t k 0 ≡ get_or line k 0) → NoEnd line
  no_end line short same k h = ap (λ c. eqb c 10) (sym (same k h)) ∙ first.0 k 0 (omega arith) (omega arith)

  ended : (line : List ℕ) → piece ≡ line ++ 10 ∷ [] → lines t ≡ line ∷ lines rest
  ended line e =
      let whole : t ≡ line ++ 10 ∷ rest = cut ∙ ap (λ l. l ++ rest) e ∙ append_assoc line (10 ∷ []) rest in
      let one = ap length e ∙ length-append line (10 ∷ []) in
      ap lines whole ∙ line_ends [] line rest (no_end line (omega arith) (λ k h. ap (λ l. get_or l k 0) whole ∙ get_or_append_left line (10 ∷ rest) 0 k h))

  not_ended : ((front : List ℕ) → piece ≡ front ++ 10 ∷ [] → ⊥) → lines t ≡ piece ∷ lines rest
  unfolding lines_from
  not_ended none = by_end (cases_lt i (length t))
    where
      by_end : (i < length t) ⊎ (length t ≤ i) → lines t ≡ piece ∷ lines rest
      by_end (inl h) =
          let size : length piece ≡ i + 1 = omega arith in
          let here : get_or piece i 0 ≡ 10 = sym (get_or_append_left piece rest 0 i (omega arith)) ∙ ap (λ l. get_or l i 0) (sym cut) ∙ eqb-true _ _ (first.1 h 0) in
          absurd (none (take i piece) (sym (take_all (i + 1) piece (omega arith)) ∙ take_more piece i 0 (omega arith) ∙ ap (λ c. take i piece ++ c ∷ []) here))
      by_end (inr h) =
          let sum = ap length cut ∙ length-append piece rest in
          let nothing : rest ≡ [] = nil_from_length rest (omega arith) in
          let whole : t ≡ piece = cut ∙ ap (λ l. piece ++ l) nothing ∙ append-nil piece in
          ap lines whole ∙ last_line [] piece (no_end piece (omega arith) (λ k l. ap (λ l. get_or l k 0) whole)) (some_none piece (omega arith)) ∙ ap (λ l. piece ∷ lines l) (sym nothing)
        where
          some_none : (l : List ℕ) → 0 < length l → none_of l ≡ false
          some_none [] h = absurd (omega arith)
          some_none (c ∷ l) h = refl

pub first_line : (t rest : List ℕ) (piece : Bor (List ℕ)) (stripped : Option (Bor (List ℕ))) (i : ℕ) → 0 < length t → t ≡ piece.now ++ rest → length piece.now ≡ min (i + 1) (length t) → IsFirstMatchOrLen (λ c. eqb c 10) t i → MatchOption stripped ((front : List ℕ) → piece.now ≡ front ++ 10 ∷ [] → ⊥) (λ x. piece.now ≡ x.now ++ 10 ∷ []) → lines t ≡ (unwrap_or stripped piece).now ∷ lines rest
first_line t rest piece None i some cut long first h = not_ended t piece.now rest i some cut long first h
first_line t rest piece (Some x) i some cut long first h = ended t piece.now rest i some cut long first x.now h

-- what came of the lines so far, and what is to come of the rest, is what comes of all
pub record Going (r : Rule) (file rest : List ℕ) (t : Table) : Type 0 where
  pub rows_left : vec_items t.rows ++ rows r (lines rest) ≡ rows r (lines file)
  pub lines_left : t.lines + length (lines rest) ≡ length (lines file)
  pub missed_left : vec_items t.missed ++ missed r (t.lines + 1) (lines rest) ≡ missed r 1 (lines file)
  pub bound : t.lines + length rest ≤ length file

module _ (r : Rule) (file : List ℕ) where
  pub gone_through : (rest : List ℕ) (t : Table) → Going r file rest t → length rest ≤ 0 → TableOf r (lines file) t
  unfolding lines_from missed
  gone_through [] t g h = record {
    all_rows = sym (append-nil (vec_items t.rows)) ∙ g.rows_left;
    all_lines = let l = g.lines_left in omega arith;
    all_missed = sym (append-nil (vec_items t.missed)) ∙ g.missed_left;
  }
  gone_through (c ∷ rest) t g h = absurd (omega arith)

  pub going_on : (rest line then : List ℕ) (t u : Table) → Going r file rest t → lines rest ≡ line ∷ lines then → length then < length rest → OneMore r line t u → Going r file then u
  unfolding missed
  going_on rest line then t u g here less m =
      let number = m.its_number in
      let old = g.lines_left in
      let count = ap length here in
      let within = g.bound in
      record {
        rows_left = ap (λ l. l ++ rows r (lines then)) m.its_row ∙ append_assoc (vec_items t.rows) (row r line) (rows r (lines then)) ∙ ap (λ ls. vec_items t.rows ++ rows r ls) (sym here) ∙ g.rows_left;
        lines_left = omega arith;
        missed_left = ap₂ (λ l k. l ++ missed r (k + 1) (lines then)) m.its_miss number ∙ append_assoc (vec_items t.missed) (miss (t.lines + 1) line (made_of r line)) (missed r (t.lines + 1 + 1) (lines then))
            ∙ ap (λ ls. vec_items t.missed ++ missed r (t.lines + 1) ls) (sym here) ∙ g.missed_left;
        bound = omega arith;
      }
