-- Each way in which a row is added, or not, is as `added` says.
use Rattle.std.proofs.Common.{◌≡◌, ℕ, ◌+◌, ◌<◌, ◌≤◌, ltb, List, get_or, sym, refl, ap, ◌∙◌, arith}
use Rattle.std.proofs.lemmas.Bool.{lt-ltb, le-ltb}
use Rattle.rules.specs.Lists.{pick}
use Rattle.candidates.specs.declared.table.Table as declared
use Rattle.candidates.specs.Tables.{the_table, Becomes}
use Rattle.candidates.specs.RowTable.{Table, row_number, with_row, alike_at, in_place_of, pushed, added, added_at, most_rows}

abbrev pub table : List ℕ → ℕ → Table
table t rows = record { numbers = t; rows = rows }

-- a table that stays as it was, and one that became what another word says too
pub becomes_still : (was : declared.Table) (t : Table) → the_table was ≡ t → Becomes was was t
becomes_still was t e = record { same_reference = refl; is = e }

pub becomes_as : (was now : declared.Table) (t u : Table) → Becomes was now t → t ≡ u → Becomes was now u
becomes_as was now t u b e = record { same_reference = b.same_reference; is = b.is ∙ e }

module _ (t : Table) (x : List ℕ) where
  module _ (i : ℕ) (e : alike_at t.numbers x 0 t.rows ≡ i) (h : i < t.rows) where
    among : added t x ≡ pick (ltb (get_or x 5 0) (row_number t.numbers i 5)) (in_place_of t i x) t
    unfolding added
    among = ap (added_at t x) e ∙ ap (λ b. pick b (pick (ltb (get_or x 5 0) (row_number t.numbers i 5)) (in_place_of t i x) t) (pushed t x)) (lt-ltb i t.rows h)

    pub added_instead : get_or x 5 0 < row_number t.numbers i 5 → in_place_of t i x ≡ added t x
    added_instead k = sym (among ∙ ap (λ b. pick b (in_place_of t i x) t) (lt-ltb _ _ k))

    pub added_dearer : row_number t.numbers i 5 ≤ get_or x 5 0 → t ≡ added t x
    added_dearer k = sym (among ∙ ap (λ b. pick b (in_place_of t i x) t) (le-ltb _ _ k))

  module _ (e : alike_at t.numbers x 0 t.rows ≡ t.rows) where
    behind : added t x ≡ pushed t x
    unfolding added
    behind =
        ap (added_at t x) e ∙ ap (λ b. pick b (pick (ltb (get_or x 5 0) (row_number t.numbers t.rows 5)) (in_place_of t t.rows x) t) (pushed t x))
        (le-ltb t.rows t.rows (omega arith))

    pub added_behind : t.rows < most_rows → table (with_row t.numbers t.rows x) (t.rows + 1) ≡ added t x
    added_behind k = sym (behind ∙ ap (λ b. pick b (table (with_row t.numbers t.rows x) (t.rows + 1)) t) (lt-ltb _ _ k))

    pub added_full : most_rows ≤ t.rows → t ≡ added t x
    added_full k = sym (behind ∙ ap (λ b. pick b (table (with_row t.numbers t.rows x) (t.rows + 1)) t) (le-ltb _ _ k))
