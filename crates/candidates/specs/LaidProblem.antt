-- A problem laid down over some numbers: what is not said here stays as it was. Assumes nothing: these are definitions.
use Rattle.std.specs.Prelude.{ℕ, zero, suc, ◌+◌, ◌*◌, List, ◌++◌, length, take, drop, slice_set}
use Rattle.rules.specs.Examples.{Example}
use Rattle.candidates.specs.Rows.{given_of, wanted_of}
use Rattle.candidates.specs.RowTable.{Table, table_for}
use Rattle.candidates.specs.Guide.{all_costs, guides_laid}

-- ns with a text laid down from a position on
abbrev pub with_text : List ℕ → ℕ → List ℕ → List ℕ
with_text ns at t = take at ns ++ (t ++ drop (at + length t) ns)

-- ns with the texts of example e: of its 130 numbers two are their lengths, the given one is laid down from number 2 on and the wanted one from number 66 on
abbrev pub with_example : List ℕ → ℕ → List ℕ → List ℕ → List ℕ
with_example ns e given wanted = with_text (with_text (slice_set (slice_set ns (130 * e) (length given)) (130 * e + 1) (length wanted)) (130 * e + 2) given) (130 * e + 66) wanted

-- the texts of the first m examples
unfoldable pub texts_laid : List Example → ℕ → List ℕ → List ℕ
texts_laid es zero ns = ns
texts_laid es (suc m) ns = with_example (texts_laid es m ns) m (given_of es m) (wanted_of es m)

-- how many examples and rows there are, the texts, the guide over the costs in a table, and the table
abbrev pub problem_with : List Example → Table → List ℕ → List ℕ
problem_with es t ns =
    slice_set (slice_set (take 16 ns) 0 (length es)) 1 t.rows
    ++ (texts_laid es (length es) (take 1170 (drop 16 ns)) ++ (guides_laid (all_costs t.numbers t.rows) es (length es) (take 4680 (drop 1186 ns)) ++ t.numbers))

-- a problem over the table for its examples
unfoldable pub laid_problem : List Example → List (List ℕ) → List ℕ → List ℕ
laid_problem es asked ns = problem_with es (table_for es asked (take 104000 (drop 5866 ns))) ns
