-- What a view reads of a problem that was laid down.
use Rattle.std.proofs.Common.{◌≡◌, ℕ, ◌≤◌, min, true, ◌≢◌, List, length, get_or, take, drop, set, ap, ◌∙◌, arith, length-set}
use Rattle.std.proofs.lemmas.List.{length-take-le, get_or-set_same, get_or-set_other}
use Rattle.rules.specs.Lists.{every}
use Rattle.rules.specs.Examples.{Example}
use Rattle.candidates.specs.Rows.{short_example}
use Rattle.candidates.specs.RowTable.{Table, table_for}
use Rattle.candidates.specs.Guide.{all_costs, guides_laid}
use Rattle.candidates.specs.Problem.{View, problem_size, view_of}
use Rattle.candidates.specs.LaidProblem.{texts_laid, problem_with, laid_problem}
use Rattle.candidates.proofs.FourParts.{part_long, four_long, texts_part, guide_part, table_part, head_number}
use Rattle.candidates.proofs.GuidesLaid.{guides_long}
use Rattle.candidates.proofs.SmallExamples.{short_at}
use Rattle.candidates.proofs.TableKept.{Fits, table_fits}
use Rattle.candidates.proofs.TextsLaid.{texts_long}

-- the view of a problem over a table
abbrev pub view_with : List Example → Table → List ℕ → View
view_with es t ns = record {
  examples = length es;
  rows = t.rows;
  texts = texts_laid es (length es) (take 1170 (drop 16 ns));
  guide = guides_laid (all_costs t.numbers t.rows) es (length es) (take 4680 (drop 1186 ns));
  table = t.numbers;
}

-- the head
module _ (h : List ℕ) (n r : ℕ) (size : length h ≡ 16) where
  abbrev counts : List ℕ
  counts = set (set h 0 n) 1 r

  counts_long : length counts ≡ 16
  counts_long = length-set (set h 0 n) 1 r ∙ length-set h 0 n ∙ size

  first_count : get_or counts 0 0 ≡ n
  first_count =
      let apart : ◌≢◌ {A = ℕ} 0 1 = omega arith in
      get_or-set_other (set h 0 n) 1 0 r 0 apart ∙ get_or-set_same h 0 n 0 (omega arith)

  second_count : get_or counts 1 0 ≡ r
  second_count = get_or-set_same (set h 0 n) 1 r 0 (omega (arith, length-set h 0 n))

module _ (es : List Example) (few : length es ≤ 8) (short : every short_example es ≡ true) (ns : List ℕ) (size : length ns ≡ 109866) where
  module _ (t : Table) (fits : Fits t) where
    abbrev H : List ℕ
    H = set (set (take 16 ns) 0 (length es)) 1 t.rows

    abbrev T : List ℕ
    T = (view_with es t ns).texts

    abbrev G : List ℕ
    G = (view_with es t ns).guide

    front_long : length (take 16 ns) ≡ 16
    front_long = length-take-le 16 ns (omega arith)

    h_long : length H ≡ 16
    h_long = counts_long (take 16 ns) (length es) t.rows front_long

    t_long : length T ≡ 1170
    t_long =
        let room = part_long ns size 16 1170 (omega arith) in
        texts_long es (short_at es short) (take 1170 (drop 16 ns)) (length es) (omega arith) (omega arith) ∙ room

    g_long : length G ≡ 4680
    g_long =
        let room = part_long ns size 1186 4680 (omega arith) in
        guides_long (all_costs t.numbers t.rows) es (take 4680 (drop 1186 ns)) (length es) (omega arith) (λ e l. (short_at es short e l).1) ∙ room

    with_long : length (problem_with es t ns) ≡ 109866
    with_long = four_long H T G t.numbers h_long t_long g_long fits.0

    examples_read : min (get_or (problem_with es t ns) 0 0) 8 ≡ length es
    examples_read =
        let a = head_number H T G t.numbers h_long t_long g_long fits.0 0 (omega arith) in
        let b = first_count (take 16 ns) (length es) t.rows front_long in
        omega arith

    rows_read : min (get_or (problem_with es t ns) 1 0) 6500 ≡ t.rows
    rows_read =
        let a = head_number H T G t.numbers h_long t_long g_long fits.0 1 (omega arith) in
        let b = second_count (take 16 ns) (length es) t.rows front_long in
        omega (arith, fits.1)

    view_is : view_of (problem_with es t ns) ≡ view_with es t ns
    view_is =
        let P : List ℕ = problem_with es t ns in
        ap (λ n. record { examples = n; rows = min (get_or P 1 0) 6500; texts = take 1170 (drop 16 P); guide = take 4680 (drop 1186 P); table = take 104000 (drop 5866 P) }) examples_read
        ∙ ap (λ n. record { examples = length es; rows = n; texts = take 1170 (drop 16 P); guide = take 4680 (drop 1186 P); table = take 104000 (drop 5866 P) }) rows_read
        ∙ ap (λ l. record { examples = length es; rows = t.rows; texts = l; guide = take 4680 (drop 1186 P); table = take 104000 (drop 5866 P) }) (texts_part H T G t.numbers h_long t_long g_long fits.0)
        ∙ ap (λ l. record { examples = length es; rows = t.rows; texts = T; guide = l; table = take 104000 (drop 5866 P) }) (guide_part H T G t.numbers h_long t_long g_long fits.0)
        ∙ ap (λ l. record { examples = length es; rows = t.rows; texts = T; guide = G; table = l }) (table_part H T G t.numbers h_long t_long g_long fits.0)

  module _ (asked : List (List ℕ)) where
    fits : Fits (table_for es asked (take 104000 (drop 5866 ns)))
    fits = table_fits es asked (take 104000 (drop 5866 ns)) (part_long ns size 5866 104000 (omega arith))

    -- as many numbers as before
    pub laid_long : length (laid_problem es asked ns) ≡ problem_size
    unfolding laid_problem
    laid_long = with_long (table_for es asked (take 104000 (drop 5866 ns))) fits

    pub laid_view : view_of (laid_problem es asked ns) ≡ view_with es (table_for es asked (take 104000 (drop 5866 ns))) ns
    unfolding laid_problem
    laid_view = view_is (table_for es asked (take 104000 (drop 5866 ns))) fits
