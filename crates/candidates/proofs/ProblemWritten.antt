-- The parts that a problem's numbers are split in, each laid down, give the problem.
use Rattle.std.proofs.Common.{◌≡◌, ℕ, List, ◌++◌, length, take, drop, set, sym, ap, ◌∙◌, arith, length-drop}
use Rattle.std.proofs.lemmas.List.{take_all, drop-drop}
use Rattle.rules.specs.Examples.{Example}
use Rattle.candidates.specs.RowTable.{table_for}
use Rattle.candidates.specs.Guide.{all_costs, guides_laid}
use Rattle.candidates.specs.LaidProblem.{texts_laid, problem_with, laid_problem}

module _ (ns head r texts rest guide table : List ℕ) (size : length ns ≡ 109866) (h : head ≡ take 16 ns) (after : r ≡ drop 16 ns) (t : texts ≡ take 1170 r)
    (behind : rest ≡ drop 1170 r) (g : guide ≡ take 4680 rest) (b : table ≡ drop 4680 rest) where
  rest_is : rest ≡ drop 1186 ns
  rest_is = behind ∙ ap (drop 1170) after ∙ drop-drop 1170 16 ns

  guide_is : guide ≡ take 4680 (drop 1186 ns)
  guide_is = g ∙ ap (take 4680) rest_is

  table_is : table ≡ take 104000 (drop 5866 ns)
  table_is = b ∙ ap (drop 4680) rest_is ∙ drop-drop 4680 1186 ns ∙ sym (take_all 104000 (drop 5866 ns) (omega (arith, length-drop 5866 ns)))

  pub problem_written : (es : List Example) (asked : List (List ℕ)) (n rows : ℕ) (T G B : List ℕ) (css : List (List ℕ)) → n ≡ length es
      → T ≡ texts_laid es n texts → record { numbers = B; rows = rows } ≡ table_for es asked table
      → css ≡ all_costs B rows → G ≡ guides_laid css es n guide → set (set head 0 n) 1 rows ++ (T ++ (G ++ B)) ≡ laid_problem es asked ns
  unfolding laid_problem
  problem_written es asked n rows T G B css many texts_are table_as costs guide_as =
      ap (λ l. set (set l 0 n) 1 rows ++ (T ++ (G ++ B))) h
      ∙ ap (λ l. set (set (take 16 ns) 0 n) 1 rows ++ (l ++ (G ++ B))) (texts_are ∙ ap (texts_laid es n) (t ∙ ap (take 1170) after))
      ∙ ap (λ l. set (set (take 16 ns) 0 n) 1 rows ++ (texts_laid es n (take 1170 (drop 16 ns)) ++ (l ++ B)))
      (guide_as ∙ ap (λ l. guides_laid l es n guide) costs ∙ ap (guides_laid (all_costs B rows) es n) guide_is)
      ∙ ap (λ m. set (set (take 16 ns) 0 m) 1 rows ++ (texts_laid es m (take 1170 (drop 16 ns)) ++ (guides_laid (all_costs B rows) es m (take 4680 (drop 1186 ns)) ++ B)))
      many
      ∙ ap (λ k. problem_with es k ns) (table_as ∙ ap (table_for es asked) table_is)
