use Rattle.std.proofs.Common.{rules, tests, arith}
use Rattle.std.proofs.lemmas.Iterator.{YieldsList-from_slice}
use Rattle.std.proofs.lemmas.Iterator.Search.{all_from_yields_List}
use Rattle.candidates.specs.Rows.{small_example}
use Rattle.candidates.specs.Values.{the_example}
use Rattle.candidates.proofs.SmallInTurn.{few_small}
use Rattle.candidates.proofs.small.are_small.Goals as goal

pub returns-then-examples-le-MOST_EXAMPLES : goal.returns-then-examples-le-MOST_EXAMPLES
returns-then-examples-le-MOST_EXAMPLES c =
    few_small c.args.examples.now c.all.result (omega arith)
    (all_from_yields_List (λ e. small_example (the_example e)) _ _ c.all.result c.all.ensures.ran (YieldsList-from_slice c.args.examples.now cc)
    (λ x b q k. search (rules, tests)))
