-- The parts that were written to hold what is laid down.
use Rattle.std.proofs.Common.{refl, sym}
use Rattle.rules.proofs.EachElement.{each_length}
use Rattle.candidates.specs.Values.{the_example, the_examples, the_asked}
use Rattle.candidates.proofs.ProblemWritten.{problem_written}
use Rattle.candidates.proofs.layout.lay.Goals as goal

pub returns : goal.returns
returns c =
    problem_written c.args.numbers.now _ _ _ _ _ _ c.requires.size c.split_at_mut-head.ensures.front c.split_at_mut-head.ensures.back c.split_at_mut-texts.ensures.front c.split_at_mut-texts.ensures.back
    c.split_at_mut-guide.ensures.front c.split_at_mut-guide.ensures.back (the_examples c.args.examples.now)
    (the_asked c.args.asked) _ c.lay_rows-count.result _ _ _ _ (sym (each_length the_example c.args.examples.now))
    c.lay_texts.ensures c.lay_rows-count.ensures.table refl c.lay_guides.ensures
