-- Each example's texts are laid down in their place.
use Rattle.std.proofs.Common.{refl, arith}
use Rattle.candidates.specs.LaidProblem.{texts_laid}
use Rattle.candidates.proofs.ExamplesRead.{example_short}
use Rattle.candidates.proofs.TextsLaid.{texts_goes_on}
use Rattle.candidates.proofs.texts.lay_texts.Goals as goal

pub loop-e-init : goal.loop-e-init
unfolding texts_laid
loop-e-init c = refl

pub loop-e-preserved : goal.loop-e-preserved
loop-e-preserved c = texts_goes_on c.args.question.examples.now c.args.out.now c.loop-e.out c.put_example.new.out c.loop-e.e _
    (omega arith) c.put_example.ensures c.loop-e.invariant

pub put_example-requires-clause-short : goal.put_example-requires-clause-short
put_example-requires-clause-short c = example_short c.args.question.examples.now c.loop-e.e _ c.loop-e-test.true c.args.question.short
