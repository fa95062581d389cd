-- The texts of the examples so far have been laid down.
use Rattle.std.proofs.Common.{◌≡◌}
use Rattle.candidates.specs.LaidProblem.{texts_laid}
use Rattle.candidates.specs.Tables.{examples_of}
use Rattle.candidates.proofs.texts.lay_texts.Given as goal

abbrev pub invariant-loop-e : goal.invariant-loop-e
invariant-loop-e l = l.out ≡ texts_laid (examples_of l.question) l.e l.initial.out
