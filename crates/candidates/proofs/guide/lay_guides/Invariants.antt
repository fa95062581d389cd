-- The guides of the examples so far have been laid down.
use Rattle.std.proofs.Common.{◌≡◌}
use Rattle.candidates.specs.Guide.{all_costs, guides_laid}
use Rattle.candidates.specs.Tables.{examples_of}
use Rattle.candidates.proofs.guide.lay_guides.Given as goal

abbrev pub invariant-loop-e : goal.invariant-loop-e
invariant-loop-e l = l.out ≡ guides_laid (all_costs l.rows.numbers.now l.rows.count) (examples_of l.question) l.e l.initial.out
