-- The candidate is spelled as its number says.
use Rattle.std.proofs.Common.{◌∙◌, arith}
use Rattle.candidates.specs.Viewed.{the_view}
use Rattle.candidates.proofs.CandidateSpelled.{literal_is, cut_is}
use Rattle.candidates.proofs.problem.Problem.candidate.Goals as goal

pub returns-then-index-literals-clause-spelled : goal.returns-then-index-literals-clause-spelled
returns-then-index-literals-clause-spelled c =
    literal_is (the_view c.args.self) c.args.state.now c.args.index _ _ c.wanted.ensures.value (omega arith) (omega arith)

pub returns-else-index-literals-clause-spelled : goal.returns-else-index-literals-clause-spelled
returns-else-index-literals-clause-spelled c =
    c.cut.ensures.spelled ∙ cut_is (the_view c.args.self) c.args.state.now c.args.index _ c.literals-literals.ensures.value (omega arith) (omega (arith, c.requires))
