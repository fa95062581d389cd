-- What is written is the spelling of the candidate that was chosen, or nothing.
use Rattle.std.proofs.Common.{sym, refl, ap, ◌∙◌, arith}
use Rattle.rules.specs.Writing.{Writing, the_writing, wrote}
use Rattle.rules.proofs.WrittenBytes.{wrote_none}
use Rattle.candidates.specs.Viewed.{the_view}
use Rattle.candidates.proofs.CandidateSpelled.{cut_bound, spelled_none}
use Rattle.candidates.proofs.problem.Problem.put_candidate.Goals as goal

pub returns-then-index-count-clause-writes : goal.returns-then-index-count-clause-writes
returns-then-index-count-clause-writes c =
    let none = spelled_none (the_view c.args.self) c.args.state.now c.args.index (omega arith) in
    record { same_reference = refl; wrote = wrote_none _ ∙ ap (wrote (the_writing c.args.writer.now)) (sym none) }

pub put_cut-requires-clause-room : goal.put_cut-requires-clause-room
put_cut-requires-clause-room c = omega (arith, c.requires, cut_bound (the_view c.args.self) c.in-Cut.from c.in-Cut.to)

pub returns-in-Cut-clause-bound : goal.returns-in-Cut-clause-bound
returns-in-Cut-clause-bound c =
    let long = cut_bound (the_view c.args.self) c.in-Cut.from c.in-Cut.to in
    let end = ap (λ (w : Writing). w.at) c.put_cut.ensures.wrote in
    omega arith
