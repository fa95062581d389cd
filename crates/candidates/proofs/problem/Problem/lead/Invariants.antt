use Rattle.std.proofs.Common.{◌≡◌, true, length}
use Rattle.candidates.specs.Looked.{pieces}
use Rattle.candidates.specs.Problem.{all_go, all_moved}
use Rattle.candidates.specs.Viewed.{the_view}
use Rattle.candidates.proofs.problem.Problem.lead.Given as goal

-- the examples so far go on, and their positions have been moved
abbrev pub invariant-loop-e : goal.invariant-loop-e
invariant-loop-e l =
    (l.next ≡ all_moved (pieces (the_view l.self) l.candidate) l.e l.state)
    × (all_go (the_view l.self) (pieces (the_view l.self) l.candidate) l.e l.state ≡ true) × (length l.next ≡ 9)
