use Rattle.std.proofs.Common.{◌≡◌}
use Rattle.candidates.specs.Values.{the_examples}
use Rattle.search.specs.Memory.{problem_in, loaded}
use Rattle.search.specs.Searched.{lent, the_memory}
use Rattle.search.proofs.FindsTheFirst.{UnderWay}
use Rattle.search.proofs.PiecesFall.{left_in}
use Rattle.search.proofs.search.Search.find.Given as goal

abbrev pub invariant-loop-ended : goal.invariant-loop-ended
invariant-loop-ended l = record {
  same_reference : (lent l.self).ghost_name ≡ (lent l.fn.self).ghost_name;
  under_way : UnderWay (the_examples l.examples) (the_memory l.fn.self) (the_memory l.self);
}

-- how many steps are left at most
abbrev pub decreases-loop-ended : goal.decreases-loop-ended
decreases-loop-ended l = left_in (the_examples l.examples) (problem_in (the_memory l.self)) (loaded (the_memory l.self))
