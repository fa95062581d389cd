-- What is least so far, and what is least of the rest, give the whole.
use Rattle.std.proofs.Common.{◌≡◌}
use Rattle.std.specs.Iterator.Adapters.{zip_first, zip_second}
use Rattle.std.specs.Slice.Iter.{iter_rest, chunks_exact_rest, chunks_exact_size}
use Rattle.candidates.proofs.LeastSumSoFar.{LeastSoFar}
use Rattle.candidates.proofs.guide.Steps.least.Given as goal

abbrev pub invariant-loop-weight : goal.invariant-loop-weight
invariant-loop-weight l = record {
  nine : chunks_exact_size (zip_second l.weight-iterator) ≡ 9;
  so_far : LeastSoFar l.k l.self.weights.now l.self.behind.now (iter_rest (zip_first l.weight-iterator)) (chunks_exact_rest (zip_second l.weight-iterator)) l.least;
}
