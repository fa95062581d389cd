-- A step and its column are taken from those that are left.
use Rattle.std.proofs.Common.{◌≡◌, ◌<◌, ◌⊎◌, inl, inr, length, ◌∙◌, arith}
use Rattle.std.specs.Iterator.Adapters.{zip_first, zip_second}
use Rattle.std.specs.Slice.Iter.{iter_rest, chunks_exact_rest}
use Rattle.candidates.proofs.LeastCosts.{min_smaller}
use Rattle.candidates.proofs.LeastSumSoFar.{least_starts, least_goes_on, least_ends}
use Rattle.candidates.proofs.guide.Steps.least.Goals as goal

pub loop-weight-init : goal.loop-weight-init
loop-weight-init c = record {
  nine = cc;
  so_far = least_starts c.args.k c.args.self.weights.now c.args.self.behind.now _ _ (cc) (cc) c.args.self.nine_behind_each;
}

pub loop-weight-preserved : goal.loop-weight-preserved
loop-weight-preserved c =
    let taken = c.in-Some.ensures.steps in
    let so = c.loop-weight.invariant in
    record {
      nine = taken.1.0 ∙ so.nine;
      so_far = least_goes_on c.args.k c.args.self.weights.now c.args.self.behind.now _ _ _ c.in-Some.column.now _ c.in-Some.weight.now _ _ c.requires taken.0 taken.1.1.0 (taken.1.1.1 ∙ so.nine) (c.min-least.ensures ∙ min_smaller _ _) so.so_far;
    }

pub returns : goal.returns
returns c =
    let so = c.loop-weight.invariant in
    let past : (length (iter_rest (zip_first c.loop-weight.weight-iterator)) ≡ 0) ⊎ (length (chunks_exact_rest (zip_second c.loop-weight.weight-iterator)) < 9) =
    elim c.in-None.ensures.steps [ inl h ↦ inl h.1.0 | inr h ↦ inr (omega (arith, h.1.1.0, so.nine)) ] in
    least_ends c.args.k c.args.self.weights.now c.args.self.behind.now _ _ _ past so.so_far
