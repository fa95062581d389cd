use Rattle.rules.proofs.MakesInto.{so_far, Measured}
use Rattle.rules.proofs.makes.measure.Given as goal

abbrev pub invariant-loop-part : goal.invariant-loop-part
invariant-loop-part l = Measured (so_far l.parts l.text l.part-index) l.total
