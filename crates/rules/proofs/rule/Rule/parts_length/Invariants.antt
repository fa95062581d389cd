use Rattle.rules.proofs.SumOverParts.{Adds, spelled_length}
use Rattle.rules.proofs.rule.Rule.parts_length.Given as goal

abbrev pub invariant-loop-part : goal.invariant-loop-part
invariant-loop-part l = Adds spelled_length 66 l.parts l.part-index l.total
