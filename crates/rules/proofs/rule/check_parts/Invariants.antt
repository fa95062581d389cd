use Rattle.rules.proofs.FaultsTell.{Clear}
use Rattle.rules.proofs.rule.check_parts.Given as goal

abbrev pub invariant-loop-part : goal.invariant-loop-part
invariant-loop-part l = Clear l.parts l.part-index
