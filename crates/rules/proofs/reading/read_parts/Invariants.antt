use Rattle.std.proofs.Common.{vec_items}
use Rattle.rules.specs.Values.{the_parts}
use Rattle.rules.proofs.ReadsParts.{SoFar}
use Rattle.rules.proofs.reading.read_parts.Given as goal

abbrev pub invariant-loop : goal.invariant-loop
invariant-loop l = SoFar l.count l.counter l.bytes (the_parts (vec_items l.parts)) l.rest
