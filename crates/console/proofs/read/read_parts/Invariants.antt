use Rattle.std.proofs.Common.{◌≡◌, ◌-◌, vec_items}
use Rattle.rules.specs.Values.{the_parts}
use Rattle.console.specs.Reading.{read_parts, read_rule}
use Rattle.console.proofs.read.read_parts.Given as goal

-- what is left is to be read as the whole is
abbrev pub invariant-loop : goal.invariant-loop
invariant-loop l = read_parts (7 - l.counter) (the_parts (vec_items l.parts)) l.rest ≡ read_rule l.text
