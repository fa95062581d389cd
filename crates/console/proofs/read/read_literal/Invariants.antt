use Rattle.std.proofs.Common.{◌≡◌, ◌-◌, vec_items}
use Rattle.console.specs.Reading.{read_bytes, read_literal}
use Rattle.console.proofs.read.read_literal.Given as goal

-- what is left is to be read as the whole is
abbrev pub invariant-loop : goal.invariant-loop
invariant-loop l = read_bytes (63 - l.counter) (vec_items l.bytes) l.rest ≡ read_literal l.text
