use Rattle.std.proofs.Common.{◌≡◌, ◌++◌, drop, vec_items}
use Rattle.rules.specs.Lists.{flat}
use Rattle.console.specs.Text.{shown}
use Rattle.console.proofs.print.push_quoted.Given as goal

-- what is printed and what is left to print make the whole
abbrev pub invariant-loop-byte : goal.invariant-loop-byte
invariant-loop-byte l = vec_items l.out ++ flat (shown l.high) (drop l.byte-index l.bytes) ≡ vec_items l.initial.out ++ flat (shown l.high) l.bytes
