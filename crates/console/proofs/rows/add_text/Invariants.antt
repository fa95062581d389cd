use Rattle.std.proofs.Common.{◌≡◌, ◌++◌, drop, vec_items}
use Rattle.console.specs.Rows.{escaped}
use Rattle.console.proofs.rows.add_text.Given as goal

-- what is added and what is left to add make the whole
abbrev pub invariant-loop-byte : goal.invariant-loop-byte
invariant-loop-byte l = vec_items l.out ++ escaped (drop l.byte-index l.text) ≡ vec_items l.initial.out ++ escaped l.text
