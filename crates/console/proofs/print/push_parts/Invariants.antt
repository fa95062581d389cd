use Rattle.std.proofs.Common.{◌≡◌, ◌++◌, drop, vec_items}
use Rattle.rules.specs.Lists.{flat}
use Rattle.rules.specs.Values.{the_part}
use Rattle.console.specs.Text.{later_text}
use Rattle.console.proofs.print.push_parts.Given as goal

-- what is printed and what is left to print make the whole
abbrev pub invariant-loop-part : goal.invariant-loop-part
invariant-loop-part l =
    vec_items l.out ++ flat (λ p. later_text (the_part p)) (drop l.part-index l.later) ≡ vec_items l.initial.out ++ flat (λ p. later_text (the_part p)) l.later
