use Rattle.std.proofs.Common.{◌≡◌, ◌-◌, vec_items, rules}
use Rattle.rules.specs.Values.{the_parts}
use Rattle.console.specs.Reading.{read_parts, read_end}
use Rattle.console.proofs.StepsRead.{parts_turn, parts_end}
use Rattle.console.proofs.read.read_parts.Goals as goal
use Rattle.console.proofs.read.read_parts.Goals.{else-loop-test, then-loop-test+in_default-strip}

pub returns-in_err-part : goal.returns-in_err-part
returns-in_err-part c = let turn = parts_turn 7 c.loop.counter (the_parts (vec_items c.loop.parts)) c.loop.rest.now c.loop-test.true in search rules

pub returns : goal.returns
returns c =
    let so_far = the_parts (vec_items c.loop.parts) in
    let end : read_parts (7 - c.loop.counter) so_far c.loop.rest.now ≡ read_end so_far c.loop.rest.now = elim c.loop-test.branch [
      | else-loop-test w ↦ parts_end 7 c.loop.counter so_far c.loop.rest.now w.loop-test.false
      | then-loop-test+in_default-strip w ↦ let turn = parts_turn 7 c.loop.counter so_far c.loop.rest.now w.loop-test.true in search rules
    ] in
    search rules
