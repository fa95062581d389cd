use Rattle.std.proofs.Common.{vec_items, rules}
use Rattle.console.proofs.StepsRead.{bytes_turn, bytes_end}
use Rattle.console.proofs.read.read_literal.Goals as goal

pub returns-in_err-byte : goal.returns-in_err-byte
returns-in_err-byte c = let turn = bytes_turn 63 c.loop.counter (vec_items c.loop.bytes) c.loop.rest.now c.loop-test.true in search rules

pub returns-in_err-rest : goal.returns-in_err-rest
returns-in_err-rest c = let end = bytes_end 63 c.loop.counter (vec_items c.loop.bytes) c.loop.rest.now c.loop-test.false in search rules
