-- The four numbers of the head, and behind them the frames one by one.
use Rattle.std.proofs.Common.{◌≡◌, ◌<◌, drop, length, arith, length-append, length-drop, rules}
use Rattle.std.proofs.lemmas.List.{get_or_default}
use Rattle.search.proofs.FramesInMemory.{frames_more}
use Rattle.search.proofs.machine.Machine.store.Goals as goal

pub loop-i-preserved : goal.loop-i-preserved
loop-i-preserved c =
    let eight : length c.args.self.now.frames ≡ 8 = search rules in
    let below : c.loop-i.i < 8 = c.loop-i-test.true in
    let long = length-append c.copy_from_slice.new.self (drop 4 c.args.memory.now) in
    let rest = length-drop 4 c.args.memory.now in
    frames_more _ _ _ c.args.self.now.frames c.loop-i.i _ c.loop-i.invariant c.put.ensures.laid c.put.ensures.nine (omega (arith, c.requires)) (omega arith) (get_or_default c.args.self.now.frames c.loop-i.i _ _ (omega arith))
