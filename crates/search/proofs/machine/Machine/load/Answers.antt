-- The eight frames are those that lie in memory one behind the other.
use Rattle.std.proofs.Common.{◌+◌, ◌*◌, drop, ◌∙◌, rules}
use Rattle.search.specs.Memory.{frame_from, loaded}
use Rattle.search.specs.Steps.{no_frame}
use Rattle.search.proofs.ArraysMade.{made_from}
use Rattle.search.proofs.FramesInMemory.{frames_are, held_same}
use Rattle.search.proofs.machine.Machine.load.Goals as goal

pub returns : goal.returns
unfolding loaded
returns c =
    held_same c.into.ensures c.min.ensures c.min-2.ensures c.min-3.ensures
    (made_from _ (λ i. frame_from (drop (4 + 11 * i) c.args.memory.now)) _ (λ i y f' k. (search rules, search rules)) c.from_fn.result 8 no_frame c.from_fn.ensures.items ∙ frames_are c.args.memory.now)
