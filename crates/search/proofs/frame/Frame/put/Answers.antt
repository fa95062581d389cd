-- The state and the two numbers behind it are the numbers of the frame.
use Rattle.std.proofs.Common.{◌≡◌, length, refl, arith, rules}
use Rattle.search.proofs.FramesInMemory.{two_pieces}
use Rattle.search.proofs.frame.Frame.put.Goals as goal

pub returns-clause-laid : goal.returns-clause-laid
returns-clause-laid c =
    let nine : length c.args.self.state ≡ 9 = search rules in
    two_pieces c.args.memory.now _ _ _ _ c.args.at nine c.copy_from_slice.ensures.after c.copy_from_slice-2.ensures.after refl (omega (arith, c.requires))
