use Rattle.std.proofs.Common.{arith}
use Rattle.std.proofs.lemmas.Grind.{common_steps}
use Rattle.console.proofs.Appends.{flat_end, parts_whole}
use Rattle.console.proofs.print.push_parts.Goals as goal

pub returns : goal.returns
returns c =
    let whole = parts_whole c.args.parts.now c.first-item.result c.in-len1-up.len_at_least c.first-item.is in
    grind (arith, common_steps, flat_end, whole)
