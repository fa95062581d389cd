use Rattle.std.proofs.Common.{◌≡◌, eqb, take, drop, rules}
use Rattle.std.specs.Cmp.Lexicographic.{pointwise}
use Rattle.candidates.proofs.RowsRead.{told_alike}
use Rattle.candidates.proofs.row.lie_alike.Goals as goal

pub returns : goal.returns
returns c =
    let told : c.eq.result ≡ pointwise eqb (take 10 (drop 6 c.args.row.now)) (take 10 (drop 6 c.args.other.now)) = search rules in
    told_alike _ _ _ c.told-row c.told-other told
