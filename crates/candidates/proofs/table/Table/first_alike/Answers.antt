use Rattle.std.proofs.Common.{rules, tests}
use Rattle.std.proofs.lemmas.Iterator.{YieldsList-from_slice}
use Rattle.std.proofs.lemmas.Iterator.Search.{position_from_yields_List}
use Rattle.candidates.specs.RowTable.{alike}
use Rattle.candidates.proofs.RowsRead.{first_alike_found}
use Rattle.candidates.proofs.table.Table.first_alike.Goals as goal

pub returns : goal.returns
returns c =
    first_alike_found _ _ _ _ _ c.as_rows.ensures.value
    (position_from_yields_List (λ o. alike o c.args.row.now) _ _ c.position.result c.position.ensures.ran (YieldsList-from_slice c.as_rows.result.now cc)
    (λ x b q k. search (rules, tests)))
