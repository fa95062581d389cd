use Rattle.std.proofs.Common.{◌+◌, [], ap, ◌∙◌, arith}
use Rattle.candidates.specs.Tables.{the_table}
use Rattle.candidates.proofs.RowAdded.{table, becomes_still, becomes_as, added_instead, added_dearer, added_behind, added_full}
use Rattle.candidates.proofs.RowsRead.{number_in}
use Rattle.candidates.proofs.table.Table.add.Goals as goal

pub returns-then-row-as_rows : goal.returns-then-row-as_rows
returns-then-row-as_rows c =
    let found = c.in-Some.ensures in
    let costs = number_in c.args.self.now.numbers.now c.as_rows.result.now c.args.self.now.rows c.in-Some.i 5 [] c.as_rows.ensures.value found.1
    (omega arith) in
    becomes_as _ _ _ _ c.put_in_place_of.ensures
    (added_instead (the_table c.args.self.now) c.args.row.now c.in-Some.i found.0 found.1 (omega (arith, costs, c.if-row-as_rows.true)))

pub returns-else-row-as_rows : goal.returns-else-row-as_rows
returns-else-row-as_rows c =
    let found = c.in-Some.ensures in
    let costs = number_in c.args.self.now.numbers.now c.as_rows.result.now c.args.self.now.rows c.in-Some.i 5 [] c.as_rows.ensures.value found.1
    (omega arith) in
    becomes_still _ _ (added_dearer (the_table c.args.self.now) c.args.row.now c.in-Some.i found.0 found.1 (omega (arith, costs, c.if-row-as_rows.false)))

pub returns-then-self-lt-MOST_ROWS : goal.returns-then-self-lt-MOST_ROWS
returns-then-self-lt-MOST_ROWS c = record {
  same_reference = c.put.ensures.same_reference;
  is = ap (λ t. table t.numbers (t.rows + 1)) c.put.ensures.is
      ∙ added_behind (the_table c.args.self.now) c.args.row.now c.in_default.ensures c.if-self-lt-MOST_ROWS.true;
}

pub returns-else-self-lt-MOST_ROWS : goal.returns-else-self-lt-MOST_ROWS
returns-else-self-lt-MOST_ROWS c = becomes_still _ _ (added_full (the_table c.args.self.now) c.args.row.now c.in_default.ensures c.if-self-lt-MOST_ROWS.false)
