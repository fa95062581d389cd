use Rattle.std.proofs.Common.{◌≡◌, ◌+◌, ◌-◌, ◌*◌, ap, ◌∙◌, rules, arith}
use Rattle.std.specs.List.{copy_within}
use Rattle.candidates.specs.RowTable.{with_row}
use Rattle.candidates.proofs.RowAdded.{table}
use Rattle.candidates.proofs.RowsMoved.{copied_down}
use Rattle.candidates.proofs.table.Table.put_in_place_of.Goals as goal

pub returns : goal.returns
returns c =
    let size = c.args.self.now.size in
    let few = c.args.self.now.few in
    let numbers = c.args.self.now.numbers.now in
    let moved : c.copy_within.new.self ≡ copy_within numbers (16 * (c.args.i + 1)) (16 * c.args.self.now.rows) (16 * c.args.i) = search rules in
    record {
      same_reference = c.put.ensures.same_reference;
      is = c.put.ensures.is ∙ ap (λ l. table (with_row l (c.args.self.now.rows - 1) c.args.row.now) c.args.self.now.rows)
          (moved ∙ copied_down numbers c.args.i c.args.self.now.rows c.requires.row (omega arith));
    }
