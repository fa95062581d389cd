use Rattle.std.proofs.Common.{arith, ap, ◌∙◌, take}
use Rattle.candidates.proofs.RowsRead.{fewer_chunks}
use Rattle.candidates.proofs.rows.Rows.as_rows.Goals as goal

pub returns-clause-value : goal.returns-clause-value
returns-clause-value c = let size = c.args.self.size in ap (take c.args.self.count) c.as_chunks.ensures.front ∙ fewer_chunks _ _ _ (omega arith)
