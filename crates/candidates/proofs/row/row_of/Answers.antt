use Rattle.std.proofs.Common.{◌∙◌}
use Rattle.candidates.proofs.RowWritten.{row_written}
use Rattle.candidates.proofs.row.row_of.Goals as goal

pub returns : goal.returns
returns c =
    let there = c.in_ok-at.ensures in (
      there.0,
      row_written _ _ _ _ _ _ _ (c.copy_from_slice.ensures.after ∙ c.place_numbers.ensures) c.cost.ensures.value
          (c.copy_from_slice-2.ensures.after ∙ there.1) c.asked_position.ensures,
    )
