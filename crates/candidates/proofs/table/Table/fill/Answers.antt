use Rattle.std.proofs.Common.{ap, ◌∙◌}
use Rattle.rules.specs.Lists.{each}
use Rattle.rules.specs.Values.{kind_number}
use Rattle.candidates.specs.Places.{kinds_in}
use Rattle.candidates.proofs.PlacesTried.{all_places}
use Rattle.candidates.proofs.table.Table.fill.Goals as goal

pub returns : goal.returns
returns c =
    let kinds = ap (each kind_number) c.as_slice.ensures.value ∙ c.kinds_in-kinds.ensures ∙ ap kinds_in c.first_given.ensures in
    all_places c.args.question _ _ _ _ _ kinds c.try_counted.ensures c.try_kinds.ensures
