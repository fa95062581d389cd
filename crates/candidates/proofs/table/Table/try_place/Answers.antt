use Rattle.candidates.specs.Tables.{examples_of, asked_of, the_table}
use Rattle.candidates.proofs.RowAdded.{becomes_still, becomes_as}
use Rattle.candidates.proofs.TriedInTurn.{tried_there, tried_missing}
use Rattle.candidates.proofs.table.Table.try_place.Goals as goal

pub returns-in-Some : goal.returns-in-Some
returns-in-Some c = let there = c.in-Some.ensures in becomes_as _ _ _ _ c.add.ensures
    (tried_there (examples_of c.args.question) (asked_of c.args.question) (the_table c.args.self.now) _ _ there.0 there.1)

pub returns-in_default : goal.returns-in_default
returns-in_default c = becomes_still _ _ (tried_missing (examples_of c.args.question) (asked_of c.args.question) (the_table c.args.self.now) _ c.in_default.ensures)
