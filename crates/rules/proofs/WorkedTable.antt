-- The worked table is right.
use Rattle.std.proofs.Common.{refl}
use Rattle.rules.specs.Lists.{same, up_to, backwards}
use Rattle.rules.specs.Places.{spot}
use Rattle.rules.specs.Rules.{part_of, with_made, makes, is_made, place_cost, part_cost, cost, a_place, a_part}
use Rattle.rules.specs.Worked.{example, WorkedTable}
use Rattle.rules.proofs.BytesComeFrom.{no_rule_does}

pub worked_table_lem : WorkedTable
unfolding same up_to backwards spot part_of with_made makes is_made place_cost part_cost cost a_place a_part
worked_table_lem = (refl, no_rule_does 120 (example "a" "x") (example "b" "y") refl refl refl, refl, refl, refl)
