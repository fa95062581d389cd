use Rattle.std.specs.Slice.Iter.{split_inclusive_rest}
use Rattle.rules.specs.Held.{the_rule}
use Rattle.console.proofs.LinesGoneThrough.{Going}
use Rattle.console.proofs.rows.carry_out.Given as goal

abbrev pub invariant-loop-line : goal.invariant-loop-line
invariant-loop-line l = record {
  can : (goal.iterator-loop-line).can_next l.line-iterator;
  finite : (goal.iterator-loop-line).is_finite l.line-iterator;
  going : Going (the_rule l.rule) l.file (split_inclusive_rest l.line-iterator) l.table;
}
