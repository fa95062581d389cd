use Rattle.std.proofs.Common.{◌≡◌}
use Rattle.rules.specs.Writing.{the_writing, lender, wrote}
use Rattle.rules.proofs.SpellsParts.{spelling}
use Rattle.rules.proofs.room.Writer.put_parts.Given as goal

abbrev pub invariant-loop-part : goal.invariant-loop-part
invariant-loop-part l = record {
  same_reference : lender l.self ≡ lender l.initial.self;
  wrote : the_writing l.self ≡ wrote (the_writing l.initial.self) (spelling l.parts l.part-index);
}
