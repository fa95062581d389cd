-- A rule that a program holds, as the rule that the definitions speak of. Assumes nothing: these are definitions.
use Rattle.std.specs.Prelude.{vec_items}
use Rattle.rules.specs.Rules as rules
use Rattle.rules.specs.Values.{the_parts}
use Rattle.rules.specs.declared.rule.Rule.{Rule}

-- Apart from the other values, since the declaration of the type cites those.
abbrev pub the_rule : Rule → rules.Rule
the_rule r = the_parts (vec_items r.parts)
