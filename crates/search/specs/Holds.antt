-- A machine that a program holds, as the one that the definitions speak of. Assumes nothing: these are definitions.
use Rattle.search.specs.Steps.{Held}
use Rattle.search.specs.declared.machine.Machine.{Machine}

abbrev pub the_held : Machine → Held
the_held x = record { status = x.status; budget = x.budget; short = x.short; depth = x.depth; frames = x.frames }
