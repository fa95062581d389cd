-- A problem that a program holds, as the view that the definitions speak of. Assumes nothing: these are definitions.
use Rattle.candidates.specs.Problem.{View}
use Rattle.candidates.specs.declared.problem.Problem.{Problem}

abbrev pub the_view : Problem → View
the_view p = record { examples = p.examples; rows = p.rows.count; texts = p.texts.now; guide = p.guide.now; table = p.rows.numbers.now }
