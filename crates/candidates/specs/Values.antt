-- The values of src/ as what the definitions speak of. Assumes nothing: these are definitions.
use Rattle.std.specs.Prelude.{ℕ, List, [], ◌∷◌, Some, None, Option}
use Rattle.std.specs.Borrow.{Bor}
use Rattle.rules.specs.Lists.{each}
use Rattle.rules.specs.Examples as examples
use Rattle.candidates.specs.declared.example.Example.{Example}

abbrev pub the_example : Example → examples.Example
the_example e = record { given = e.given.now; wanted = e.wanted.now }

abbrev pub the_examples : List Example → List examples.Example
the_examples es = each the_example es

-- the text that is asked about, if there is one
abbrev pub the_asked : Option (Bor (List ℕ)) → List (List ℕ)
the_asked None = []
the_asked (Some t) = t.now ∷ []
