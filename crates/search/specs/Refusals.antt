-- What is wrong with examples that a search can't be begun on. Assumes nothing: these are definitions.
use Rattle.std.specs.Prelude.{List, length, Some, None, Option, nat_lt}
use Rattle.rules.specs.Lists.{pick}
use Rattle.rules.specs.Examples.{Example}
use Rattle.candidates.specs.Rows.{small_examples}
use Rattle.search.specs.declared.refusal.Refusal.{Refusal}
use Rattle.search.specs.declared.refusal.Refusal.TheVariants.{TooMany, TooLong}

-- nothing, if there are up to eight, of texts of up to 64 bytes
abbrev pub refusal_of : List Example → Option Refusal
refusal_of es = pick (small_examples es) None (pick (nat_lt 8 (length es)) (Some TooMany) (Some TooLong))
