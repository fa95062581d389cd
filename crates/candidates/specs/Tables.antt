-- Questions and the tables that a program fills for them, as those that the definitions speak of. Assumes nothing: these are definitions.
use Rattle.std.specs.Prelude.{◌≡◌, ℕ, ◌<◌, List, Option, MatchOption}
use Rattle.rules.specs.Examples.{Example}
use Rattle.rules.specs.Places.{Place}
use Rattle.candidates.specs.declared.question.Question.{Question}
use Rattle.candidates.specs.declared.table.Table as declared
use Rattle.candidates.specs.RowTable.{Table, alike_at, tried, all_tried, first_given}
use Rattle.candidates.specs.Values.{the_examples, the_asked}

-- a question's examples, and its text that may be asked about
abbrev pub examples_of : Question → List Example
examples_of q = the_examples q.examples.now

abbrev pub asked_of : Question → List (List ℕ)
asked_of q = the_asked q.asked

abbrev pub the_table : declared.Table → Table
the_table t = record { numbers = t.numbers.now; rows = t.rows }

-- a table becomes another, in the same lent numbers
pub record Becomes (was now : declared.Table) (t : Table) : Type 0 where
  pub same_reference : now.numbers.ghost_name ≡ was.numbers.ghost_name
  pub is : the_table now ≡ t

-- a number names the first row that lies like x; there is none if none does
abbrev pub IsFirstAlike : Table → List ℕ → Option ℕ → Type 0
IsFirstAlike t x r = MatchOption r (alike_at t.numbers x 0 t.rows ≡ t.rows) (λ i. (alike_at t.numbers x 0 t.rows ≡ i) × (i < t.rows))

-- a place tried for the examples and the text asked about
abbrev pub tried_for : Question → Table → Place → Table
tried_for q t p = tried (examples_of q) (asked_of q) t p

-- one place after the other
abbrev pub all_tried_for : Question → Table → List Place → Table
all_tried_for q t ps = all_tried (examples_of q) (asked_of q) t ps

-- a table becomes what these places, tried one after the other, make of it
abbrev pub Tries : Question → declared.Table → declared.Table → List Place → Type 0
Tries q was now ps = Becomes was now (all_tried_for q (the_table was) ps)

-- the first given text of a question
abbrev pub first_of : Question → List ℕ
first_of q = first_given (examples_of q)
