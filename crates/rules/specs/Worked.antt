-- Examples worked by hand, each with a rule that does them and what it costs. Assumes nothing: these are definitions.
use Rattle.std.specs.Prelude.{◌≡◌, ℕ, Bool, true, false, ◌&&◌, List, [], ◌∷◌, codes, ◌==◌}
use Prim.Native.String.{String}
use Rattle.rules.specs.Lists.{every}
use Rattle.rules.specs.Places.{from_first, from_last, nth_of}
use Rattle.rules.specs.Rules.{Part, bytes, cut, Rule, made, makes, cost, a_rule}
use Rattle.rules.specs.Order.{None}
use Rattle.rules.specs.Examples.{Example, does}

-- of the text a the text b is to be made
abbrev pub example : String → String → Example
example a b = record { given = codes a; wanted = codes b }

-- examples, a rule that does them, and what the rule costs
pub record Row : Type 0 where
  pub examples : List Example
  pub rule : Rule
  pub cost : ℕ

-- the row's rule is one, does its examples, and costs what the row says
abbrev pub a_right_row : Row → Bool
a_right_row w = a_rule w.rule && (does w.examples w.rule && cost w.rule == w.cost)

-- from the last place behind which letters begin to the end
abbrev pub last_word : Part
last_word = cut (nth_of 0 2 1 true) (from_last 0)

-- from the beginning to the first place behind which small letters begin
abbrev pub initial : Part
initial = cut (from_first 0) (nth_of 0 4 1 false)

-- from the last place behind which blanks begin to the end
abbrev pub last_blank_on : Part
last_blank_on = cut (nth_of 0 5 1 true) (from_last 0)

-- all but the first five bytes
abbrev pub all_but_five : Part
all_but_five = cut (from_first 5) (from_last 0)

-- a surname; the same with a second example; an initial and a surname; one text for all
abbrev pub table : List Row
table =
    record { examples = example "Elin Berg" "Berg" ∷ []; rule = last_word ∷ []; cost = 14 }
    ∷ record { examples = example "Elin Berg" "Berg" ∷ example "Per Olof Dahl" "Dahl" ∷ []; rule = last_word ∷ []; cost = 14 }
    ∷ record { examples = example "Elin Berg" "E. Berg" ∷ example "Per Olof Dahl" "P. Dahl" ∷ []; rule = initial ∷ bytes (codes ".") ∷ last_blank_on ∷ []; cost = 37 }
    ∷ record { examples = example "a" "x" ∷ example "b" "x" ∷ []; rule = bytes (codes "x") ∷ []; cost = 9 }
    ∷ []

-- a rule that does the first row's examples too, but costs more
abbrev pub dearer : Row
dearer = record { examples = example "Elin Berg" "Berg" ∷ []; rule = all_but_five ∷ []; cost = 17 }

-- Each row is right. No rule does a: x and b: y. Of `Bo Ek` the table's first rule makes `Ek`, and the dearer one, right on its example too, a text without bytes.
abbrev pub WorkedTable : Type 0
WorkedTable =
    (every a_right_row table ≡ true) × None (does (example "a" "x" ∷ example "b" "y" ∷ [])) × (makes (last_word ∷ []) (codes "Bo Ek") ≡ made (codes "Ek"))
    × (a_right_row dearer ≡ true)
    × (makes dearer.rule (codes "Bo Ek") ≡ made [])
