-- A file gone through with a rule: its lines, and a row for each. Assumes nothing: these are definitions.
use Rattle.std.specs.Prelude.{◌≡◌, ℕ, ◌+◌, List, [], ◌∷◌, ◌++◌, length, vec_items, ◌==◌, nat_le}
use Rattle.rules.specs.Lists.{pick, none_of, flat}
use Rattle.rules.specs.Rules.{Rule, Made, nothing, made, makes}
use Rattle.console.specs.declared.rows.Miss.{Miss}
use Rattle.console.specs.declared.rows.Why.{Why}
use Rattle.console.specs.declared.rows.Why.TheVariants.{TooLong, NothingMade}
use Rattle.console.specs.declared.rows.Table.{Table}

-- a line ends with byte 10, or with the file
unfoldable pub lines_from : List ℕ → List ℕ → List (List ℕ)
lines_from line [] = pick (none_of line) [] (line ∷ [])
lines_from line (c ∷ cs) = pick (c == 10) (line ∷ lines_from [] cs) (lines_from (line ++ c ∷ []) cs)

abbrev pub lines : List ℕ → List (List ℕ)
lines file = lines_from [] file

-- in a row a tab is written \t and a backslash \\
abbrev pub escaped_byte : ℕ → List ℕ
escaped_byte c = pick (c == 9) (92 ∷ 116 ∷ []) (pick (c == 92) (92 ∷ 92 ∷ []) (c ∷ []))

abbrev pub escaped : List ℕ → List ℕ
escaped t = flat escaped_byte t

-- what the rule makes of a line; of one with more than 64 bytes, nothing
abbrev pub made_of : Rule → List ℕ → Made
made_of r line = pick (nat_le (length line) 64) (makes r line) nothing

-- behind the line: a tab and what was made, where something was
abbrev pub behind : Made → List ℕ
behind nothing = 10 ∷ []
behind (made t) = 9 ∷ escaped t ++ 10 ∷ []

abbrev pub row : Rule → List ℕ → List ℕ
row r line = escaped line ++ behind (made_of r line)

-- the rows of a file
abbrev pub rows : Rule → List (List ℕ) → List ℕ
rows r ls = flat (row r) ls

-- why nothing is made of a line, where nothing is
abbrev pub why_not : List ℕ → Why
why_not line = pick (nat_le 65 (length line)) TooLong NothingMade

-- of which lines, counted on from n, nothing was made, and why
abbrev pub miss : ℕ → List ℕ → Made → List Miss
miss n line nothing = record { line = n; why = why_not line } ∷ []
miss n line (made t) = []

unfoldable pub missed : Rule → ℕ → List (List ℕ) → List Miss
missed r n [] = []
missed r n (line ∷ ls) = miss n line (made_of r line) ++ missed r (n + 1) ls

-- what came of lines: their rows, their number, and of which nothing was made
pub record TableOf (r : Rule) (ls : List (List ℕ)) (t : Table) : Type 0 where
  pub all_rows : vec_items t.rows ≡ rows r ls
  pub all_lines : t.lines ≡ length ls
  pub all_missed : vec_items t.missed ≡ missed r 1 ls

-- what came of one line more
pub record OneMore (r : Rule) (line : List ℕ) (t u : Table) : Type 0 where
  pub its_row : vec_items u.rows ≡ vec_items t.rows ++ row r line
  pub its_number : u.lines ≡ t.lines + 1
  pub its_miss : vec_items u.missed ≡ vec_items t.missed ++ miss (t.lines + 1) line (made_of r line)
