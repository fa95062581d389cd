-- What the functions of src/ answer, in terms of the definitions; and what they leave in memory that was lent to them. Assumes nothing: these are definitions.
use Rattle.std.specs.Prelude.{ℕ, ◌+◌, ◌-◌, ◌^◌, ◌≤◌, min, List, ◌++◌, length, take, drop, Some, None, Ok, Err, Option, Result, nat_le}
use Rattle.std.specs.Borrow.{Bor}
use Rattle.rules.specs.Lists.{pick}
use Rattle.rules.specs.Rules.{Made, nothing, made}
use Rattle.rules.specs.declared.room.NoRoom.{NoRoom}

-- a slice that is handed on is what is made; no slice is nothing
abbrev pub slice_made : Option (Bor (List ℕ)) → Made
slice_made None = nothing
slice_made (Some s) = made s.now

-- lent bytes into which bs were written from `at` on
abbrev pub written : List ℕ → ℕ → List ℕ → List ℕ
written out at bs = take at out ++ (bs ++ drop (at + length bs) out)

-- what is told of bytes that are to be written where there is so much room: their number, or that there is no room
abbrev pub written_told : List ℕ → ℕ → Result ℕ NoRoom
written_told bs room = pick (nat_le (length bs) room) (Ok (length bs)) (Err (record {}))

-- and what the lent bytes are after it: begun with these and else as they were, or all as they were
abbrev pub written_left : List ℕ → List ℕ → List ℕ
written_left bs out = pick (nat_le (length bs) (length out)) (written out 0 bs) out

-- the same of what a rule makes; where that is nothing, nothing is written
abbrev pub made_told : Made → ℕ → Result (Option ℕ) NoRoom
made_told nothing room = Ok None
made_told (made bs) room = pick (nat_le (length bs) room) (Ok (Some (length bs))) (Err (record {}))

abbrev pub made_left : Made → List ℕ → List ℕ
made_left nothing out = out
made_left (made bs) out = written_left bs out

-- it is bytes, and there is room for them
abbrev pub FitsIn : Made → ℕ → Type 0
FitsIn nothing room = ⊥
FitsIn (made bs) room = length bs ≤ room

-- how many bytes are made, or the largest number of 64 bits where they are more
abbrev pub counted : Made → Option ℕ
counted nothing = None
counted (made bs) = Some (min (length bs) (2 ^ 64 - 1))
