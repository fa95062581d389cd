-- Lent bytes that are written piece by piece. Assumes nothing: these are definitions.
use Rattle.std.specs.Prelude.{◌≡◌, ℕ, ◌+◌, ◌≤◌, List, length}
use Rattle.rules.specs.Answers.{written}
use Rattle.rules.specs.declared.room.Writer.{Writer}

-- the bytes, and up to where they are written
pub record Writing : Type 0 where
  pub out : List ℕ
  pub at : ℕ

abbrev pub the_writing : Writer → Writing
the_writing w = record { out = w.out.now; at = w.at }

-- which bytes were lent: a writer keeps to the same
abbrev pub lender : Writer → ℕ
lender w = w.out.ghost_name

-- lent bytes of which none is written yet
abbrev pub unwritten : List ℕ → Writing
unwritten out = record { out = out; at = 0 }

-- the same with bs behind what is written
abbrev pub wrote : Writing → List ℕ → Writing
wrote w bs = record { out = written w.out w.at bs; at = w.at + length bs }

-- a writer becomes one over the same lent bytes, with bs behind what was written
pub record Writes (was now : Writer) (bs : List ℕ) : Type 0 where
  pub same_reference : lender now ≡ lender was
  pub wrote : the_writing now ≡ wrote (the_writing was) bs

-- there is room for bs behind what is written
abbrev pub HasRoom : Writing → List ℕ → Type 0
HasRoom w bs = w.at + length bs ≤ length w.out

-- there is room for n bytes
abbrev pub HasRoomFor : Writing → ℕ → Type 0
HasRoomFor w n = w.at + n ≤ length w.out
