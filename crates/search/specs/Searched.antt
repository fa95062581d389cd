-- What contracts see of a search in memory. Assumes nothing: these are definitions.
use Rattle.std.specs.Prelude.{◌≡◌, ℕ, List}
use denote.Ref.{MutBor}
use Rattle.search.specs.declared.search.Search.{Search}
use Rattle.search.specs.declared.seen.Seen.{Seen}

-- the memory as it was lent
abbrev pub lent : Search → MutBor (List ℕ)
lent s = s.memory

-- the numbers that are in it
abbrev pub the_memory : Search → List ℕ
the_memory s = s.memory.now

-- a search becomes one in the same lent memory, with these numbers in it
pub record Becomes (was now : Search) (numbers : List ℕ) : Type 0 where
  pub same_reference : (lent now).ghost_name ≡ (lent was).ghost_name
  pub memory : the_memory now ≡ numbers

-- the same where the memory is only read
abbrev pub seen_memory : Seen → List ℕ
seen_memory s = s.memory.now
