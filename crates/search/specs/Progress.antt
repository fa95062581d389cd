-- What is told of where a search stands. Assumes nothing: these are definitions.
use Rattle.std.specs.Prelude.{◌≡◌, ℕ}
use Rattle.search.specs.Steps.{Held}
use Rattle.search.specs.declared.progress.Progress.{Progress}

-- as far as the machine is, over so many rows
pub record Stands (x : Held) (rows : ℕ) (p : Progress) : Type 0 where
  pub status : p.status ≡ x.status
  pub budget : p.budget ≡ x.budget
  pub frames : p.frames ≡ x.depth
  pub rows_are : p.rows ≡ rows
