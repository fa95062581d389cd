-- The test that two lists of numbers are the same decides whether they are equal.
use Rattle.std.proofs.Common.{◌≡◌, ℕ, true, List, Decides, subst}
use Rattle.rules.specs.Lists.{same}
use Rattle.rules.proofs.Tests.{same_eq, same_itself}

pub same_decides : (xs ys : List ℕ) → Decides (same xs ys) (xs ≡ ys)
same_decides xs ys = (same_eq xs ys, λ e. subst (λ zs. same xs zs ≡ true) e (same_itself xs))
