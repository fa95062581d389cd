-- Examples, and the rules that do them. Assumes nothing: these are definitions.
use Rattle.std.specs.Prelude.{ℕ, ◌+◌, Bool, not, ◌&&◌, List, nat_le}
use Rattle.rules.specs.Lists.{every}
use Rattle.rules.specs.Rules.{Rule, makes, cost, is_made, same_made}

-- of the given text the wanted one is to be made
pub record Example : Type 0 where
  pub given : List ℕ
  pub wanted : List ℕ

-- the rule makes of each given text what is wanted
abbrev pub does : List Example → Rule → Bool
does es r = every (λ e. is_made (makes r e.given) e.wanted) es

-- q does the examples too, makes something else of the text t than r, and costs at most d more
abbrev pub otherwise : List Example → Rule → ℕ → List ℕ → Rule → Bool
otherwise es r d t q = does es q && (not (same_made (makes q t) (makes r t)) && nat_le (cost q) (cost r + d))
