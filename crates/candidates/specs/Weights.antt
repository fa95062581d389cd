-- Cost, number of parts and spelling as one order: what a rule weighs. Assumes nothing: these are definitions.
use Rattle.std.specs.Prelude.{ℕ, ◌+◌, ◌*◌, [], ◌∷◌, nat_lt}
use Rattle.rules.specs.Lists.{pick}
use Rattle.rules.specs.Rules.{Part, Rule, part_cost}

abbrev pub smaller : ℕ → ℕ → ℕ
smaller a b = pick (nat_lt a b) a b

-- 16 for each unit of cost, and 1 for the part: a rule has at most eight, so its weight orders by cost and then by the number of parts
abbrev pub part_weight : Part → ℕ
part_weight p = 16 * (1 + part_cost p) + 1

unfoldable pub weight : Rule → ℕ
weight [] = 0
weight (p ∷ ps) = part_weight p + weight ps

-- more than any rule weighs: what is said where there is no bound
abbrev pub far : ℕ
far = 65536
