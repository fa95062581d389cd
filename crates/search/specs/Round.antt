-- A round of the search: depth first through the candidates, within a budget of weight. Assumes nothing: these are definitions.
use Rattle.std.specs.Prelude.{ℕ, zero, suc, ◌+◌, ◌-◌, [], ◌∷◌, nat_le}
use Rattle.rules.specs.Lists.{pick}
use Rattle.rules.specs.Rules.{Part, Rule}
pub use Rattle.candidates.specs.Weights.{smaller}
use Rattle.search.specs.Automaton.{Guided, part_weight}

-- a rule, or by how much the budget was short: the least shortfall that was noted
pub data Result : Type 0 where
  found : Rule → Result
  short : ℕ → Result

-- one look at a candidate: it is passed over, with the shortfall that is now noted; or the state after it accepts;
-- or the search goes on from there, with so much left of the budget
pub data Look (S : Type 0) : Type 0 where
  over : ℕ → Look S
  ends : Look S
  enters : S → ℕ → Look S

-- what a way over the part c to the state t needs at least, with k parts after it
abbrev pub needed : {S : Type 0} → Guided S → ℕ → Part → S → ℕ
needed g k c t = part_weight c + g.guide k t

-- the look at a candidate c that leads to the state t, with k parts after it, so much left of the budget, and the shortfall n noted so far
abbrev pub look_at : {S : Type 0} → Guided S → (k : ℕ) → (c : Part) → (s t : S) → (left n : ℕ) → Look S
look_at g k c s t left n =
    pick (g.automaton.goes c s)
    (pick (nat_le (needed g k c t) left) (pick (g.automaton.accepts t) ends (enters t (left - part_weight c))) (over (smaller n (needed g k c t - left)))) (over n)

abbrev pub look : {S : Type 0} → Guided S → (k : ℕ) → S → (left i n : ℕ) → Look S
look g k s left i n = look_at g k (g.candidate s i) s (g.automaton.after (g.candidate s i) s) left n

-- the candidate c before what was found behind it; or on to the next one
abbrev pub after_deeper : Part → (next : ℕ → Result) → Result → Result
after_deeper c next (found r) = found (c ∷ r)
after_deeper c next (short n) = next n

abbrev pub after_look : {S : Type 0} → Part → (deeper : S → ℕ → ℕ → Result) → (next : ℕ → Result) → (n : ℕ) → Look S → Result
after_look c deeper next n (over m) = next m
after_look c deeper next n ends = found (c ∷ [])
after_look c deeper next n (enters t l) = after_deeper c next (deeper t l n)

-- m candidates, from the one at i on
unfoldable pub tries : {S : Type 0} → Guided S → (deeper : S → ℕ → ℕ → Result) → (k : ℕ) → S → (left i m n : ℕ) → Result
tries g deeper k s left i zero n = short n
tries g deeper k s left i (suc m) n = after_look (g.candidate s i) deeper (λ n'. tries g deeper k s left (i + 1) m n') n (look g k s left i n)

-- rules of at most so many parts from a state that does not accept, with so much of the budget left and the shortfall n noted so far
unfoldable pub round : {S : Type 0} → Guided S → ℕ → S → (left n : ℕ) → Result
round g zero s left n = short n
round g (suc k) s left n = tries g (round g k) k s left 0 (g.count s) n
