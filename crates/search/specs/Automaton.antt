-- Automata that read rules part by part, and what a search for the first accepted rule goes by. Assumes nothing: these are definitions.
use Rattle.std.specs.Prelude.{◌≡◌, ℕ, ◌<◌, ◌≤◌, Bool, true, false, ◌&&◌, ◌⊎◌, [], ◌∷◌, length}
use Rattle.rules.specs.Lists.{every, earlier}
use Rattle.rules.specs.Rules.{Part, Rule, a_part}
use Rattle.rules.specs.Order.{part_spelled}
pub use Rattle.candidates.specs.Weights.{part_weight}
unfoldable pub use Rattle.candidates.specs.Weights.{weight}

-- the state to start from, whether a part goes on from a state, the state after it, and whether a rule may end there
pub record Automaton (S : Type 0) : Type 0 where
  pub start : S
  pub goes : Part → S → Bool
  pub after : Part → S → S
  pub accepts : S → Bool

-- the rule leads from the state to one that accepts
unfoldable pub accepted : {S : Type 0} → Automaton S → S → Rule → Bool
accepted a s [] = a.accepts s
accepted a s (p ∷ ps) = a.goes p s && accepted a (a.after p s) ps

-- what a search goes by besides the automaton: how many candidates a state has, which they are,
-- and a lower bound of what a rule of at most so many parts weighs that is accepted from a state
pub record Guided (S : Type 0) : Type 0 where
  pub automaton : Automaton S
  pub count : S → ℕ
  pub candidate : S → ℕ → Part
  pub guide : ℕ → S → ℕ

-- the candidate goes where the part goes, and in a rule it is as good or better: it weighs less, or as much and is not spelled later
pub record StandsFor {S : Type 0} (g : Guided S) (s : S) (i : ℕ) (p : Part) : Type 0 where
  pub there : i < g.count s
  pub goes : g.automaton.goes (g.candidate s i) s ≡ true
  pub leads : g.automaton.after (g.candidate s i) s ≡ g.automaton.after p s
  pub as_good : (part_weight (g.candidate s i) < part_weight p) ⊎ ((part_weight (g.candidate s i) ≡ part_weight p) × (earlier (part_spelled p) (part_spelled (g.candidate s i)) ≡ false))

-- what makes the search right, in all states that are fit, of which the start is one: candidates are parts there are, at most so many,
-- in the order of their spelling, and one stands for every part that goes on; and the guide is a lower bound
pub record Sound {S : Type 0} (g : Guided S) (fit : S → Bool) (most : ℕ) : Type 0 where
  pub fit_start : fit g.automaton.start ≡ true
  pub fit_after : (p : Part) (s : S) → fit s ≡ true → g.automaton.goes p s ≡ true → fit (g.automaton.after p s) ≡ true
  pub few : (s : S) → fit s ≡ true → g.count s ≤ most
  pub valid : (s : S) (i : ℕ) → fit s ≡ true → i < g.count s → a_part (g.candidate s i) ≡ true
  pub ordered : (s : S) (i j : ℕ) → fit s ≡ true → i < j → j < g.count s → earlier (part_spelled (g.candidate s i)) (part_spelled (g.candidate s j)) ≡ true
  pub complete : (s : S) (p : Part) → fit s ≡ true → a_part p ≡ true → g.automaton.goes p s ≡ true → (i : ℕ) × StandsFor g s i p
  pub lower : (k : ℕ) (s : S) (q : Rule) → fit s ≡ true → every a_part q ≡ true → length q ≤ k → k ≤ 8 → accepted g.automaton s q ≡ true → g.guide k s ≤ weight q
