-- A look at a candidate in memory says what the look at it over the automaton says.
use Rattle.std.proofs.Common.{◌≡◌, ℕ, ◌-◌, ◌<◌, min, Bool, true, false, ltb, leb, List, ◌∷◌, Some, None, refl, ap, ◌∙◌, ap₂, arith}
use Rattle.std.proofs.lemmas.Bool.{ltb-true, ltb-false}
use Rattle.rules.specs.Lists.{pick}
use Rattle.rules.specs.Rules.{Part}
use Rattle.rules.specs.Examples.{Example}
use Rattle.rules.proofs.Tests.{pick_both}
use Rattle.candidates.specs.Moves.{goes, moved, fit}
use Rattle.candidates.specs.Candidates.{count, candidate}
use Rattle.candidates.specs.Problem.{View}
use Rattle.candidates.specs.Laid.{Laid, rows_of}
use Rattle.candidates.specs.declared.look.Move.{Move}
use Rattle.candidates.proofs.StaysFit.{stays_fit}
use Rattle.candidates.proofs.ViewAgrees.{end_agrees, looked_agrees}
use Rattle.search.specs.Automaton.{part_weight}
use Rattle.search.specs.Round.{Look, over, ends, enters, smaller, needed, look}
use Rattle.search.specs.Steps.{weigh_in, look_of, look_in}
use Rattle.search.specs.ByExamples.{guided_by}
use Rattle.search.specs.declared.frame.Frame.{Frame}

pub min_smaller : (a b : ℕ) → min a b ≡ smaller a b
min_smaller a b = pick_both (ltb a b) a b (λ m. min a b ≡ m) (λ t. let h = ltb-true a b t in omega arith) (λ t. let h = ltb-false a b t in omega arith)

-- a candidate that does not go on is passed over
look_by : (v : View) (k left n : ℕ) (b : Bool) (m : Move) (y : Look (List ℕ)) → (b ≡ true → weigh_in v m k left n ≡ y) → look_of v k left n (pick b (Some m) None) ≡ pick b y (over n)
look_by v k left n true m y h = h refl
look_by v k left n false m y h = refl

module _ (x : Example) (rest : List Example) (asked : List (List ℕ)) (v : View) (laid : Laid (x ∷ rest) asked v) where
  pub look_agrees : (f : Frame) (k n : ℕ) → fit (x ∷ rest) f.state ≡ true → f.index < count (x ∷ rest) (rows_of v) f.state → look_in v f k n ≡ look (guided_by (x ∷ rest) v) k f.state f.left f.index n
  look_agrees f k n fits there =
      ap (λ o. look_of v k f.left n o) (looked_agrees x rest asked v laid f.state fits f.index there)
      ∙ look_by v k f.left n (goes (x ∷ rest) c f.state) (record { state = t; weight = part_weight c }) weighed
      (λ g. ap₂ (λ b m. pick (leb need f.left) (pick b ends (enters t (f.left - part_weight c))) (over m)) (end_agrees (x ∷ rest) asked v laid t (stays_fit (x ∷ rest) c f.state fits g)) (min_smaller n (need - f.left)))
    where
      c : Part
      c = candidate (x ∷ rest) (rows_of v) f.state f.index

      t : List ℕ
      t = moved (x ∷ rest) c f.state

      need : ℕ
      need = needed (guided_by (x ∷ rest) v) k c t

      weighed : Look (List ℕ)
      weighed = pick (leb need f.left) (pick ((guided_by (x ∷ rest) v).automaton.accepts t) ends (enters t (f.left - part_weight c))) (over (smaller n (need - f.left)))
