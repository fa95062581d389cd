-- What is promised of a search by examples over a problem in memory. Each is a statement. Assumes nothing.
use Rattle.std.specs.Prelude.{◌≡◌, ℕ, true, ◌⊎◌, List, [], ◌∷◌, length}
use Rattle.rules.specs.Order.{First, None, rule_spelled}
use Rattle.rules.specs.Examples.{Example, does}
use Rattle.candidates.specs.Rows.{small_examples}
use Rattle.candidates.specs.Problem.{View}
use Rattle.candidates.specs.Laid.{Laid}
use Rattle.search.specs.Steps.{Held, held_step, held_steps}
use Rattle.search.specs.ByExamples.{held_begun, rule_in}
use Rattle.search.specs.Spelled.{spelled_in}
use Rattle.search.specs.declared.frame.Frame.{Frame}
use Rattle.search.specs.declared.status.Status.TheVariants.{Going, Found, NoRule}

-- the memory is ready for a search; for no examples nothing more is needed than that it says so
abbrev pub Ready : List Example → List (List ℕ) → View → Type 0
Ready [] asked v = v.examples ≡ 0
Ready (x ∷ rest) asked v = Laid (x ∷ rest) asked v

-- the search has ended, with the first rule that does the examples, or there is none
abbrev pub EndedFor : List Example → View → Held → Type 0
EndedFor es v x = ((x.status ≡ Found) × First (does es) (rule_in v x)) ⊎ ((x.status ≡ NoRule) × None (does es))

-- begun and advanced often enough, it ends, and ends right
abbrev pub HeldEnds : Type 0
HeldEnds =
    (es : List Example) (asked : List (List ℕ)) (v : View) (fs : List Frame) → small_examples es ≡ true → Ready es asked v → length fs ≡ 8 →
    (n : ℕ) × EndedFor es v (held_steps v n (held_begun v fs))

-- and after however many steps it has ended, what it says is right
abbrev pub HeldNeverWrong : Type 0
HeldNeverWrong =
    (es : List Example) (asked : List (List ℕ)) (v : View) (fs : List Frame) (n : ℕ) → small_examples es ≡ true → Ready es asked v → length fs ≡ 8 →
    ((held_steps v n (held_begun v fs)).status ≡ Going) ⊎ EndedFor es v (held_steps v n (held_begun v fs))

-- a search that has ended stays as it is
abbrev pub HeldStays : Type 0
HeldStays = (v : View) (x : Held) → (x.status ≡ Found) ⊎ (x.status ≡ NoRule) → held_step v x ≡ x

-- when it has found a rule, what the numbers in memory spell is that rule
abbrev pub HeldSpelled : Type 0
HeldSpelled =
    (es : List Example) (asked : List (List ℕ)) (v : View) (fs : List Frame) (n : ℕ) → small_examples es ≡ true → Ready es asked v → length fs ≡ 8 →
    (held_steps v n (held_begun v fs)).status ≡ Found → spelled_in v (held_steps v n (held_begun v fs)) ≡ rule_spelled (rule_in v (held_steps v n (held_begun v fs)))
