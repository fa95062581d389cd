-- What is promised of a search in memory. Each is a statement. Assumes nothing.
use Rattle.std.specs.Prelude.{◌≡◌, ℕ, true, ◌⊎◌, List, length}
use Rattle.rules.specs.Order.{rule_spelled}
use Rattle.rules.specs.Examples.{Example}
use Rattle.candidates.specs.Rows.{small_examples}
use Rattle.search.specs.ByExamples.{held_begun}
use Rattle.search.specs.HeldPromises.{Ready, EndedFor}
use Rattle.search.specs.Begun.{begun_in}
use Rattle.search.specs.Memory.{memory_size, problem_in, loaded, advances, rule_found}
use Rattle.search.specs.Spelled.{spelled_in}
use Rattle.search.specs.declared.frame.Frame.{Frame}
use Rattle.search.specs.declared.status.Status.{Status}
use Rattle.search.specs.declared.status.Status.TheVariants.{Going, Found}

-- the search in memory has ended: with the first of all rules that do the examples, or there is none
abbrev pub EndedIn : List Example → List ℕ → Type 0
EndedIn es m = EndedFor es (problem_in m) (loaded m)

-- a search for the examples begins in this memory
pub record Begins (es : List Example) (asked : List (List ℕ)) (m : List ℕ) : Type 0 where
  pub few : small_examples es ≡ true
  pub long : length m ≡ memory_size
  pub ready : Ready es asked (problem_in m)
  pub frames : List Frame
  pub eight : length frames ≡ 8
  pub begun : loaded m ≡ held_begun (problem_in m) frames

-- it ends after some pieces, and ends right
abbrev pub PiecesEnd : Type 0
PiecesEnd = (es : List Example) (asked : List (List ℕ)) (m : List ℕ) → Begins es asked m → (n : ℕ) × EndedIn es (advances n m)

-- after any number of pieces it is still going, or has ended right
abbrev pub NeverWrongIn : Type 0
NeverWrongIn = (es : List Example) (asked : List (List ℕ)) (m : List ℕ) (n : ℕ) → Begins es asked m → ((loaded (advances n m)).status ≡ Going) ⊎ EndedIn es (advances n m)

-- THE SEARCH. Begun on examples in any memory of the right length and advanced often enough, it ends, with the first of all rules there are that do
-- them, or with none where there is none; and whenever it has ended, it has ended so, and the rule is spelled as it is.
abbrev pub FindsTheFirst : Type 0
FindsTheFirst = (es : List Example) (m : List ℕ) → small_examples es ≡ true → length m ≡ memory_size → (n : ℕ) × EndedIn es (advances n (begun_in es m))

abbrev pub SaysNoWrong : Type 0
SaysNoWrong =
    (es : List Example) (m : List ℕ) (n : ℕ) → small_examples es ≡ true → length m ≡ memory_size →
    ((loaded (advances n (begun_in es m))).status ≡ Going) ⊎ EndedIn es (advances n (begun_in es m))

abbrev pub SpellsTheRule : Type 0
SpellsTheRule =
    (es : List Example) (m : List ℕ) (n : ℕ) → small_examples es ≡ true → length m ≡ memory_size → (loaded (advances n (begun_in es m))).status ≡ Found →
    spelled_in (problem_in (advances n (begun_in es m))) (loaded (advances n (begun_in es m))) ≡ rule_spelled (rule_found (advances n (begun_in es m)))

-- what a search that was carried to its end leaves: memory after some pieces, in which it has ended
pub record CarriedOut (es : List Example) (before after : List ℕ) (st : Status) : Type 0 where
  pub pieces : ℕ
  pub memory : after ≡ advances pieces (begun_in es before)
  pub status : (loaded after).status ≡ st
  pub ended : EndedIn es after
