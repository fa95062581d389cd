-- What is promised of the search. Each is a statement; a function of src/promises.rt has it as its contract. Assumes nothing.
use Rattle.std.specs.Prelude.{◌≡◌, ℕ, Bool, false, ◌⊎◌, List}
use Rattle.rules.specs.Order.{First, None}
use Rattle.search.specs.Automaton.{Guided, Sound, accepted}
use Rattle.search.specs.Machine.{Machine, going, found_it, there_is_none, begun, runs, micro, chosen}

-- the machine has ended, with the first rule that the automaton accepts, or there is none
abbrev pub EndedRight : {S : Type 0} → Guided S → Machine S → Type 0
EndedRight g x =
    ((x.status ≡ found_it) × First (accepted g.automaton g.automaton.start) (chosen g x.frames))
    ⊎ ((x.status ≡ there_is_none) × None (accepted g.automaton g.automaton.start))

-- begun and advanced often enough, the machine ends, and ends right
abbrev pub EndsRight : {S : Type 0} → Guided S → Type 0
EndsRight g = (n : ℕ) × EndedRight g (runs n g (begun g))

-- so it is with states of any type, if the search goes by what is sound, which does not matter where the empty rule is accepted
abbrev pub SearchRightOver : Type 0 → Type 0
SearchRightOver S = (g : Guided S) (fit : S → Bool) (most : ℕ) → (g.automaton.accepts g.automaton.start ≡ false → Sound g fit most) → EndsRight g

-- here with states that are lists of numbers
abbrev pub SearchRight : Type 0
SearchRight = SearchRightOver (List ℕ)

-- and after however many steps it has ended, what it says is right
abbrev pub NeverWrongOver : Type 0 → Type 0
NeverWrongOver S =
    (g : Guided S) (fit : S → Bool) (most n : ℕ) → (g.automaton.accepts g.automaton.start ≡ false → Sound g fit most) →
    ((runs n g (begun g)).status ≡ going) ⊎ EndedRight g (runs n g (begun g))

abbrev pub NeverWrong : Type 0
NeverWrong = NeverWrongOver (List ℕ)

-- a machine that has ended stays as it is
abbrev pub EndedStaysOver : Type 0 → Type 0
EndedStaysOver S = (g : Guided S) (x : Machine S) → (x.status ≡ found_it) ⊎ (x.status ≡ there_is_none) → micro g x ≡ x

abbrev pub EndedStays : Type 0
EndedStays = EndedStaysOver (List ℕ)
