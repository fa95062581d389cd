-- The values of src/ as the kinds, places, parts and rules that the definitions speak of. Assumes nothing: these are definitions.
use Rattle.std.specs.Prelude.{◌≡◌, ℕ, ◌+◌, true, false, List, Result, MatchResult, vec_items}
use Rattle.rules.specs.Lists.{each}
use Rattle.rules.specs.Places as places
use Rattle.rules.specs.Rules as rules
use Rattle.rules.specs.declared.kind.Kind.{Kind}
use Rattle.rules.specs.declared.kind.Kind.TheVariants.{Anything, Digits, Letters, Capitals, SmallLetters, Blanks, Sign}
use Rattle.rules.specs.declared.kind.NotAKind.{NotAKind}
use Rattle.rules.specs.declared.place.Place.{Place}
use Rattle.rules.specs.declared.place.Place.TheVariants.{FromFirst, FromLast, NthOf}
use Rattle.rules.specs.declared.part.Part.{Part}
use Rattle.rules.specs.declared.part.Part.TheVariants.{Bytes, Cut}

-- the number of a kind
abbrev pub kind_number : Kind → ℕ
kind_number Anything = 0
kind_number Digits = 1
kind_number Letters = 2
kind_number Capitals = 3
kind_number SmallLetters = 4
kind_number Blanks = 5
kind_number (Sign b) = 256 + b

-- n is the kind's number, and one that a kind may have
pub record IsNumberOf (kind : Kind) (n : ℕ) : Type 0 where
  pub value : n ≡ kind_number kind
  pub right : rules.a_kind n ≡ true

-- the kind whose number is n, or an error with the number where no kind has it
abbrev pub KindOf : ℕ → Result Kind NotAKind → Type 0
KindOf n r = MatchResult r (λ kind. (kind_number kind ≡ n) × (rules.a_kind n ≡ true)) (λ e. (e.0 ≡ n) × (rules.a_kind n ≡ false))

abbrev pub the_place : Place → places.Place
the_place (FromFirst n) = places.from_first n
the_place (FromLast n) = places.from_last n
the_place (NthOf s n b) = places.nth_of (kind_number s.left) (kind_number s.right) n b

abbrev pub the_part : Part → rules.Part
the_part (Bytes v) = rules.bytes (vec_items v)
the_part (Cut c) = rules.cut (the_place c.from) (the_place c.to)

abbrev pub the_parts : List Part → rules.Rule
the_parts ps = each the_part ps
