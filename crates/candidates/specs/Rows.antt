-- Places by where they lie in the given texts, and what makes a table of them right. Assumes nothing: these are definitions.
use Rattle.std.specs.Prelude.{◌≡◌, ℕ, ◌<◌, Bool, true, false, not, ◌&&◌, ◌⊎◌, List, [], ◌∷◌, length, Option, MatchOption, nat_le, nat_lt, slice_index_or}
use Rattle.rules.specs.Lists.{every, each, none_of, earlier}
use Rattle.rules.specs.Places.{Place, spot}
use Rattle.rules.specs.Rules.{place_cost, a_place}
use Rattle.rules.specs.Order.{place_spelled}
use Rattle.rules.specs.Examples.{Example}
use Rattle.candidates.specs.Positions.{position}

-- up to 64 bytes
abbrev pub small_text : List ℕ → Bool
small_text t = nat_le (length t) 64 && every (λ c. nat_lt c 256) t

abbrev pub small_example : Example → Bool
small_example e = small_text e.given && small_text e.wanted

-- up to eight examples
abbrev pub small_examples : List Example → Bool
small_examples es = nat_le (length es) 8 && every small_example es

-- what is asked of an example where its texts are known to be bytes
abbrev pub short_example : Example → Bool
short_example e = nat_le (length e.given) 64 && nat_le (length e.wanted) 64

-- the given text of example e
abbrev pub given_of : List Example → ℕ → List ℕ
given_of es e = slice_index_or (each (λ x. x.given) es) e []

-- and its wanted text
abbrev pub wanted_of : List Example → ℕ → List ℕ
wanted_of es e = slice_index_or (each (λ x. x.wanted) es) e []

-- both
abbrev pub example_at : List Example → ℕ → Example
example_at es e = record { given = given_of es e; wanted = wanted_of es e }

-- the place is there in every given text
abbrev pub lies_in_all : List Example → Place → Bool
lies_in_all es p = every (λ e. not (none_of (spot e.given p))) es

-- x, if the place is there in every given text; else none
abbrev pub IfThere : {A : Type 0} → List Example → Place → Option A → A → Type 0
IfThere es p r x = MatchOption r (lies_in_all es p ≡ false) (λ y. (lies_in_all es p ≡ true) × (y ≡ x))

-- a table of places: how many rows, the place of a row, and where it lies in given text e; 8 is the text that is asked about
pub record Rows : Type 0 where
  pub count : ℕ
  pub place : ℕ → Place
  pub at : ℕ → ℕ → ℕ

-- c can stand for p: it is cheaper, or as dear and not later in spelling
abbrev pub NoLater : Place → Place → Type 0
NoLater c p = (place_cost c < place_cost p) ⊎ ((place_cost c ≡ place_cost p) × (earlier (place_spelled p) (place_spelled c) ≡ false))

-- row i lies where p does, and can stand for it
pub record RowFor (es : List Example) (asked : List (List ℕ)) (R : Rows) (p : Place) (i : ℕ) : Type 0 where
  pub below : i < R.count
  pub same : (e : ℕ) → e < length es → spot (given_of es e) p ≡ R.at i e ∷ []
  pub same_asked : (e : ℕ) → e < length asked → position (slice_index_or asked e []) p ≡ R.at i 8
  pub no_later : NoLater (R.place i) p

-- the table has, in the order of spelling, a row for each valid place that is there in all given texts; asked is no text or one
pub record GoodRows (es : List Example) (asked : List (List ℕ)) (R : Rows) : Type 0 where
  pub ordered : (i j : ℕ) → i < j → j < R.count → earlier (place_spelled (R.place i)) (place_spelled (R.place j)) ≡ true
  pub valid : (i : ℕ) → i < R.count → a_place (R.place i) ≡ true
  pub lies : (i e : ℕ) → i < R.count → e < length es → spot (given_of es e) (R.place i) ≡ R.at i e ∷ []
  pub lies_asked : (i e : ℕ) → i < R.count → e < length asked → position (slice_index_or asked e []) (R.place i) ≡ R.at i 8
  pub complete : (p : Place) → a_place p ≡ true → lies_in_all es p ≡ true → (i : ℕ) × RowFor es asked R p i
