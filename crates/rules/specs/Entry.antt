-- What the entry that finds a place answers. Assumes nothing: these are definitions.
use Rattle.std.specs.Prelude.{◌≡◌, ℕ, zero, suc, ◌&&◌, List, [], ◌∷◌, length, Some, None, Ok, Option, Result, MatchResult, ◌==◌, nat_le}
use Rattle.rules.specs.Lists.{pick}
use Rattle.rules.specs.Places.{nth_of, spot}
use Rattle.rules.specs.Rules.{a_kind}
use Rattle.rules.specs.declared.entry.FindRefusal.{FindRefusal}
use Rattle.rules.specs.declared.entry.FindRefusal.TheVariants.{TooLong, NoKind}

-- a position, or none, as the entry tells it
abbrev pub place_told : List ℕ → Option ℕ
place_told [] = None
place_told (p ∷ ps) = Some p

-- the number of a refusal
abbrev pub refusal_number : FindRefusal → ℕ
refusal_number TooLong = 1
refusal_number NoKind = 2

-- refused with 1 if the text is longer than 65,535 bytes, with 2 if a kind is none; 0 is no refusal
abbrev pub refusal : (text : List ℕ) (left right : ℕ) → ℕ
refusal text left right = pick (nat_le (length text) 65535) (pick (a_kind left && a_kind right) 0 2) 1

-- the refusal, or where the nth place is, from the end if back is 1
abbrev pub FindSays : (text : List ℕ) (left right n back : ℕ) → (refusal : ℕ) → Result (Option ℕ) FindRefusal → Type 0
FindSays text left right n back zero r = r ≡ Ok (place_told (spot text (nth_of left right n (back == 1))))
FindSays text left right n back (suc k) r = MatchResult r (λ _. ⊥) (λ e. refusal_number e ≡ suc k)
