-- The parts of a rule make what is wanted one after the other.
use Rattle.std.proofs.Common.{◌≡◌, ℕ, true, List, ◌++◌, length, take, drop, refl, arith}
use Rattle.std.proofs.lemmas.List.{take_at, drop_at}
use Rattle.rules.specs.Rules.{Made, nothing, made, with_made, makes, part_of, is_made}
use Rattle.rules.specs.Promises.{PartsMake, made_length}
use Rattle.rules.proofs.WhatIsMade.{is_made_eq, is_made_itself}

-- of two that are made one after the other the first makes as much as it has, and the second the rest
pub with_made_splits :
    (m n : Made) (w : List ℕ) → is_made (with_made m n) w ≡ true →
    (is_made m (take (made_length m) w) ≡ true) × (is_made n (drop (made_length m) w) ≡ true)
unfolding made_length with_made is_made
with_made_splits nothing n w h = grind arith
with_made_splits (made a) nothing w h = grind arith
with_made_splits (made a) (made b) w h =
    let e = is_made_eq (made (a ++ b)) w h in
    let f : a ++ b ≡ w = cc in
    (rw (← f, take_at a b (length a) refl) (is_made_itself a), rw (← f, drop_at a b (length a) refl) (is_made_itself b))

pub parts_make : PartsMake
unfolding makes
parts_make p r t w h = with_made_splits (part_of t p) (makes r t) w h
