-- What a part makes next in one wanted text: the tests as equations, and how far it comes.
use Rattle.std.proofs.Common.{◌≡◌, ℕ, ◌+◌, ◌≤◌, Bool, true, false, ◌&&◌, List, ◌∷◌, ◌++◌, length, take, drop, sym, refl, ap, ◌∙◌, subst, arith, length-drop, take-append-drop, length-take}
use Rattle.std.proofs.lemmas.List.{drop-drop}
use Rattle.std.proofs.lemmas.Bool.{and_parts, and_from}
use Rattle.rules.specs.Rules.{Part, Rule, Made, nothing, made, with_made, makes, part_of, is_made}
use Rattle.rules.specs.Promises.{made_length}
use Rattle.rules.specs.Examples.{Example}
use Rattle.rules.proofs.WhatIsMade.{is_made_eq, is_made_itself}
use Rattle.rules.proofs.PartsMake.{with_made_splits}
use Rattle.candidates.specs.Moves.{goes_on}

-- two tests that imply each other are the same
pub same_tests : (a b : Bool) → (a ≡ true → b ≡ true) → (b ≡ true → a ≡ true) → a ≡ b
same_tests true b h k = sym (h refl)
same_tests false true h k = k refl
same_tests false false h k = refl

pub goes_on_made : (e : Example) (p : Part) (j : ℕ) → goes_on e p j ≡ true → part_of e.given p ≡ made (take (made_length (part_of e.given p)) (drop j e.wanted))
goes_on_made e p j h = is_made_eq (part_of e.given p) (take (made_length (part_of e.given p)) (drop j e.wanted)) h

made_fits : (m : Made) (w : List ℕ) → is_made m (take (made_length m) w) ≡ true → made_length m ≤ length w
unfolding made_length is_made
made_fits nothing w h = omega arith
made_fits (made a) w h =
    let e : made a ≡ made (take (length a) w) = is_made_eq (made a) (take (length a) w) h in
    let f : a ≡ take (length a) w = cc in
    let l : length a ≡ length (take (length a) w) = ap length f in
    let k = length-take (length a) w in
    omega arith

-- a part that goes on does not go past the end
pub goes_on_within : (e : Example) (p : Part) (j : ℕ) → goes_on e p j ≡ true → j ≤ length e.wanted → j + made_length (part_of e.given p) ≤ length e.wanted
goes_on_within e p j h k =
    let f = made_fits (part_of e.given p) (drop j e.wanted) h in
    let d = length-drop j e.wanted in
    omega arith

-- two that make the front and the rest make the whole
with_made_joins :
    (m n : Made) (w : List ℕ) → is_made m (take (made_length m) w) ≡ true → is_made n (drop (made_length m) w) ≡ true → is_made (with_made m n) w ≡ true
unfolding made_length with_made is_made
with_made_joins nothing n w h k = h
with_made_joins (made a) nothing w h k = k
with_made_joins (made a) (made b) w h k =
    let e : made a ≡ made (take (length a) w) = is_made_eq (made a) (take (length a) w) h in
    let f : made b ≡ made (drop (length a) w) = is_made_eq (made b) (drop (length a) w) k in
    let i : a ++ b ≡ take (length a) w ++ drop (length a) w = cc in
    subst (λ x. is_made (made (a ++ b)) x ≡ true) (i ∙ take-append-drop (length a) w) (is_made_itself (a ++ b))

-- what a part and a rule make one after the other is what is wanted exactly if the part goes on and the rule makes the rest
pub makes_step :
    (e : Example) (p : Part) (q : Rule) (j : ℕ) →
    is_made (makes (p ∷ q) e.given) (drop j e.wanted)
    ≡ (goes_on e p j && is_made (makes q e.given) (drop (j + made_length (part_of e.given p)) e.wanted))
unfolding makes
makes_step e p q j =
    let m = part_of e.given p in
    let n = makes q e.given in
    let w = drop j e.wanted in
    let d = drop-drop (made_length (part_of e.given p)) j e.wanted in
    same_tests (is_made (with_made m n) w) (goes_on e p j && is_made n (drop (j + made_length m) e.wanted))
    (λ h. let s = with_made_splits m n w h in and_from _ _ s.0 (subst (λ x. is_made n x ≡ true) d s.1))
    (λ h. let s = and_parts (goes_on e p j) (is_made n (drop (j + made_length m) e.wanted)) h in with_made_joins m n w s.0 (subst (λ x. is_made n x ≡ true) (sym d) s.1))
