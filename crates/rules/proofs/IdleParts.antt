-- A rule without one of its parts costs less, so the first rule has no part that makes no bytes in every example.
use Rattle.std.proofs.Common.{◌≡◌, ℕ, ◌+◌, Bool, true, List, [], ◌∷◌, ◌++◌, refl, arith, length-append}
use Rattle.std.proofs.lemmas.Bool.Decides.{nat_tests}
use Rattle.rules.specs.Lists.{every}
use Rattle.rules.specs.Rules.{Part, Rule, makes, part_of, is_made, cost, a_part, a_rule}
use Rattle.rules.specs.Order.{First}
use Rattle.rules.specs.Examples.{Example, does}
use Rattle.rules.specs.Promises.{LessCosts, NoIdle}
use Rattle.rules.proofs.Tests.{every_append}
use Rattle.rules.proofs.WhatIsMade.{is_made_eq, with_made_left, makes_append}
use Rattle.rules.proofs.RuleOrder.{cheaper_before}

pub cost_append : (p q : Rule) → cost (p ++ q) ≡ cost p + cost q
unfolding cost
cost_append [] q = omega arith
cost_append (x ∷ xs) q = omega (arith, cost_append xs q)

pub less_costs : LessCosts
unfolding cost makes
less_costs as₁ bs p = (omega (arith, cost_append as₁ bs, cost_append as₁ (p ∷ bs)), same)
  where
    same : (t : List ℕ) → is_made (part_of t p) [] ≡ true → makes (as₁ ++ p ∷ bs) t ≡ makes (as₁ ++ bs) t
    same t h =
        let e = is_made_eq (part_of t p) [] h in
        let l = with_made_left (makes bs t) in
        let a = makes_append as₁ bs t in
        let b = makes_append as₁ (p ∷ bs) t in
        cc

-- a rule without one of its parts is a rule
pub less_is_rule : (as₁ bs : Rule) (p : Part) → a_rule (as₁ ++ p ∷ bs) ≡ true → a_rule (as₁ ++ bs) ≡ true
less_is_rule as₁ bs p h =
    let a = every_append a_part as₁ bs in
    let b = every_append a_part as₁ (p ∷ bs) in
    let l = length-append as₁ bs in
    let k = length-append as₁ (p ∷ bs) in
    grind (arith, nat_tests)

-- the part makes no bytes in any of the examples
abbrev pub idle : List Example → Part → Bool
idle es p = every (λ e. is_made (part_of e.given p) []) es

-- without an idle part a rule does the same examples
pub less_does : (es : List Example) (as₁ bs : Rule) (p : Part) → idle es p ≡ true → does es (as₁ ++ p ∷ bs) ≡ true → does es (as₁ ++ bs) ≡ true
less_does [] as₁ bs p h d = refl
less_does (e ∷ es) as₁ bs p h d =
    let s = (less_costs as₁ bs p).1 e.given in
    let ih = less_does es as₁ bs p in
    grind arith

pub no_idle : NoIdle
unfolding First
no_idle es as₁ bs p f =
    let does_too = λ (h : idle es p ≡ true). less_does es as₁ bs p h f.1 in
    let not_before = f.2 (as₁ ++ bs) (less_is_rule as₁ bs p f.0) in
    let before = cheaper_before (as₁ ++ bs) (as₁ ++ p ∷ bs) (less_costs as₁ bs p).0 in
    grind arith
