-- Parts lead from a state to the end exactly if they make of each given text what is left of the wanted one; so they do the examples exactly if they lead from the start.
use Rattle.std.proofs.Common.{◌≡◌, ℕ, zero, suc, ◌+◌, ◌<◌, ◌≤◌, Bool, true, false, ◌&&◌, eqb, leb, List, [], ◌∷◌, length, get_or, drop, replicate, sym, refl, ap, ◌∙◌, subst, ap₂, arith, length-drop}
use Rattle.std.proofs.lemmas.Bool.{and_parts, and_from, leb-true, le-leb, eqb-true, eq-eqb}
use Rattle.std.proofs.lemmas.Bool.Decides.{nat_tests}
use Rattle.std.proofs.lemmas.List.{drop_all}
use Rattle.rules.specs.Rules.{Part, Rule, made, makes, part_of, is_made}
use Rattle.rules.specs.Promises.{made_length}
use Rattle.rules.specs.Examples.{Example, does}
use Rattle.rules.proofs.WhatIsMade.{is_made_eq, is_made_itself}
use Rattle.candidates.specs.Moves.{goes_on, goes, moved, at_end, leads, within, start}
use Rattle.candidates.specs.Rows.{given_of, wanted_of}
use Rattle.candidates.proofs.GoesOn.{same_tests, goes_on_within, makes_step}

-- the rule makes of the given text what is left of the wanted one from position j on, and j is not past its end
abbrev pub makes_rest : Example → ℕ → Rule → Bool
makes_rest e j q = leb j (length e.wanted) && is_made (makes q e.given) (drop j e.wanted)

-- the same for each example
unfoldable pub makes_rests : List Example → List ℕ → Rule → Bool
makes_rests [] s q = true
makes_rests (e ∷ es) [] q = false
makes_rests (e ∷ es) (j ∷ js) q = makes_rest e j q && makes_rests es js q

rest_none : (e : Example) (j : ℕ) → makes_rest e j [] ≡ eqb j (length e.wanted)
unfolding makes
rest_none e j = same_tests (makes_rest e j []) (eqb j (length e.wanted)) ends begins
  where
    ends : makes_rest e j [] ≡ true → eqb j (length e.wanted) ≡ true
    ends h =
        let s = and_parts (leb j (length e.wanted)) (is_made (makes [] e.given) (drop j e.wanted)) h in
        let a = leb-true j (length e.wanted) s.0 in
        let m : made [] ≡ made (drop j e.wanted) = is_made_eq (made []) (drop j e.wanted) s.1 in
        let n : [] ≡ drop j e.wanted = cc in
        let l : length {A = ℕ} [] ≡ length (drop j e.wanted) = ap length n in
        let d = length-drop j e.wanted in
        eq-eqb j (length e.wanted) (omega arith)

    begins : eqb j (length e.wanted) ≡ true → makes_rest e j [] ≡ true
    begins h =
        let a = eqb-true j (length e.wanted) h in
        let d = drop_all j e.wanted (omega arith) in
        and_from _ _ (le-leb j (length e.wanted) (omega arith)) (subst (λ x. is_made (made []) x ≡ true) (sym d) (is_made_itself []))

rest_step : (e : Example) (j : ℕ) (p : Part) (q : Rule) → makes_rest e j (p ∷ q) ≡ (goes_on e p j && makes_rest e (j + made_length (part_of e.given p)) q)
rest_step e j p q =
    let s = makes_step e p q j in
    let g = goes_on_within e p j in
    grind (arith, nat_tests)

rests_none : (es : List Example) (s : List ℕ) → makes_rests es s [] ≡ at_end es s
unfolding makes_rests at_end
rests_none [] s = refl
rests_none (e ∷ es) [] = refl
rests_none (e ∷ es) (j ∷ js) = ap₂ ◌&&◌ (rest_none e j) (rests_none es js)

rests_step : (es : List Example) (s : List ℕ) (p : Part) (q : Rule) → makes_rests es s (p ∷ q) ≡ (goes es p s && makes_rests es (moved es p s) q)
unfolding makes_rests goes moved
rests_step [] s p q = refl
rests_step (e ∷ es) [] p q = refl
rests_step (e ∷ es) (j ∷ js) p q = let a = rest_step e j p q in let ih = rests_step es js p q in grind arith

-- no more is asked of the state than it says
pub leads_rests : (es : List Example) (s : List ℕ) (q : Rule) → leads es s q ≡ makes_rests es s q
unfolding leads
leads_rests es s [] = sym (rests_none es s)
leads_rests es s (p ∷ q) = ap (λ b. goes es p s && b) (leads_rests es (moved es p s) q) ∙ sym (rests_step es s p q)

-- a rule that leads to the end makes of each given text what is left of its wanted text
rests_makes : (es : List Example) (s : List ℕ) (q : Rule) (e : ℕ) → makes_rests es s q ≡ true → e < length es → makes q (given_of es e) ≡ made (drop (get_or s e 0) (wanted_of es e))
unfolding makes_rests
rests_makes [] s q e h k = absurd (omega arith)
rests_makes (x ∷ es) [] q e h k = absurd (grind arith)
rests_makes (x ∷ es) (j ∷ js) q zero h k =
    is_made_eq _ _ (and_parts (leb j (length x.wanted)) _ (and_parts (makes_rest x j q) (makes_rests es js q) h).0).1
rests_makes (x ∷ es) (j ∷ js) q (suc e) h k = rests_makes es js q e (and_parts (makes_rest x j q) (makes_rests es js q) h).1 (omega arith)

pub leads_makes : (es : List Example) (s : List ℕ) (q : Rule) (e : ℕ) → leads es s q ≡ true → e < length es → makes q (given_of es e) ≡ made (drop (get_or s e 0) (wanted_of es e))
leads_makes es s q e h k = rests_makes es s q e (sym (leads_rests es s q) ∙ h) k

-- from a state that is not past any end
rests_within : (es : List Example) (s : List ℕ) (q : Rule) → makes_rests es s q ≡ true → within es s ≡ true
unfolding makes_rests within
rests_within [] s q h = refl
rests_within (x ∷ es) [] q h = absurd (grind arith)
rests_within (x ∷ es) (j ∷ js) q h =
    let a = and_parts (makes_rest x j q) (makes_rests es js q) h in
    and_from _ _ (and_parts (leb j (length x.wanted)) (is_made (makes q x.given) (drop j x.wanted)) a.0).0 (rests_within es js q a.1)

pub leads_within : (es : List Example) (s : List ℕ) (q : Rule) → leads es s q ≡ true → within es s ≡ true
leads_within es s q h = rests_within es s q (sym (leads_rests es s q) ∙ h)

-- and a rule that does so from a state that is not past any end leads to the end
rests_from : (es : List Example) (s : List ℕ) (q : Rule) → within es s ≡ true → ((e : ℕ) → e < length es → makes q (given_of es e) ≡ made (drop (get_or s e 0) (wanted_of es e))) → makes_rests es s q ≡ true
unfolding makes_rests within
rests_from [] s q w h = refl
rests_from (x ∷ es) [] q w h = w
rests_from (x ∷ es) (j ∷ js) q w h =
    let p = and_parts (leb j (length x.wanted)) (within es js) w in
    let m = subst (λ m. is_made m (drop j x.wanted) ≡ true) (sym (h 0 (omega arith))) (is_made_itself (drop j x.wanted)) in
    let ih = rests_from es js q p.1 (λ e k. h (suc e) (omega arith)) in
    and_from _ _ (and_from _ _ p.0 m) ih

pub makes_leads : (es : List Example) (s : List ℕ) (q : Rule) → within es s ≡ true → ((e : ℕ) → e < length es → makes q (given_of es e) ≡ made (drop (get_or s e 0) (wanted_of es e))) → leads es s q ≡ true
makes_leads es s q w h = leads_rests es s q ∙ rests_from es s q w h

rests_does : (es : List Example) (n : ℕ) (q : Rule) → length es ≤ n → makes_rests es (replicate n 0) q ≡ does es q
unfolding makes_rests
rests_does [] n q h = refl
rests_does (e ∷ es) zero q h = absurd (omega arith)
rests_does (e ∷ es) (suc n) q h = let ih = rests_does es n q (omega arith) in let z : leb 0 (length e.wanted) ≡ true = le-leb 0 (length e.wanted) (omega arith) in grind (arith, nat_tests)

pub does_leads : (es : List Example) (q : Rule) → length es ≤ 8 → does es q ≡ leads es start q
does_leads es q h = sym (leads_rests es start q ∙ rests_does es 9 q (omega arith))
