-- Printing appends: by a loop, what was appended and what is left to append make the whole; by a call, if there is memory.
use Rattle.std.proofs.Common.{◌≡◌, ℕ, ◌+◌, ◌-◌, ◌<◌, ◌≤◌, Bool, true, false, eqb, ltb, List, [], ◌∷◌, ◌++◌, length, get_or, take, drop, IfOk, codes, Result, sym, refl, ap, ◌∙◌, append_assoc, append-nil, arith}
use Rattle.std.proofs.lemmas.Bool.{le-ltb, eq-eqb, ne_eqb}
use Rattle.std.proofs.lemmas.List.{at_drop_more, at_drop_all, take_rest}
use Rattle.rules.specs.Lists.{pick, flat, each}
use Rattle.rules.specs.Values.{the_part, the_parts}
use Rattle.rules.specs.declared.part.Part.{Part}
use Rattle.std.proofs.lemmas.Result.{IfOk-weaker}
use Rattle.console.specs.Text.{quoted, run_text, kind_text, sides_text, part_text, later_text, rule_text}

-- what is left to append, at an element and at the end
pub flat_at : {A B : Type 0} (f : A → List B) (xs : List A) (i : ℕ) (d : A) → i < length xs → flat f (drop i xs) ≡ f (get_or xs i d) ++ flat f (drop (i + 1) xs)
flat_at f xs i d h = at_drop_more (flat f) xs i d h

pub flat_end : {A B : Type 0} (f : A → List B) (xs : List A) (i : ℕ) → length xs ≤ i → flat f (drop i xs) ≡ []
flat_end f xs i h = at_drop_all (flat f) xs i h

pub ruleset appends = (flat_at, flat_end)

-- one more append
pub more : {B : Type 0} (start was out as₁ bs : List B) → was ≡ start ++ as₁ → out ≡ was ++ bs → out ≡ start ++ (as₁ ++ bs)
more start was out as₁ bs w o = o ∙ ap (λ l. l ++ bs) w ∙ append_assoc start as₁ bs

-- and the last one, which makes the whole
pub made_last : {B X Y : Type 0} (r : Result X Y) (start was out as₁ bs whole : List B) → was ≡ start ++ as₁ → as₁ ++ bs ≡ whole → IfOk r (λ _. out ≡ was ++ bs) → IfOk r (λ _. out ≡ start ++ whole)
made_last r start was out as₁ bs whole w e h = IfOk-weaker r (λ _. out ≡ was ++ bs) (λ _. out ≡ start ++ whole) (λ x o. more start was out as₁ bs w o ∙ ap (λ l. start ++ l) e) h

picks : {A : Type 0} (b : Bool) (x y : A) → b ≡ true → x ≡ pick b x y
picks b x y e = ap (λ c. pick c x y) (sym e)

passes : {A : Type 0} (b : Bool) (x y : A) → b ≡ false → y ≡ pick b x y
passes b x y e = ap (λ c. pick c x y) (sym e)

-- WHAT THE APPENDED WORDS MAKE
pub sign_whole : (ends : Bool) (c : ℕ) → codes "there's a " ++ quoted (c ∷ []) ≡ kind_text ends (256 + c)
sign_whole ends c =
    let number : 256 + c - 256 ≡ c = omega arith in
    ap (λ d. codes "there's a " ++ quoted (d ∷ [])) (sym number)
    ∙ passes (ltb (256 + c) 256) (run_text ends (256 + c)) (codes "there's a " ++ quoted ((256 + c - 256) ∷ [])) (le-ltb (256 + c) 256 (omega arith))

before_more : (l r : ℕ) → (l ≡ 0 → ⊥) → codes "before which " ++ kind_text true l ++ pick (eqb r 0) [] (codes ", and behind which " ++ kind_text false r) ≡ sides_text l r
before_more l r e =
    passes (eqb l 0) (codes "behind which " ++ kind_text false r) (codes "before which " ++ kind_text true l ++ pick (eqb r 0) [] (codes ", and behind which " ++ kind_text false r)) (ne_eqb l 0 e)

pub before_whole : (l r : ℕ) → (l ≡ 0 → ⊥) → r ≡ 0 → codes "before which " ++ kind_text true l ≡ sides_text l r
before_whole l r e z =
    let start = codes "before which " ++ kind_text true l in
    sym (append-nil start) ∙ ap (λ s. start ++ s) (picks (eqb r 0) [] (codes ", and behind which " ++ kind_text false r) (eq-eqb r 0 z)) ∙ before_more l r e

pub both_whole : (l r : ℕ) → (l ≡ 0 → ⊥) → (r ≡ 0 → ⊥) → codes "before which " ++ kind_text true l ++ codes ", and behind which " ++ kind_text false r ≡ sides_text l r
both_whole l r e z =
    let start = codes "before which " ++ kind_text true l in
    append_assoc start (codes ", and behind which ") (kind_text false r) ∙ ap (λ s. start ++ s) (passes (eqb r 0) [] (codes ", and behind which " ++ kind_text false r) (ne_eqb r 0 z)) ∙ before_more l r e

flat_each : {A B C : Type 0} (g : B → List C) (f : A → B) (xs : List A) → flat (λ x. g (f x)) xs ≡ flat g (each f xs)
flat_each g f [] = refl
flat_each g f (x ∷ xs) = ap (λ l. g (f x) ++ l) (flat_each g f xs)

pub parts_whole : (ps : List Part) (first : Part) → 1 ≤ length ps → first ≡ get_or ps 0 first → part_text (the_part first) ++ flat (λ p. later_text (the_part p)) (take (length ps - 1) (drop 1 ps)) ≡ rule_text (the_parts ps)
parts_whole [] first some e = absurd (omega arith)
parts_whole (p ∷ ps) first some e =
    ap (λ q. part_text (the_part q) ++ flat (λ q. later_text (the_part q)) (take (length (p ∷ ps) - 1) ps)) e
    ∙ ap (λ l. part_text (the_part p) ++ flat (λ q. later_text (the_part q)) l) (take_rest (p ∷ ps) 1)
    ∙ ap (λ l. part_text (the_part p) ++ l) (flat_each later_text the_part ps)
