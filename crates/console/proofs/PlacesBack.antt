-- Kinds, numbers and places are read back.
use Rattle.std.proofs.Common.{◌≡◌, ℕ, zero, suc, ◌+◌, ◌-◌, ◌/◌, ◌%◌, ◌<◌, ◌≤◌, Bool, true, false, ◌&&◌, eqb, ltb, leb, ◌⊎◌, List, [], ◌∷◌, ◌++◌, length, None, codes, sym, refl, ap, ◌∙◌, inl, inr, append_assoc, arith}
use Rattle.std.proofs.lemmas.Bool.{eqb-true, and_parts, leb-true, le-ltb, cases_lt}
use Rattle.rules.specs.Lists.{pick, flat, between}
use Rattle.rules.specs.Places.{Place, from_first, from_last, nth_of}
use Rattle.rules.specs.Rules.{a_kind, a_place}
use Rattle.console.specs.declared.expected.Expected.TheVariants.{LaterNumber, Place as a_place_there, Bytes}
use Rattle.console.specs.Text.{utf8, shown, number_text, ordinal_end, count_end, kind_text, sides_text, nth_text, count_text, place_text}
use Rattle.console.specs.Reading.{read, failed, next, strip, after, front, begins_number, read_number, read_run, read_sign, read_kind, read_behind, read_sides, read_word, read_ordinal, read_later, read_edge, read_count, read_the, read_place}
use Rattle.rules.proofs.Tests.{pick_both}
use Rattle.console.proofs.BytesBack.{strip_back, sign_back}

-- each of the five runs
among_five : (P : ℕ → Type 0) (k : ℕ) → 1 ≤ k → k ≤ 5 → P 1 → P 2 → P 3 → P 4 → P 5 → P k
among_five P zero some few a b c d e = absurd (omega arith)
among_five P (suc zero) some few a b c d e = a
among_five P (suc (suc zero)) some few a b c d e = b
among_five P (suc (suc (suc zero))) some few a b c d e = c
among_five P (suc (suc (suc (suc zero)))) some few a b c d e = d
among_five P (suc (suc (suc (suc (suc zero))))) some few a b c d e = e
among_five P (suc (suc (suc (suc (suc (suc k)))))) some few a b c d e = absurd (omega arith)

run_back : (ends : Bool) (k : ℕ) (t : List ℕ) → 1 ≤ k → k ≤ 5 → read_kind ends (kind_text ends k ++ t) ≡ read k t
unfolding read_kind read_run
run_back true k t some few = among_five (λ j. read_kind true (kind_text true j ++ t) ≡ read j t) k some few refl refl refl refl refl
run_back false k t some few = among_five (λ j. read_kind false (kind_text false j ++ t) ≡ read j t) k some few refl refl refl refl refl

-- and so is a sign
sign_kind_back : (ends : Bool) (k : ℕ) (t : List ℕ) → 256 ≤ k → k < 512 → read_kind ends (kind_text ends k ++ t) ≡ read k t
unfolding read_kind
sign_kind_back ends k t low high =
    let far = le-ltb k 256 low in
    let back = sign_back (utf8 ((k - 256) ∷ [])) (k - 256) t (omega arith) in
    let number : 256 + (k - 256) ≡ k = omega arith in
    rw far (ap read_sign (append_assoc (flat (shown (utf8 ((k - 256) ∷ []))) ((k - 256) ∷ [])) (34 ∷ []) t) ∙ back ∙ ap (λ j. read j t) number)

pub kind_back : (ends : Bool) (k : ℕ) (t : List ℕ) → a_kind k ≡ true → 1 ≤ k → read_kind ends (kind_text ends k ++ t) ≡ read k t
kind_back ends k t a some = step (cases_lt 5 k)
  where
    step : (5 < k) ⊎ (k ≤ 5) → read_kind ends (kind_text ends k ++ t) ≡ read k t
    step (inl h) = let low : 256 ≤ k = grind arith in let high : k < 512 = grind arith in sign_kind_back ends k t low high
    step (inr h) = run_back ends k t some h

-- a number is read back if no digit follows it
pub number_begins : (n : ℕ) (t : List ℕ) → 1 ≤ n → n ≤ 64 → begins_number (number_text n ++ t) ≡ true
number_begins n t some few = grind arith

pub number_back : (n : ℕ) (t : List ℕ) → 1 ≤ n → n ≤ 64 → between 48 57 (front t) ≡ false → read_number (number_text n ++ t) ≡ read n t
unfolding read_number
number_back n t some few e = pick_both (ltb n 10) ((48 + n) ∷ []) ((48 + n / 10) ∷ (48 + n % 10) ∷ []) (λ s. read_number (s ++ t) ≡ read n t) (λ h. grind arith) (λ h. grind arith)

-- what is behind a place is read back, also if it is nothing, unless the text goes on as if there was something
behind_back : (l r n : ℕ) (back : Bool) (t : List ℕ) → a_kind r ≡ true → strip (codes ", and behind which ") t ≡ None → read_behind l n back (pick (eqb r 0) [] (codes ", and behind which " ++ kind_text false r) ++ t) ≡ read (nth_of l r n back) t
unfolding read_behind
behind_back l r n back t a e =
    pick_both (eqb r 0) [] (codes ", and behind which " ++ kind_text false r) (λ s. read_behind l n back (s ++ t) ≡ read (nth_of l r n back) t)
    (λ z. rw e (ap (λ k. read (nth_of l k n back) t) (sym (eqb-true r 0 z))))
    (λ z. ap (λ x. next x (λ k v. read (nth_of l k n back) v)) (kind_back false r t a (grind arith)))

pub sides_back : (l r n : ℕ) (back : Bool) (t : List ℕ) → a_kind l ≡ true → a_kind r ≡ true → 1 ≤ l + r → strip (codes ", and behind which ") t ≡ None → read_sides n back (sides_text l r ++ t) ≡ read (nth_of l r n back) t
unfolding read_sides
sides_back l r n back t al ar some e =
    let more = pick (eqb r 0) [] (codes ", and behind which " ++ kind_text false r) in
    pick_both (eqb l 0) (codes "behind which " ++ kind_text false r) (codes "before which " ++ kind_text true l ++ more) (λ s. read_sides n back (s ++ t) ≡ read (nth_of l r n back) t)
    (λ z. ap (λ x. next x (λ k v. read (nth_of 0 k n back) v)) (kind_back false r t ar (grind arith)) ∙ ap (λ k. read (nth_of k r n back) t) (sym (eqb-true l 0 z)))
    (λ z.
    ap (λ u. next (read_kind true u) (λ k v. read_behind k n back v)) (append_assoc (kind_text true l) more t)
    ∙ ap (λ x. next x (λ k v. read_behind k n back v)) (kind_back true l (more ++ t) al (grind arith))
    ∙ behind_back l r n back t ar e)

-- no digit follows the number
ordinal_end_front : (n : ℕ) (t : List ℕ) → between 48 57 (front (ordinal_end n ++ t)) ≡ false
ordinal_end_front n t = grind arith

word_back : (n : ℕ) (back : Bool) (t : List ℕ) → read_word n (pick back (codes " last place ") (codes " place ") ++ t) ≡ read_sides n back t
unfolding read_word
word_back n true t = refl
word_back n false t = refl

ordinal_back : (n : ℕ) (t : List ℕ) → read_ordinal n (ordinal_end n ++ t) ≡ read_word n t
unfolding read_ordinal
ordinal_back n t = rw strip_back

later_back : (n : ℕ) (t : List ℕ) → 1 ≤ n → n ≤ 64 → eqb n 1 ≡ false → read_later (number_text n ++ (ordinal_end n ++ t)) ≡ read_word n t
unfolding read_later
later_back n t some few e =
    let text = number_text n ++ (ordinal_end n ++ t) in
    ap (λ x. next x (λ m u. pick (eqb m 1) (failed (length text) LaterNumber) (read_ordinal m u))) (number_back n (ordinal_end n ++ t) some few (ordinal_end_front n t))
    ∙ ap (λ b. pick b (failed (length text) LaterNumber) (read_ordinal n (ordinal_end n ++ t))) e
    ∙ ordinal_back n t

-- the first place and the last one
first_back : (back : Bool) (t : List ℕ) → read_the (pick back (codes "last place ") (codes "first place ") ++ t) ≡ read_sides 1 back t
unfolding read_the
first_back true t = refl
first_back false t = refl

pub regroup : (a b c d : List ℕ) → a ++ b ++ c ++ d ≡ a ++ (b ++ (c ++ d))
regroup a b c d = simp append_assoc

nth_back : (n : ℕ) (back : Bool) (t : List ℕ) → 1 ≤ n → n ≤ 64 → read_the (nth_text n back ++ t) ≡ read_sides n back t
unfolding read_the
nth_back n back t some few =
    let word = pick back (codes " last place ") (codes " place ") in
    pick_both (eqb n 1) (pick back (codes "last place ") (codes "first place ")) (number_text n ++ ordinal_end n ++ word) (λ s. read_the (s ++ t) ≡ read_sides n back t)
    (λ e. first_back back t ∙ ap (λ m. read_sides m back t) (sym (eqb-true n 1 e)))
    (λ e.
    let text = number_text n ++ (ordinal_end n ++ (word ++ t)) in
    let begins : begins_number text ≡ true = number_begins n (ordinal_end n ++ (word ++ t)) some few in
    ap read_the (regroup (number_text n) (ordinal_end n) word t)
    ∙ ap (λ b. pick b (read_later text) (after (strip (codes "first place ") text) (read_sides 1 false) (after (strip (codes "last place ") text) (read_sides 1 true) (read_edge 0 text)))) begins
    ∙ later_back n (word ++ t) some few e
    ∙ word_back n back t)

-- so many bytes from an edge
count_back : (n : ℕ) (t : List ℕ) → 1 ≤ n → n ≤ 64 → read_place (number_text n ++ (count_end n ++ t)) ≡ read_edge n t
unfolding read_place read_count
count_back n t some few =
    let text = number_text n ++ (count_end n ++ t) in
    let begins : begins_number text ≡ true = number_begins n (count_end n ++ t) some few in
    ap (λ b. pick b (read_count text) (after (strip (codes "the ") text) read_the (failed (length text) a_place_there))) begins
    ∙ ap (λ x. next x (λ m u. after (strip (count_end m) u) (read_edge m) (failed (length u) Bytes))) (number_back n (count_end n ++ t) some few refl)
    ∙ ap (λ o. after o (read_edge n) (failed (length (count_end n ++ t)) Bytes)) (strip_back (count_end n) t)

edge_back : (n : ℕ) (edge t : List ℕ) → n ≤ 64 → read_the (edge ++ t) ≡ read_edge 0 (edge ++ t) → read_place (count_text n ++ edge ++ t) ≡ read_edge n (edge ++ t)
unfolding read_place
edge_back n edge t few at_Edge =
    let counted = number_text n ++ count_end n in
    ap read_place (append_assoc (pick (eqb n 0) (codes "the ") counted) edge t)
    ∙ pick_both (eqb n 0) (codes "the ") counted (λ s. read_place (s ++ (edge ++ t)) ≡ read_edge n (edge ++ t))
    (λ e. at_Edge ∙ ap (λ m. read_edge m (edge ++ t)) (sym (eqb-true n 0 e)))
    (λ e. ap read_place (append_assoc (number_text n) (count_end n) (edge ++ t)) ∙ count_back n (edge ++ t) (grind arith) few)

-- a place is read back unless the text goes on as if there was something behind it
pub place_back : (p : Place) (t : List ℕ) → a_place p ≡ true → strip (codes ", and behind which ") t ≡ None → read_place (place_text p ++ t) ≡ read p t
unfolding a_place read_place read_the read_edge
place_back (from_first n) t a e = edge_back n (codes "beginning") t (leb-true n 64 a) refl
place_back (from_last n) t a e = edge_back n (codes "end") t (leb-true n 64 a) refl
place_back (nth_of l r n back) t a e =
    let kinds = and_parts (a_kind l && a_kind r) (leb 1 n && (leb n 64 && leb 1 (l + r))) a in
    let each_kind = and_parts (a_kind l) (a_kind r) kinds.0 in
    let few = and_parts (leb 1 n) (leb n 64 && leb 1 (l + r)) kinds.1 in
    let some = and_parts (leb n 64) (leb 1 (l + r)) few.1 in
    ap read_the (append_assoc (nth_text n back) (sides_text l r) t)
    ∙ nth_back n back (sides_text l r ++ t) (leb-true 1 n few.0) (leb-true n 64 some.0)
    ∙ sides_back l r n back t each_kind.0 each_kind.1 (leb-true 1 (l + r) some.1) e
