-- Bytes from which a rule is read are its spelling, and it is a rule there is.
use Rattle.std.proofs.Common.{◌≡◌, ℕ, zero, suc, ◌/◌, ◌%◌, ◌<◌, ◌≤◌, Bool, true, false, eqb, ltb, leb, ◌⊎◌, List, [], ◌∷◌, ◌++◌, length, get_or, take, drop, None, Ok, Err, Result, sym, refl, ap, ◌∙◌, ap₂, subst₂, inl, inr, append_assoc, append-nil, arith}
use Rattle.std.proofs.lemmas.List.{length-take-le, take-append-drop, nil_from_length}
use Rattle.std.proofs.lemmas.Bool.{and_parts, and_from, ltb-false, leb-true, eqb-true}
use Rattle.rules.specs.Faults.{rule_fault}
use Rattle.rules.specs.Lists.{every, pick, flat}
use Rattle.rules.specs.Order.{flag, place_spelled, part_spelled, rule_spelled}
use Rattle.rules.specs.Places.{Place, from_first, from_last, nth_of}
use Rattle.rules.specs.Promises.{ReadIsSpelling}
use Rattle.rules.specs.Reading.{Read, and_then, number, read_byte, nth_read, read_nth, read_place, read_cut, read_literal, read_part, read_parts, whole, read_counted}
use Rattle.rules.specs.Rules.{Part, bytes, cut, Rule, a_kind}
use Rattle.rules.specs.declared.fault.Fault.{Fault}
use Rattle.rules.proofs.FaultlessRules.{place_sound, part_sound, rule_there}
use Rattle.rules.proofs.Tests.{every_take, every_drop}

-- where something was read, each step read something, and each test came out so
then_read : {A B : Type 0} (s : Read A) (next : A → List ℕ → Read B) (x : B × List ℕ) → and_then s next ≡ Ok x → (a : A) × (rest : List ℕ) × (s ≡ Ok (a, rest)) × (next a rest ≡ Ok x)
then_read (Ok y) next x h = (y.0, y.1, refl, h)
then_read (Err f) next x h = absurd (grind arith)

either_read : {A : Type 0} (b : Bool) (s t : Result A Fault) (x : A) → pick b s t ≡ Ok x → ((b ≡ true) × (s ≡ Ok x)) ⊎ ((b ≡ false) × (t ≡ Ok x))
either_read true s t x h = inl (refl, h)
either_read false s t x h = inr (refl, h)

test_passed : {A : Type 0} (b : Bool) (s : Result A Fault) (f : Fault) (x : A) → pick b s (Err f) ≡ Ok x → (b ≡ true) × (s ≡ Ok x)
test_passed b s f x h = grind arith

test_failed : {A : Type 0} (b : Bool) (s : Result A Fault) (f : Fault) (x : A) → pick b (Err f) s ≡ Ok x → (b ≡ false) × (s ≡ Ok x)
test_failed b s f x h = grind arith

read_same : {A : Type 0} (a b : A) (x y : List ℕ) → ◌≡◌ {A = Read A} (Ok (a, x)) (Ok (b, y)) → (a ≡ b) × (x ≡ y)
read_same a b x y h = grind arith

abbrev all_bytes : List ℕ → Bool
all_bytes bs = every (λ c. ltb c 256) bs

module _ {A : Type 0} (spelled : A → List ℕ) (sound : A → Bool) where
  -- x, made of kinds and bytes, is spelled at the front of bs, and the rest are bytes
  abbrev Spelled : List ℕ → A → List ℕ → Type 0
  Spelled bs x rest = (bs ≡ spelled x ++ rest) × (all_bytes rest ≡ true) × (sound x ≡ true)

  -- what is read of bytes is spelled there, with the tags before them
  abbrev Reads : (tags : List ℕ) → (List ℕ → Read A) → Type 0
  Reads tags reader = (bs : List ℕ) (x : A) (rest : List ℕ) → all_bytes bs ≡ true → reader bs ≡ Ok (x, rest) → Spelled (tags ++ bs) x rest

  tagged : (tag k : ℕ) (bs : List ℕ) (x : A) (rest : List ℕ) → eqb tag k ≡ true → Spelled (k ∷ bs) x rest → Spelled (tag ∷ bs) x rest
  tagged tag k bs x rest e s = rw (eqb-true tag k e) s

-- PLACES
two_there : (a b : ℕ) → b < 256 → (number a b / 256 ≡ a) × (number a b % 256 ≡ b)
two_there a b h = omega arith

flag_there : (f : ℕ) → leb f 1 ≡ true → flag (eqb f 1) ≡ f
flag_there f h = grind arith

nth_was : (l r n f : ℕ) (bs : List ℕ) (p : Place) (rest : List ℕ) → nth_read l r n f bs ≡ Ok (p, rest) → (nth_of l r n (eqb f 1) ≡ p) × (bs ≡ rest) × (flag (eqb f 1) ≡ f) × (place_sound p ≡ true)
nth_was l r n f bs p rest h =
    let left = test_passed (a_kind l) _ _ _ h in
    let right = test_passed (a_kind r) _ _ _ left.1 in
    let back = test_passed (leb f 1) _ _ _ right.1 in
    let same = read_same _ _ _ _ back.1 in
    (same.0, same.1, flag_there f back.0, sym (ap place_sound same.0) ∙ and_from _ _ left.0 right.0)

six_there : (bs : List ℕ) → 6 ≤ length bs → bs ≡ get_or bs 0 0 ∷ get_or bs 1 0 ∷ get_or bs 2 0 ∷ get_or bs 3 0 ∷ get_or bs 4 0 ∷ get_or bs 5 0 ∷ drop 6 bs
six_there [] h = absurd (omega arith)
six_there (a ∷ []) h = absurd (omega arith)
six_there (a ∷ b ∷ []) h = absurd (omega arith)
six_there (a ∷ b ∷ c ∷ []) h = absurd (omega arith)
six_there (a ∷ b ∷ c ∷ d ∷ []) h = absurd (omega arith)
six_there (a ∷ b ∷ c ∷ d ∷ n ∷ []) h = absurd (omega arith)
six_there (a ∷ b ∷ c ∷ d ∷ n ∷ f ∷ bs) h = refl

of_six :
    (a b c d n f : ℕ) (bs : List ℕ) (p : Place) (rest : List ℕ) → all_bytes (a ∷ b ∷ c ∷ d ∷ n ∷ f ∷ bs) ≡ true →
    nth_read (number a b) (number c d) n f bs ≡ Ok (p, rest) → Spelled place_spelled place_sound (2 ∷ a ∷ b ∷ c ∷ d ∷ n ∷ f ∷ bs) p rest
unfolding place_spelled
of_six a b c d n f bs p rest all h =
    let was = nth_was (number a b) (number c d) n f bs p rest h in
    let left = two_there a b (grind arith) in
    let right = two_there c d (grind arith) in
    (grind arith, grind arith, was.3)

nth_spelled : Reads place_spelled place_sound (2 ∷ []) read_nth
nth_spelled bs p rest all h =
    let long = test_failed (ltb (length bs) 6) _ _ _ h in
    let six = six_there bs (ltb-false _ _ long.0) in
    let t = of_six (get_or bs 0 0) (get_or bs 1 0) (get_or bs 2 0) (get_or bs 3 0) (get_or bs 4 0) (get_or bs 5 0) (drop 6 bs) p rest (sym (ap all_bytes six) ∙ all) long.1 in
    (ap (λ l. 2 ∷ l) six ∙ t.0, t.1, t.2)

first_spelled : Reads place_spelled place_sound (0 ∷ []) (λ bs. and_then (read_byte bs) (λ n end. Ok (from_first n, end)))
unfolding place_spelled
first_spelled [] p rest all h = grind arith
first_spelled (n ∷ bs) p rest all h = grind arith

last_spelled : Reads place_spelled place_sound (1 ∷ []) (λ bs. and_then (read_byte bs) (λ n end. Ok (from_last n, end)))
unfolding place_spelled
last_spelled [] p rest all h = grind arith
last_spelled (n ∷ bs) p rest all h = grind arith

place_is_spelled : Reads place_spelled place_sound [] read_place
place_is_spelled [] p rest all h = grind arith
place_is_spelled (tag ∷ bs) p rest all h =
    let end = (and_parts (ltb tag 256) (all_bytes bs) all).1 in
    let tag_is = λ (k : ℕ). tagged place_spelled place_sound tag k bs p rest in
    elim (either_read (eqb tag 0) _ _ _ h) [
      | inl t ↦ tag_is 0 t.0 (first_spelled bs p rest end t.1)
      | inr t ↦ elim (either_read (eqb tag 1) _ _ _ t.1) [
        | inl u ↦ tag_is 1 u.0 (last_spelled bs p rest end u.1)
        | inr u ↦ let nth = test_passed (eqb tag 2) _ _ _ u.1 in tag_is 2 nth.0 (nth_spelled bs p rest end nth.1)
      ]
    ]

-- PARTS
cut_joined : (p q : Place) (bs mid rest : List ℕ) → bs ≡ place_spelled p ++ mid → mid ≡ place_spelled q ++ rest → 1 ∷ bs ≡ part_spelled (cut p q) ++ rest
unfolding part_spelled
cut_joined p q bs mid rest e f = rw (append_assoc, ← f, ← e)

cut_spelled : Reads part_spelled part_sound (1 ∷ []) read_cut
cut_spelled bs p rest all h =
    let from = then_read (read_place bs) _ _ h in
    let first = place_is_spelled bs from.0 from.1 all from.2 in
    let to = then_read (read_place from.1) _ _ from.3 in
    let second = place_is_spelled from.1 to.0 to.1 first.1 to.2 in
    let same = read_same _ _ _ _ to.3 in
    subst₂ (λ x l. Spelled part_spelled part_sound (1 ∷ bs) x l) same.0 same.1 (cut_joined _ _ _ _ _ first.0 second.0, second.1, and_from _ _ first.2 second.2)

literal_joined : (n : ℕ) (bs : List ℕ) → n ≤ length bs → 0 ∷ n ∷ bs ≡ part_spelled (bytes (take n bs)) ++ drop n bs
unfolding part_spelled
literal_joined n bs h = rw (length-take-le, take-append-drop)

literal_spelled : Reads part_spelled part_sound (0 ∷ []) read_literal
literal_spelled [] p rest all h = grind arith
literal_spelled (n ∷ bs) p rest all h =
    let long = test_passed (leb n (length bs)) _ _ _ h in
    let same = read_same _ _ _ _ long.1 in
    let end = (and_parts (ltb n 256) (all_bytes bs) all).1 in
    subst₂ (λ x l. Spelled part_spelled part_sound (0 ∷ n ∷ bs) x l) same.0 same.1
    (literal_joined n bs (leb-true _ _ long.0), every_drop (λ c. ltb c 256) n bs end, every_take (λ c. ltb c 256) n bs end)

part_is_spelled : Reads part_spelled part_sound [] read_part
part_is_spelled [] p rest all h = grind arith
part_is_spelled (tag ∷ bs) p rest all h =
    let end = (and_parts (ltb tag 256) (all_bytes bs) all).1 in
    let tag_is = λ (k : ℕ). tagged part_spelled part_sound tag k bs p rest in
    elim (either_read (eqb tag 0) _ _ _ h) [
      | inl t ↦ tag_is 0 t.0 (literal_spelled bs p rest end t.1)
      | inr t ↦ let places = test_passed (eqb tag 1) _ _ _ t.1 in tag_is 1 places.0 (cut_spelled bs p rest end places.1)
    ]

-- RULES
parts_joined : (p : Part) (r : Rule) (bs mid rest : List ℕ) → bs ≡ part_spelled p ++ mid → mid ≡ flat part_spelled r ++ rest → bs ≡ flat part_spelled (p ∷ r) ++ rest
parts_joined p r bs mid rest e f = rw (append_assoc, ← f, ← e)

-- and as many parts are read as were to be
parts_are_spelled : (k : ℕ) (bs : List ℕ) (r : Rule) (rest : List ℕ) → all_bytes bs ≡ true → read_parts k bs ≡ Ok (r, rest) → (length r ≡ k) × Spelled (flat part_spelled) (every part_sound) bs r rest
unfolding read_parts
parts_are_spelled zero bs r rest all h =
    let same = read_same _ _ _ _ h in
    subst₂ (λ x l. (length x ≡ 0) × Spelled (flat part_spelled) (every part_sound) bs x l) same.0 same.1 (refl, (refl, all, refl))
parts_are_spelled (suc k) bs r rest all h =
    let one = then_read (read_part bs) _ _ h in
    let first = part_is_spelled bs one.0 one.1 all one.2 in
    let more = then_read (read_parts k one.1) _ _ one.3 in
    let ih = parts_are_spelled k one.1 more.0 more.1 first.1 more.2 in
    let same = read_same _ _ _ _ more.3 in
    subst₂ (λ x l. (length x ≡ suc k) × Spelled (flat part_spelled) (every part_sound) bs x l) same.0 same.1
    (ap suc ih.0, (parts_joined _ _ _ _ _ first.0 ih.1.0, ih.1.1, and_from _ _ first.2 ih.1.2))

rule_is_spelled : Reads rule_spelled (every part_sound) [] read_counted
rule_is_spelled [] r rest all h = grind arith
rule_is_spelled (n ∷ bs) r rest all h =
    let few = test_passed (leb n 8) _ _ _ h in
    let t = parts_are_spelled n bs r rest (and_parts (ltb n 256) (all_bytes bs) all).1 few.1 in
    (ap₂ (λ k l. k ∷ l) (sym t.0) t.1.0, t.1.1, t.1.2)

nothing_left : (s : Read Rule) (r : Rule) → whole s ≡ Ok r → (s ≡ Ok (r, [])) × (rule_fault r ≡ None)
nothing_left (Ok x) r h = let end = nil_from_length x.1 in grind arith
nothing_left (Err f) r h = grind arith

pub read_is_spelling : ReadIsSpelling
read_is_spelling bs r all h =
    let w = nothing_left (read_counted bs) r h in
    let t = rule_is_spelled bs r [] all w.0 in
    (sym (t.0 ∙ append-nil (rule_spelled r)), rule_there r t.2 w.1)
