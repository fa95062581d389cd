-- A rule is read back from its spelling.
use Rattle.std.proofs.Common.{◌≡◌, ℕ, ◌/◌, ◌%◌, Bool, true, false, ◌&&◌, eqb, leb, List, [], ◌∷◌, ◌++◌, length, Ok, sym, refl, ap, ◌∙◌, append_assoc, arith, length-append}
use Rattle.std.proofs.lemmas.List.{take_at, drop_at}
use Rattle.std.proofs.lemmas.Bool.{le-leb, and_parts}
use Rattle.rules.specs.Lists.{every, flat}
use Rattle.rules.specs.Places.{Place, from_first, from_last, nth_of}
use Rattle.rules.specs.Rules.{Part, bytes, cut, Rule, a_kind, a_place, a_part}
use Rattle.rules.specs.Order.{flag, two, place_spelled, part_spelled}
use Rattle.rules.specs.Reading.{number, read_place, read_cut, read_literal, read_part, read_parts}
use Rattle.rules.specs.Promises.{SpellingRead}
use Rattle.rules.proofs.FaultlessRules.{rule_faultless}
use Rattle.rules.proofs.ReadsBytes.{an_nth_place}

flag_read : (b : Bool) → (b ≡ eqb (flag b) 1) × (leb (flag b) 1 ≡ true)
flag_read true = (refl, refl)
flag_read false = (refl, refl)

two_read : (k : ℕ) → a_kind k ≡ true → (k ≡ number (k / 256) (k % 256)) × (a_kind (number (k / 256) (k % 256)) ≡ true)
two_read k h = let e : k ≡ number (k / 256) (k % 256) = omega arith in (e, sym (ap a_kind e) ∙ h)

place_is_read : (p : Place) (rest : List ℕ) → a_place p ≡ true → read_place (place_spelled p ++ rest) ≡ Ok (p, rest)
unfolding place_spelled a_place
place_is_read (from_first n) rest h = refl
place_is_read (from_last n) rest h = refl
place_is_read (nth_of l r n back) rest h =
    let kinds = and_parts (a_kind l) (a_kind r) (and_parts (a_kind l && a_kind r) _ h).0 in
    sym (an_nth_place (two l ++ two r ++ n ∷ flag back ∷ rest) (omega arith) l (two_read l kinds.0) r (two_read r kinds.1) back rest (flag_read back) refl)

literal_is_read : (b rest : List ℕ) → read_literal (length b ∷ b ++ rest) ≡ Ok (bytes b, rest)
literal_is_read b rest =
    rw (le-leb (length b) (length (b ++ rest)) (simp length-append (omega arith)), take_at b rest (length b) refl, drop_at b rest (length b) refl)

cut_is_read : (p q : Place) (rest : List ℕ) → a_place p ≡ true → a_place q ≡ true → read_cut (place_spelled p ++ place_spelled q ++ rest) ≡ Ok (cut p q, rest)
cut_is_read p q rest h g = rw (append_assoc, place_is_read p (place_spelled q ++ rest) h, place_is_read q rest g)

part_is_read : (p : Part) (rest : List ℕ) → a_part p ≡ true → read_part (part_spelled p ++ rest) ≡ Ok (p, rest)
unfolding part_spelled a_part
part_is_read (bytes b) rest h = literal_is_read b rest
part_is_read (cut p q) rest h = let both = and_parts (a_place p) (a_place q) h in cut_is_read p q rest both.0 both.1

parts_are_read : (r : Rule) → every a_part r ≡ true → read_parts (length r) (flat part_spelled r) ≡ Ok (r, [])
unfolding read_parts
parts_are_read [] h = refl
parts_are_read (p ∷ r) h =
    let both = and_parts (a_part p) (every a_part r) h in
    rw (part_is_read p (flat part_spelled r) both.0, parts_are_read r both.1)

pub spelling_read : SpellingRead
spelling_read r h =
    let both = and_parts (leb (length r) 8) (every a_part r) h in
    rw (both.0, parts_are_read r both.1, rule_faultless r h)
