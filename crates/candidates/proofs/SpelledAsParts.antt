-- What is spelled by the numbers that lie in memory is the spelling of the part, where that is one that there is.
use Rattle.std.proofs.Common.{◌≡◌, ℕ, ◌+◌, ◌/◌, ◌<◌, ◌≤◌, Bool, true, false, ◌&&◌, eqb, ltb, leb, List, [], ◌∷◌, ◌++◌, length, refl, ap, ap₂, arith}
use Rattle.std.proofs.lemmas.Bool.{and_parts, ltb-true, leb-true}
use Rattle.std.proofs.lemmas.Bool.Decides.{nat_tests}
use Rattle.rules.specs.Lists.{pick, each, every}
use Rattle.rules.specs.Places.{from_first, from_last, nth_of}
use Rattle.rules.specs.Rules.{bytes, cut, a_kind, a_place, a_part}
use Rattle.rules.specs.Order.{flag, place_spelled, part_spelled}
use Rattle.candidates.specs.Problem.{View}
use Rattle.candidates.specs.RowTable.{place_from, place_in}
use Rattle.candidates.specs.Spelled.{as_byte, numbers_spelled, literal_spelled, cut_spelled}

byte_is : (n : ℕ) → n < 256 → as_byte n ≡ n
byte_is n h = omega arith

kind_small : (k : ℕ) → a_kind k ≡ true → k ≤ 511
kind_small k h = grind (arith, nat_tests)

high_is : (k : ℕ) → k ≤ 511 → as_byte (k / 256) ≡ k / 256
high_is k h = omega arith

bytes_are : (b : List ℕ) → every (λ c. ltb c 256) b ≡ true → each as_byte b ≡ b
bytes_are [] h = refl
bytes_are (c ∷ b) h = let both = and_parts (ltb c 256) (every (λ c. ltb c 256) b) h in ap₂ (λ x xs. x ∷ xs) (byte_is c (ltb-true c 256 both.0)) (bytes_are b both.1)

-- PLACES
nth_is : (l r n b : ℕ) → a_place (nth_of l r n (eqb b 1)) ≡ true →
    2 ∷ as_byte (l / 256) ∷ as_byte l ∷ as_byte (r / 256) ∷ as_byte r ∷ as_byte n ∷ flag (eqb b 1) ∷ [] ≡ place_spelled (nth_of l r n (eqb b 1))
unfolding a_place place_spelled
nth_is l r n b h =
    let both = and_parts (a_kind l && a_kind r) (leb 1 n && (leb n 64 && leb 1 (l + r))) h in
    let kinds = and_parts (a_kind l) (a_kind r) both.0 in
    let few = leb-true n 64 (and_parts (leb n 64) (leb 1 (l + r)) (and_parts (leb 1 n) (leb n 64 && leb 1 (l + r)) both.1).1).0 in
    let a = high_is l (kind_small l kinds.0) in
    let c = high_is r (kind_small r kinds.1) in
    let d = byte_is n (omega arith) in
    cc

numbers_are : (tag l r n b : ℕ) → a_place (place_from tag l r n b) ≡ true → numbers_spelled tag l r n b ≡ place_spelled (place_from tag l r n b)
unfolding a_place place_spelled place_from numbers_spelled
numbers_are tag l r n b h = go (eqb tag 0) (eqb tag 1) h
  where
    go : (x y : Bool) → a_place (pick x (from_first n) (pick y (from_last n) (nth_of l r n (eqb b 1)))) ≡ true →
        pick x (0 ∷ as_byte n ∷ []) (pick y (1 ∷ as_byte n ∷ []) (2 ∷ as_byte (l / 256) ∷ as_byte l ∷ as_byte (r / 256) ∷ as_byte r ∷ as_byte n ∷ flag (eqb b 1) ∷ []))
        ≡ place_spelled (pick x (from_first n) (pick y (from_last n) (nth_of l r n (eqb b 1))))
    go true y h = ap (λ k. 0 ∷ k ∷ []) (byte_is n (let few = leb-true n 64 h in omega arith))
    go false true h = ap (λ k. 1 ∷ k ∷ []) (byte_is n (let few = leb-true n 64 h in omega arith))
    go false false h = nth_is l r n b h

-- PARTS
pub literal_are : (b : List ℕ) → a_part (bytes b) ≡ true → literal_spelled b ≡ part_spelled (bytes b)
unfolding a_part part_spelled
literal_are b h =
    let all = (and_parts (leb (length b) 64) (every (λ c. ltb c 256) b) (and_parts (leb 1 (length b)) (leb (length b) 64 && every (λ c. ltb c 256) b) h).1).1 in
    ap (λ l. 0 ∷ length b ∷ l) (bytes_are b all)

pub cut_are : (v : View) (i k : ℕ) → a_part (cut (place_in v.table i) (place_in v.table k)) ≡ true → cut_spelled v i k ≡ part_spelled (cut (place_in v.table i) (place_in v.table k))
unfolding a_part part_spelled
cut_are v i k h =
    let both = and_parts (a_place (place_in v.table i)) (a_place (place_in v.table k)) h in
    ap₂ (λ x y. 1 ∷ x ++ y) (numbers_are _ _ _ _ _ both.0) (numbers_are _ _ _ _ _ both.1)
