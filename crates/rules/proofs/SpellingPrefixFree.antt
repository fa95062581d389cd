-- A spelling says where it ends, so no two places, parts or rules are spelled alike.
use Rattle.std.proofs.Common.{◌≡◌, ℕ, ◌/◌, ◌%◌, Bool, true, false, List, [], ◌∷◌, ◌++◌, length, refl, append_assoc, arith}
use Rattle.rules.specs.Lists.{flat}
use Rattle.rules.specs.Places.{Place, from_first, from_last, nth_of}
use Rattle.rules.specs.Rules.{Part, bytes, cut, Rule}
use Rattle.rules.specs.Order.{flag, place_spelled, part_spelled, rule_spelled}
use Rattle.rules.specs.Promises.{SpelledOnce}

flag_once : (a b : Bool) → flag a ≡ flag b → a ≡ b
flag_once true true h = refl
flag_once true false h = grind arith
flag_once false true h = grind arith
flag_once false false h = refl

two_once : (k l : ℕ) → k / 256 ≡ l / 256 → k % 256 ≡ l % 256 → k ≡ l
two_once k l h g = omega arith

-- two lists of one length with anything behind them
front_once : {A : Type 0} (a b x y : List A) → length a ≡ length b → a ++ x ≡ b ++ y → (a ≡ b) × (x ≡ y)
front_once [] [] x y l h = (refl, h)
front_once [] (b ∷ bs) x y l h = grind arith
front_once (a ∷ as₁) [] x y l h = grind arith
front_once (a ∷ as₁) (b ∷ bs) x y l h = let ih = front_once as₁ bs x y in grind arith

pub place_prefix_free : (p q : Place) (x y : List ℕ) → place_spelled p ++ x ≡ place_spelled q ++ y → (p ≡ q) × (x ≡ y)
unfolding place_spelled
place_prefix_free (from_first m) (from_first n) x y h = grind arith
place_prefix_free (from_first m) (from_last n) x y h = grind arith
place_prefix_free (from_first m) (nth_of l r n b) x y h = grind arith
place_prefix_free (from_last m) (from_first n) x y h = grind arith
place_prefix_free (from_last m) (from_last n) x y h = grind arith
place_prefix_free (from_last m) (nth_of l r n b) x y h = grind arith
place_prefix_free (nth_of l r n b) (from_first m) x y h = grind arith
place_prefix_free (nth_of l r n b) (from_last m) x y h = grind arith
place_prefix_free (nth_of l r n b) (nth_of k s m c) x y h = let i = two_once l k in let j = two_once r s in let f = flag_once b c in grind arith

pub part_prefix_free : (p q : Part) (x y : List ℕ) → part_spelled p ++ x ≡ part_spelled q ++ y → (p ≡ q) × (x ≡ y)
unfolding part_spelled
part_prefix_free (bytes a) (bytes b) x y h = let e = front_once a b x y in grind arith
part_prefix_free (bytes a) (cut p q) x y h = grind arith
part_prefix_free (cut p q) (bytes b) x y h = grind arith
part_prefix_free (cut p q) (cut r s) x y h =
    let a = append_assoc (place_spelled p) (place_spelled q) x in
    let b = append_assoc (place_spelled r) (place_spelled s) y in
    let front = place_prefix_free p r (place_spelled q ++ x) (place_spelled s ++ y) in
    let back = place_prefix_free q s x y in
    grind arith

parts_once : (r q : Rule) → length r ≡ length q → flat part_spelled r ≡ flat part_spelled q → r ≡ q
parts_once [] [] l h = refl
parts_once [] (q ∷ qs) l h = grind arith
parts_once (r ∷ rs) [] l h = grind arith
parts_once (r ∷ rs) (q ∷ qs) l h =
    let e = part_prefix_free r q (flat part_spelled rs) (flat part_spelled qs) h in
    let ih = parts_once rs qs in
    grind arith

-- it holds of all rules, within the bounds or not
pub spelled_apart : (r q : Rule) → rule_spelled r ≡ rule_spelled q → r ≡ q
spelled_apart r q h =
    let l : length r ≡ length q = grind arith in
    let e : flat part_spelled r ≡ flat part_spelled q = grind arith in
    parts_once r q l e

pub spelled_once_lem : SpelledOnce
spelled_once_lem r q h = spelled_apart r q h
