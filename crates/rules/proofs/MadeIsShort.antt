-- Of a text of up to 64 bytes no rule makes more than 512.
use Rattle.std.proofs.Common.{◌≡◌, ℕ, ◌+◌, ◌-◌, ◌*◌, ◌≤◌, true, leb, List, [], ◌∷◌, length, get_or, take, drop, arith, length-append, length-drop, length-take}
use Rattle.std.proofs.lemmas.Bool.{and_parts, leb-true}
use Rattle.rules.specs.Lists.{pick, or, every, none_of}
use Rattle.rules.specs.Places.{spot}
use Rattle.rules.specs.Promises.{made_length}
use Rattle.rules.specs.Rules.{Part, bytes, cut, Rule, Made, nothing, made, from_to, with_made, makes, part_of, a_part, a_rule}
use Rattle.rules.proofs.SumOverParts.{literal_short}
use Rattle.rules.proofs.Tests.{pick_both}

-- a middle of a text is no longer than the text
middle_short : (t ps qs : List ℕ) → made_length (from_to t ps qs) ≤ length t
unfolding made_length
middle_short t ps qs =
    let a = get_or ps 0 0 in
    let b = get_or qs 0 0 in
    let piece : List ℕ = take (b - a) (drop a t) in
    let short : length piece ≤ length t = let n = length-take (b - a) (drop a t) in let k = length-drop a t in omega arith in
    pick_both (or (none_of ps) (none_of qs)) nothing (pick (leb a b) (made piece) nothing) (λ m. made_length m ≤ length t) (λ _. omega arith)
    (λ _. pick_both (leb a b) (made piece) nothing (λ m. made_length m ≤ length t) (λ _. short) (λ _. omega arith))

part_short : (t : List ℕ) (p : Part) → a_part p ≡ true → length t ≤ 64 → made_length (part_of t p) ≤ 64
unfolding part_of made_length
part_short t (bytes b) h few = literal_short b h
part_short t (cut p q) h few = let m = middle_short t (spot t p) (spot t q) in omega arith

both_short : (m n : Made) → made_length (with_made m n) ≤ made_length m + made_length n
unfolding with_made made_length
both_short nothing n = omega arith
both_short (made a) nothing = omega arith
both_short (made a) (made b) = let n = length-append a b in omega arith

parts_short : (r : Rule) (t : List ℕ) → every a_part r ≡ true → length t ≤ 64 → made_length (makes r t) ≤ 64 * length r
unfolding makes made_length
parts_short [] t h few = omega arith
parts_short (p ∷ r) t h few =
    let parts = and_parts (a_part p) (every a_part r) h in
    let one = part_short t p parts.0 few in
    let rest = parts_short r t parts.1 few in
    let both = both_short (part_of t p) (makes r t) in
    omega arith

pub made_short : (r : Rule) (t : List ℕ) → a_rule r ≡ true → length t ≤ 64 → made_length (makes r t) ≤ 512
made_short r t h few =
    let parts = and_parts (leb (length r) 8) (every a_part r) h in
    let count = leb-true (length r) 8 parts.0 in
    let all = parts_short r t parts.1 few in
    omega arith
