-- Going through the parts of a rule spells it.
use Rattle.std.proofs.Common.{◌≡◌, ℕ, ◌+◌, ◌*◌, ◌<◌, ◌≤◌, true, leb, List, [], ◌∷◌, ◌++◌, length, get_or, take, drop, IsOk, Ok, Err, sym, refl, ap, ap₂, ◌∙◌, append_assoc, append-nil, arith, length-append}
use Rattle.std.proofs.lemmas.List.{take-append-drop, take_at}
use Rattle.std.proofs.lemmas.Bool.{le-leb, leb-true, and_parts}
use Rattle.rules.specs.Answers.{written, written_told, written_left}
use Rattle.rules.specs.Lists.{pick, every, flat}
use Rattle.rules.specs.Places.{Place, from_first, from_last, nth_of}
use Rattle.rules.specs.Order.{place_spelled, part_spelled, rule_spelled}
use Rattle.rules.specs.Rules.{Part, bytes, cut, Rule, a_part, a_rule}
use Rattle.rules.specs.Values.{the_part, the_parts}
use Rattle.rules.specs.declared.part.Part as declared
use Rattle.rules.proofs.EachElement.{each_append, each_past}
use Rattle.rules.proofs.SumOverParts.{literal_short}
use Rattle.rules.proofs.WrittenBytes.{room_next, wrote_next}
use Rattle.rules.specs.Writing.{Writing, wrote, HasRoom}

flat_append : (r q : Rule) → flat part_spelled (r ++ q) ≡ flat part_spelled r ++ flat part_spelled q
flat_append [] q = refl
flat_append (p ∷ r) q = ap (λ l. part_spelled p ++ l) (flat_append r q) ∙ sym (append_assoc (part_spelled p) (flat part_spelled r) (flat part_spelled q))

module _ (ps : List declared.Part) where
  -- the spelling of the first parts, i of them
  abbrev pub spelling : ℕ → List ℕ
  spelling i = flat part_spelled (the_parts (take i ps))

  one_more : (i : ℕ) (p : declared.Part) → i < length ps → p ≡ get_or ps i p → spelling (i + 1) ≡ spelling i ++ part_spelled (the_part p)
  one_more i p h e =
      ap (flat part_spelled) (each_past the_part ps i p h e) ∙ flat_append (the_parts (take i ps)) (the_part p ∷ [])
      ∙ ap (λ l. spelling i ++ l) (append-nil (part_spelled (the_part p)))

  -- behind w there is room for all parts, and the first, i of them, are spelled there
  module _ (w : Writing) (room : HasRoom w (flat part_spelled (the_parts ps))) where
    module _ (i : ℕ) (p : declared.Part) (h : i < length ps) (e : p ≡ get_or ps i p) where
      -- so there is room for those and one more
      more_room : HasRoom w (spelling i ++ part_spelled (the_part p))
      more_room =
          let split = ap (λ l. length (flat part_spelled (the_parts l))) (sym (take-append-drop (i + 1) ps)) in
          let parts = ap (λ r. length (flat part_spelled r)) (each_append the_part (take (i + 1) ps) (drop (i + 1) ps)) in
          let both = ap length (flat_append (the_parts (take (i + 1) ps)) (the_parts (drop (i + 1) ps))) in
          let sum = length-append (spelling (i + 1)) (flat part_spelled (the_parts (drop (i + 1) ps))) in
          let more = ap length (one_more i p h e) in
          omega arith

      pub part_has_room : (v : Writing) → v ≡ wrote w (spelling i) → HasRoom v (part_spelled (the_part p))
      part_has_room v s = room_next w v (spelling i) (part_spelled (the_part p)) more_room s

      pub part_spelled_too : (v u : Writing) → v ≡ wrote w (spelling i) → u ≡ wrote v (part_spelled (the_part p)) → u ≡ wrote w (spelling (i + 1))
      part_spelled_too v u s t = wrote_next w v u (spelling i) (part_spelled (the_part p)) more_room s t ∙ ap (wrote w) (sym (one_more i p h e))

-- what is told, and left, where there is room
pub told_with_room : (bs out : List ℕ) → length bs ≤ length out → (written_told bs (length out) ≡ Ok (length bs)) × (written_left bs out ≡ written out 0 bs)
told_with_room bs out h = let fits = le-leb (length bs) (length out) h in (ap (λ x. pick x (Ok (length bs)) (Err (record {}))) fits, ap (λ x. pick x (written out 0 bs) out) fits)

-- HOW LONG A SPELLING IS
place_bound : (p : Place) → length (place_spelled p) ≤ 7
unfolding place_spelled
place_bound (from_first n) = omega arith
place_bound (from_last n) = omega arith
place_bound (nth_of l r n back) = omega arith

part_bound : (p : Part) → a_part p ≡ true → length (part_spelled p) ≤ 66
unfolding part_spelled
part_bound (bytes b) h = let few = literal_short b h in omega arith
part_bound (cut p q) h = let n = length-append (place_spelled p) (place_spelled q) in let k = place_bound p in let m = place_bound q in omega arith

parts_bound : (r : Rule) → every a_part r ≡ true → length (flat part_spelled r) ≤ 66 * length r
parts_bound [] h = omega arith
parts_bound (p ∷ r) h =
    let both = and_parts (a_part p) (every a_part r) h in
    let n = length-append (part_spelled p) (flat part_spelled r) in
    let one = part_bound p both.0 in
    let rest = parts_bound r both.1 in
    omega arith

-- 529 bytes spell any rule
pub rule_bound : (r : Rule) → a_rule r ≡ true → length (rule_spelled r) ≤ 529
rule_bound r h =
    let both = and_parts (leb (length r) 8) (every a_part r) h in
    let few = leb-true (length r) 8 both.0 in
    let k = parts_bound r both.1 in
    omega arith

-- so in as many bytes there is room
pub spelling_fits : (r : Rule) (room : ℕ) → a_rule r ≡ true → room ≡ 529 → IsOk (written_told (rule_spelled r) room)
spelling_fits r room h e =
    let k = rule_bound r h in
    let fits = le-leb (length (rule_spelled r)) room (omega arith) in
    rw fits

-- and in as many lent bytes it stands in front
pub spelled_in_front : (r : Rule) (out after : List ℕ) (n : ℕ) → a_rule r ≡ true → length out ≡ 529 → Ok n ≡ written_told (rule_spelled r) (length out) → after ≡ written_left (rule_spelled r) out → (n ≤ 529) × (take n after ≡ rule_spelled r)
spelled_in_front r out after n h e v a =
    let k = rule_bound r h in
    let told = told_with_room (rule_spelled r) out (omega arith) in
    let long : n ≡ length (rule_spelled r) = let same = v ∙ told.0 in cc in
    (omega arith, ap₂ take long (a ∙ told.1) ∙ take_at (rule_spelled r) _ _ refl)
