-- Of what is printed of a rule the rule is read back: its parts, one after the other.
use Rattle.std.proofs.Common.{◌≡◌, ℕ, zero, suc, ◌≤◌, true, ◌&&◌, ltb, leb, List, [], ◌∷◌, ◌++◌, length, None, codes, refl, ap, ◌∙◌, append_assoc, append-nil, arith}
use Rattle.std.proofs.lemmas.Bool.{and_parts, leb-true}
use Rattle.rules.specs.Lists.{flat, every}
use Rattle.rules.specs.Places.{Place, from_first, from_last, nth_of}
use Rattle.rules.specs.Rules.{Part, bytes, cut, Rule, a_place, a_part}
use Rattle.console.specs.declared.expected.Expected.TheVariants.{To}
use Rattle.console.specs.Text.{utf8, shown, place_text, to_text, part_text, later_text, rule_text}
use Rattle.console.specs.Reading.{read, failed, next, strip, after, read_literal, read_place, read_cut, read_part, read_end, read_parts, read_rule}
use Rattle.console.specs.Promises.{ReadsBack}
use Rattle.console.proofs.BytesBack.{strip_back, literal_back}
use Rattle.console.proofs.PlacesBack.{regroup, place_back}

-- what follows a place in a rule is nothing that could stand behind it
to_apart : (p : Place) (t : List ℕ) → strip (codes ", and behind which ") (to_text p ++ t) ≡ None
to_apart (from_first n) t = refl
to_apart (from_last n) t = refl
to_apart (nth_of l r n back) t = refl

cut_back : (p q : Place) (t : List ℕ) → a_place p ≡ true → a_place q ≡ true → strip (codes ", and behind which ") t ≡ None → read_cut (place_text p ++ (to_text p ++ (place_text q ++ t))) ≡ read (cut p q) t
unfolding read_cut
cut_back p q t ap₁ aq e =
    let rest = place_text q ++ t in
    ap (λ x. next x (λ p₁ u. after (strip (to_text p₁) u) (λ v. next (read_place v) (λ q₁ w. read (cut p₁ q₁) w)) (failed (length u) To))) (place_back p (to_text p ++ rest) ap₁ (to_apart p rest))
    ∙ ap (λ o. after o (λ v. next (read_place v) (λ q₁ w. read (cut p q₁) w)) (failed (length (to_text p ++ rest)) To)) (strip_back (to_text p) rest)
    ∙ ap (λ x. next x (λ q₁ w. read (cut p q₁) w)) (place_back q t aq e)

part_back : (p : Part) (t : List ℕ) → a_part p ≡ true → strip (codes ", and behind which ") t ≡ None → read_part (part_text p ++ t) ≡ read p t
unfolding read_part a_part
part_back (bytes b) t a e =
    let size = and_parts (leb 1 (length b)) (leb (length b) 64 && every (λ c. ltb c 256) b) a in
    let rest = and_parts (leb (length b) 64) (every (λ c. ltb c 256) b) size.1 in
    ap (λ u. next (read_literal u) (λ s v. read (bytes s) v)) (append_assoc (flat (shown (utf8 b)) b) (34 ∷ []) t)
    ∙ ap (λ x. next x (λ s v. read (bytes s) v)) (literal_back (utf8 b) b t (leb-true 1 (length b) size.0) (leb-true (length b) 64 rest.0) rest.1)
part_back (cut p q) t a e =
    let both = and_parts (a_place p) (a_place q) a in
    ap read_cut (regroup (place_text p) (to_text p) (place_text q) t) ∙ cut_back p q t both.0 both.1 e

-- what follows a part
later_apart : (ps : Rule) → strip (codes ", and behind which ") (flat later_text ps) ≡ None
later_apart [] = refl
later_apart (p ∷ ps) = refl

parts_back : (n : ℕ) (so_far ps : Rule) → length ps ≤ n → every a_part ps ≡ true → read_parts n so_far (flat later_text ps) ≡ read (so_far ++ ps) []
unfolding read_parts
parts_back zero so_far [] few all = rw append-nil
parts_back (suc n) so_far [] few all = rw append-nil
parts_back zero so_far (p ∷ ps) few all = absurd (omega arith)
parts_back (suc n) so_far (p ∷ ps) few all =
    let both = and_parts (a_part p) (every a_part ps) all in
    ap (λ x. next x (λ q v. read_parts n (so_far ++ q ∷ []) v)) (part_back p (flat later_text ps) both.0 (later_apart ps))
    ∙ parts_back n (so_far ++ p ∷ []) ps (omega arith) both.1
    ∙ ap (λ r. read r []) (append_assoc so_far (p ∷ []) ps)

-- no part begins as the rule with no parts does
pub part_begins : (p : Part) (t : List ℕ) → strip (codes "no parts") (part_text p ++ t) ≡ None
part_begins (bytes b) t = refl
part_begins (cut p q) t = refl

pub reads_back : ReadsBack
unfolding read_rule
reads_back [] a = refl
reads_back (p ∷ ps) a =
    let size = and_parts (leb (length (p ∷ ps)) 8) (a_part p && every a_part ps) a in
    let both = and_parts (a_part p) (every a_part ps) size.1 in
    let few = leb-true (length (p ∷ ps)) 8 size.0 in
    ap (λ o. after o (read_end []) (next (read_part (rule_text (p ∷ ps))) (λ q u. read_parts 7 (q ∷ []) u))) (part_begins p (flat later_text ps))
    ∙ ap (λ x. next x (λ q u. read_parts 7 (q ∷ []) u)) (part_back p (flat later_text ps) both.0 (later_apart ps))
    ∙ parts_back 7 (p ∷ []) ps (omega arith) both.1
