-- Where no fault is told there is a place, a literal, a rule.
use Rattle.std.proofs.Common.{◌≡◌, ℕ, suc, ◌+◌, ◌<◌, ◌≤◌, true, ltb, List, [], ◌∷◌, length, get_or, take, drop, Some, None, Option, Ok, Err, sym, refl, ap, ◌∙◌, arith, w8, Fits}
use Rattle.std.proofs.lemmas.List.{drop_all, take_all}
use Rattle.std.proofs.lemmas.Bool.{and_from, lt-ltb, le-leb}
use Rattle.rules.specs.declared.fault.Fault.{Fault}
use Rattle.rules.specs.declared.fault.Fault.TheVariants.{PartCount}
use Rattle.rules.specs.Faults.{checked, or_else, part_fault, rule_fault, parts_fault}
use Rattle.rules.specs.declared.part.Part as declared
use Rattle.rules.specs.Values.{the_part, the_parts}
use Rattle.rules.proofs.EachElement.{each_length, each_left, each_past, every_push}
use Rattle.rules.specs.Lists.{every}
use Rattle.rules.specs.Rules.{bytes, a_part, a_rule}

pub bytes_right : (b : List ℕ) → ((k : ℕ) → Fits w8 (get_or b k 0)) → every (λ c. ltb c 256) b ≡ true
bytes_right [] h = refl
bytes_right (x ∷ b) h = and_from _ _ (lt-ltb x 256 (h 0).fits) (bytes_right b (λ k. h (suc k)))

pub literal_right : (b : List ℕ) → every (λ c. ltb c 256) b ≡ true → 0 < length b → length b ≤ 64 → a_part (bytes b) ≡ true
unfolding a_part
literal_right b all some few = grind arith

-- a check tells of a fault, or that there is none
no_fault : (f : Option Fault) → Ok tt ≡ checked f → f ≡ None
no_fault None e = refl
no_fault (Some x) e = cc

this_fault : (f : Option Fault) (x : Fault) → Err x ≡ checked f → f ≡ Some x
this_fault None x e = cc
this_fault (Some y) x e = cc

module _ (ps : List declared.Part) where
  -- the first parts, i of them, are parts, and those that are left have the fault that all have
  pub record Clear (i : ℕ) : Type 0 where
    pub told : parts_fault (the_parts (drop i ps)) ≡ parts_fault (the_parts ps)
    pub right : every a_part (the_parts (take i ps)) ≡ true

  pub many_told : 8 < length ps → Err (PartCount (length ps)) ≡ checked (rule_fault (the_parts ps))
  many_told many = let long = each_length the_part ps in grind arith

  few_told : length ps ≤ 8 → parts_fault (the_parts ps) ≡ rule_fault (the_parts ps)
  few_told few = let long = each_length the_part ps in grind arith

  pub all_clear : (i : ℕ) → Clear i → length ps ≤ 8 → length ps ≤ i → (Ok tt ≡ checked (rule_fault (the_parts ps))) × (a_rule (the_parts ps) ≡ true)
  all_clear i clear few all = (
    ap checked (sym (sym (few_told few) ∙ sym clear.told ∙ ap (λ qs. parts_fault (the_parts qs)) (drop_all i ps all))),
    let long = each_length the_part ps in
        and_from _ _ (le-leb _ _ (omega arith)) (ap (λ qs. every a_part (the_parts qs)) (sym (take_all i ps all)) ∙ clear.right),
  )

  module _ (i : ℕ) (p : declared.Part) (h : i < length ps) (e : p ≡ get_or ps i p) (clear : Clear i) where
    left : or_else (part_fault (the_part p)) (parts_fault (the_parts (drop (i + 1) ps))) ≡ parts_fault (the_parts ps)
    left = ap parts_fault (sym (each_left the_part ps i p h e)) ∙ clear.told

    pub part_faulty : (x : Fault) → Err x ≡ checked (part_fault (the_part p)) → length ps ≤ 8 → Err x ≡ checked (rule_fault (the_parts ps))
    part_faulty x told few =
        ap checked (ap (λ f. or_else f (parts_fault (the_parts (drop (i + 1) ps)))) (sym (this_fault _ x told)) ∙ left ∙ few_told few)

    pub part_clear : Ok tt ≡ checked (part_fault (the_part p)) → a_part (the_part p) ≡ true → Clear (i + 1)
    part_clear told here = record {
      told = ap (λ f. or_else f (parts_fault (the_parts (drop (i + 1) ps)))) (sym (no_fault _ told)) ∙ left;
      right = ap (every a_part) (each_past the_part ps i p h e) ∙ every_push a_part _ _ clear.right here;
    }

pub ruleset check_told = (many_told, part_faulty, part_clear, all_clear)
