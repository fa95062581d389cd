-- Going through the parts of a rule adds up a number for each, as what it costs, and the sum stays small.
use Rattle.std.proofs.Common.{◌≡◌, ℕ, ◌+◌, ◌*◌, ◌<◌, ◌≤◌, true, List, [], ◌∷◌, ◌++◌, length, get_or, take, vec_items, vec_len, Vec, sym, refl, ap, ◌∙◌, subst, mul-add, arith, length-append}
use Rattle.std.proofs.lemmas.List.{take_all}
use Rattle.std.proofs.lemmas.Bool.{leb-true, and_parts}
use Rattle.std.specs.declared.alloc.Global.{Global}
use Rattle.rules.specs.Lists.{flat}
use Rattle.rules.specs.Order.{part_spelled}
use Rattle.rules.specs.Rules.{Part, Rule, bytes, cost, part_cost, a_part, a_rule}
use Rattle.rules.specs.Values.{the_part, the_parts}
use Rattle.rules.specs.declared.part.Part as declared
use Rattle.rules.specs.declared.part.Part.TheVariants.{Bytes}
use Rattle.rules.proofs.EachElement.{each_past, each_length, every_at}

-- a literal that is one has few bytes
pub literal_short : (b : List ℕ) → a_part (bytes b) ≡ true → length b ≤ 64
unfolding a_part
literal_short b h = leb-true (length b) 64 (and_parts _ _ (and_parts _ _ h).1).0

pub literal_few : (p : declared.Part) (v : Vec ℕ Global) → p ≡ Bytes v → a_part (the_part p) ≡ true → vec_len v ≤ 64
literal_few p v e h =
    let few = literal_short (vec_items v) (subst (λ q. a_part (the_part q) ≡ true) e h) in
    let long = v.ok.0 in
    omega arith

module _ (ps : List declared.Part) (rule : a_rule (the_parts ps) ≡ true) where
  pub few_parts : length ps ≤ 8
  few_parts = let h = leb-true (length (the_parts ps)) 8 (and_parts _ _ rule).0 in let l = each_length the_part ps in omega arith

  pub is_a_part : (i : ℕ) (p : declared.Part) → i < length ps → p ≡ get_or ps i p → a_part (the_part p) ≡ true
  is_a_part i p h e = every_at the_part a_part ps i p (and_parts _ _ rule).1 h e

-- a number for each part, added up over a rule
abbrev pub added_up : (Part → ℕ) → Rule → ℕ
added_up f [] = 0
added_up f (p ∷ r) = f p + added_up f r

module _ (f : Part → ℕ) (most : ℕ) where
  added_up_push : (r : Rule) (p : Part) → added_up f (r ++ p ∷ []) ≡ added_up f r + f p
  added_up_push [] p = omega arith
  added_up_push (q ∷ r) p = omega (arith, added_up_push r p)

  -- the sum over the first parts, i of them, of which none counts for more than `most`
  pub record Adds (ps : List declared.Part) (i total : ℕ) : Type 0 where
    pub so_far : total ≡ added_up f (the_parts (take i ps))
    pub bound : total ≤ most * i

  pub adds_none : (ps : List declared.Part) → Adds ps 0 0
  adds_none ps = record { so_far = refl; bound = omega arith }

  pub adds_more : (ps : List declared.Part) (i total more : ℕ) (p : declared.Part) → Adds ps i total → i < length ps → p ≡ get_or ps i p → f (the_part p) ≤ most → more ≡ total + f (the_part p) → Adds ps (i + 1) more
  adds_more ps i total more p a h e small is =
      let push = ap (added_up f) (each_past the_part ps i p h e) ∙ added_up_push (the_parts (take i ps)) (the_part p) in
      let old = a.so_far in
      let old_bound = a.bound in
      record { so_far = omega arith; bound = omega (arith, mul-add most i 1) }

  pub adds_all : (ps : List declared.Part) (i total : ℕ) → Adds ps i total → length ps ≤ i → total ≡ added_up f (the_parts ps)
  adds_all ps i total a h = a.so_far ∙ ap (λ l. added_up f (the_parts l)) (take_all i ps h)

-- what a rule costs, and how long its spelling is, as such sums
abbrev pub cost_of : Part → ℕ
cost_of p = 1 + part_cost p

pub cost_adds : (r : Rule) → added_up cost_of r ≡ cost r
unfolding cost
cost_adds [] = refl
cost_adds (p ∷ r) = ap (λ n. 1 + part_cost p + n) (cost_adds r)

abbrev pub spelled_length : Part → ℕ
spelled_length p = length (part_spelled p)

pub length_adds : (r : Rule) → added_up spelled_length r ≡ length (flat part_spelled r)
length_adds [] = refl
length_adds (p ∷ r) = ap (λ n. length (part_spelled p) + n) (length_adds r) ∙ sym (length-append (part_spelled p) (flat part_spelled r))
