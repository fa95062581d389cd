-- Going through the parts of a rule measures what it makes, and writes it.
use Rattle.std.proofs.Common.{◌≡◌, ℕ, ◌+◌, ◌-◌, ◌^◌, ◌<◌, ◌≤◌, min, List, [], ◌∷◌, length, get_or, take, drop, Some, None, sym, refl, ap, ◌∙◌, subst, subst₂, arith, length-append}
use Rattle.std.proofs.lemmas.List.{take-append-drop, take_all}
use Rattle.std.proofs.lemmas.Bool.{le-leb}
use Rattle.rules.specs.Answers.{written, counted, made_left, FitsIn}
use Rattle.rules.specs.Lists.{pick}
use Rattle.rules.specs.Rules.{Made, nothing, made, with_made, makes, part_of}
use Rattle.rules.specs.Values.{the_part, the_parts}
use Rattle.rules.specs.declared.part.Part as declared
use Rattle.rules.proofs.EachElement.{each_append, each_left, each_past}
use Rattle.rules.proofs.WhatIsMade.{makes_append, with_made_right}
use Rattle.rules.proofs.WrittenBytes.{wrote_none, room_next, wrote_next}
use Rattle.rules.specs.Writing.{Writing, unwritten, wrote, HasRoom}

-- what is made by the first parts, i of them, and by the others
module _ (ps : List declared.Part) (t : List ℕ) where
  abbrev pub so_far : ℕ → Made
  so_far i = makes (the_parts (take i ps)) t

  abbrev pub to_come : ℕ → Made
  to_come i = makes (the_parts (drop i ps)) t

  pub in_two : (i : ℕ) → makes (the_parts ps) t ≡ with_made (so_far i) (to_come i)
  in_two i =
      ap (λ l. makes (the_parts l) t) (sym (take-append-drop i ps)) ∙ ap (λ r. makes r t) (each_append the_part (take i ps) (drop i ps))
      ∙ makes_append (the_parts (take i ps)) (the_parts (drop i ps)) t

  pub one_part_more : (i : ℕ) (p : declared.Part) → i < length ps → p ≡ get_or ps i p → so_far (i + 1) ≡ with_made (so_far i) (part_of t (the_part p))
  unfolding makes
  one_part_more i p h e =
      ap (λ r. makes r t) (each_past the_part ps i p h e) ∙ makes_append (the_parts (take i ps)) (the_part p ∷ []) t
      ∙ ap (with_made (so_far i)) (with_made_right (part_of t (the_part p)))

  pub part_is_nothing : (i : ℕ) (p : declared.Part) → i < length ps → p ≡ get_or ps i p → nothing ≡ part_of t (the_part p) → makes (the_parts ps) t ≡ nothing
  unfolding makes with_made
  part_is_nothing i p h e none =
      in_two i ∙ ap (λ r. with_made (so_far i) (makes r t)) (each_left the_part ps i p h e)
      ∙ ap (λ m. with_made (so_far i) (with_made m (to_come (i + 1)))) (sym none) ∙ then_nothing (so_far i)
    where
      then_nothing : (m : Made) → with_made m nothing ≡ nothing
      then_nothing nothing = refl
      then_nothing (made a) = refl

  pub all_so_far : (i : ℕ) → length ps ≤ i → so_far i ≡ makes (the_parts ps) t
  all_so_far i h = ap (λ l. makes (the_parts l) t) (take_all i ps h)

-- MEASURING
-- bytes were made, and this is their number, or the largest of 64 bits
abbrev pub Measured : Made → ℕ → Type 0
Measured nothing n = ⊥
Measured (made bs) n = n ≡ min (length bs) (2 ^ 64 - 1)

measured_more : (m : Made) (n : ℕ) (b : List ℕ) → Measured m n → Measured (with_made m (made b)) (min (n + length b) (2 ^ 64 - 1))
unfolding with_made
measured_more nothing n b h = absurd h
measured_more (made a) n b h = let long = length-append a b in omega arith

measured_told : (m : Made) (n : ℕ) → Measured m n → Some n ≡ counted m
measured_told nothing n h = absurd h
measured_told (made a) n h = ap (λ k. Some k) h

-- WRITING
-- where what is made fits, so does its front
pub front_fits : (m n : Made) (room : ℕ) → FitsIn (with_made m n) room → FitsIn m room
unfolding with_made
front_fits nothing n room h = h
front_fits (made a) nothing room h = absurd h
front_fits (made a) (made b) room h = let k = length-append a b in omega arith

-- bytes were made, and these are written from the beginning on
abbrev pub Written : Made → List ℕ → Writing → Type 0
Written nothing out w = ⊥
Written (made bs) out w = w ≡ wrote (unwritten out) bs

-- nothing is written of no parts
pub none_written : (out : List ℕ) (w : Writing) → w ≡ unwritten out → Written (made []) out w
none_written out w e = e ∙ wrote_none (unwritten out)

piece_fits : (m : Made) (out : List ℕ) (w : Writing) → Written m out w → (b : List ℕ) → FitsIn (with_made m (made b)) (length out) → HasRoom w b
unfolding with_made
piece_fits nothing out w e b h = absurd h
piece_fits (made a) out w e b h = room_next (unwritten out) w a b (omega arith) e

piece_written : (m : Made) (out : List ℕ) (w v : Writing) → Written m out w → (b : List ℕ) → FitsIn (with_made m (made b)) (length out) → v ≡ wrote w b → Written (with_made m (made b)) out v
unfolding with_made
piece_written nothing out w v e b h f = absurd h
piece_written (made a) out w v e b h f = wrote_next (unwritten out) w v a b (omega arith) e f

left_behind : (m : Made) (out : List ℕ) (w : Writing) → Written m out w → FitsIn m (length out) → w.out ≡ made_left m out
left_behind nothing out w e h = absurd h
left_behind (made a) out w e h = ap (λ (x : Writing). x.out) e ∙ sym (ap (λ x. pick x (written out 0 a) out) (le-leb (length a) (length out) h))

-- where everything fits, no part makes nothing
pub no_part_is_nothing : (m n : Made) (room : ℕ) → nothing ≡ n → FitsIn (with_made m n) room → ⊥
unfolding with_made
no_part_is_nothing m n room e h = then_none m (subst (λ x. FitsIn (with_made m x) room) (sym e) h)
  where
    then_none : (x : Made) → FitsIn (with_made x nothing) room → ⊥
    then_none nothing k = k
    then_none (made a) k = k

-- ONE TURN OF EACH LOOP, and its end
module _ (ps : List declared.Part) (t : List ℕ) where
  pub measured_all : (i n : ℕ) → Measured (so_far ps t i) n → length ps ≤ i → Some n ≡ counted (makes (the_parts ps) t)
  measured_all i n m h = measured_told (makes (the_parts ps) t) n (subst (λ x. Measured x n) (all_so_far ps t i h) m)

  pub written_all : (i : ℕ) (out : List ℕ) (w : Writing) → Written (so_far ps t i) out w → length ps ≤ i → FitsIn (makes (the_parts ps) t) (length out) → w.out ≡ made_left (makes (the_parts ps) t) out
  written_all i out w e h fits = left_behind (makes (the_parts ps) t) out w (subst (λ m. Written m out w) (all_so_far ps t i h) e) fits

  module _ (i : ℕ) (p : declared.Part) (h : i < length ps) (e₁ : p ≡ get_or ps i p) where
    pub measured_nothing : nothing ≡ part_of t (the_part p) → None ≡ counted (makes (the_parts ps) t)
    measured_nothing n = ap counted (sym (part_is_nothing ps t i p h e₁ n))

    pub measured_part : (n more : ℕ) (b : List ℕ) → Measured (so_far ps t i) n → made b ≡ part_of t (the_part p) → more ≡ min (n + length b) (2 ^ 64 - 1) → Measured (so_far ps t (i + 1)) more
    measured_part n more b m is e =
        subst₂ Measured (sym (one_part_more ps t i p h e₁ ∙ ap (with_made (so_far ps t i)) (sym is))) (sym e) (measured_more (so_far ps t i) n b m)

    module _ (out : List ℕ) (w : Writing) (so : Written (so_far ps t i) out w) (all : FitsIn (makes (the_parts ps) t) (length out)) where
      next_fits : FitsIn (with_made (so_far ps t i) (part_of t (the_part p))) (length out)
      next_fits =
          subst (λ m. FitsIn m (length out)) (one_part_more ps t i p h e₁)
          (front_fits (so_far ps t (i + 1)) (to_come ps t (i + 1)) (length out) (subst (λ m. FitsIn m (length out)) (in_two ps t (i + 1)) all))

      fits_with : (b : List ℕ) → made b ≡ part_of t (the_part p) → FitsIn (with_made (so_far ps t i) (made b)) (length out)
      fits_with b n = subst (λ m. FitsIn (with_made (so_far ps t i) m) (length out)) (sym n) next_fits

      pub next_piece_fits : (b : List ℕ) → made b ≡ part_of t (the_part p) → HasRoom w b
      next_piece_fits b n = piece_fits (so_far ps t i) out w so b (fits_with b n)

      pub written_more : (b : List ℕ) (v : Writing) → made b ≡ part_of t (the_part p) → v ≡ wrote w b → Written (so_far ps t (i + 1)) out v
      written_more b v n is =
          subst (λ m. Written m out v) (sym (one_part_more ps t i p h e₁ ∙ ap (with_made (so_far ps t i)) (sym n)))
          (piece_written (so_far ps t i) out w v so b (fits_with b n) is)

      pub written_never : nothing ≡ part_of t (the_part p) → ⊥
      written_never n = no_part_is_nothing (so_far ps t i) (part_of t (the_part p)) (length out) n next_fits
