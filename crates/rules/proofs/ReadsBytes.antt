-- What is read of a byte, and of an nth place, by what the bytes say.
use Rattle.std.proofs.Common.{◌≡◌, ℕ, ◌-◌, ◌<◌, ◌≤◌, Bool, true, false, eqb, leb, List, [], ◌∷◌, length, get_or, take, drop, Ok, Err, sym, ap, ◌∙◌, ap₂, arith}
use Rattle.std.proofs.lemmas.List.{take_rest}
use Rattle.std.proofs.lemmas.Bool.{le-ltb}
use Rattle.rules.specs.Lists.{pick}
use Rattle.rules.specs.Places.{nth_of}
use Rattle.rules.specs.Reading.{number, read_byte, nth_read, read_nth}
use Rattle.rules.specs.Rules.{a_kind}
use Rattle.rules.specs.declared.fault.Fault.{Fault}
use Rattle.rules.specs.declared.fault.Fault.TheVariants.{KindNumber, Tag, EndsEarly}

pub byte_read : (bs : List ℕ) → 0 < length bs → Ok (get_or bs 0 0, take (length bs - 1) (drop 1 bs)) ≡ read_byte bs
byte_read [] h = absurd (omega arith)
byte_read (b ∷ bs) h = ap (λ l. Ok (b, l)) (take_rest (b ∷ bs) 1)

module _ (l r n back : ℕ) (rest : List ℕ) where
  left_none : a_kind l ≡ false → nth_read l r n back rest ≡ Err (KindNumber l)
  left_none hl = ap (λ x. pick x (pick (a_kind r) (pick (leb back 1) (Ok (nth_of l r n (eqb back 1), rest)) (Err (Tag back))) (Err (KindNumber r))) (Err (KindNumber l))) hl

  module _ (hl : a_kind l ≡ true) where
    right_none : a_kind r ≡ false → nth_read l r n back rest ≡ Err (KindNumber r)
    right_none hr = ap₂ (λ x y. pick x (pick y (pick (leb back 1) (Ok (nth_of l r n (eqb back 1), rest)) (Err (Tag back))) (Err (KindNumber r))) (Err (KindNumber l))) hl hr

    module _ (hr : a_kind r ≡ true) where
      by_back : (x : Bool) → leb back 1 ≡ x → nth_read l r n back rest ≡ pick x (Ok (nth_of l r n (eqb back 1), rest)) (Err (Tag back))
      by_back x hb =
          ap₂ (λ y z. pick y (pick z (pick (leb back 1) (Ok (nth_of l r n (eqb back 1), rest)) (Err (Tag back))) (Err (KindNumber r))) (Err (KindNumber l))) hl hr
          ∙ ap (λ y. pick y (Ok (nth_of l r n (eqb back 1), rest)) (Err (Tag back))) hb

      back_none : leb back 1 ≡ false → nth_read l r n back rest ≡ Err (Tag back)
      back_none = by_back false

      all_there : leb back 1 ≡ true → nth_read l r n back rest ≡ Ok (nth_of l r n (eqb back 1), rest)
      all_there = by_back true

-- six bytes and more decide what is read
module _ (bs : List ℕ) (h : 6 ≤ length bs) where
  long_enough : read_nth bs ≡ nth_read (number (get_or bs 0 0) (get_or bs 1 0)) (number (get_or bs 2 0) (get_or bs 3 0)) (get_or bs 4 0) (get_or bs 5 0) (drop 6 bs)
  long_enough =
      ap (λ x. pick x (Err EndsEarly) (nth_read (number (get_or bs 0 0) (get_or bs 1 0)) (number (get_or bs 2 0) (get_or bs 3 0)) (get_or bs 4 0) (get_or bs 5 0) (drop 6 bs))) (le-ltb (length bs) 6 h)

  pub no_left_kind : (f : Fault) → (f ≡ KindNumber (number (get_or bs 0 0) (get_or bs 1 0))) × (a_kind (number (get_or bs 0 0) (get_or bs 1 0)) ≡ false) → Err f ≡ read_nth bs
  no_left_kind f told = ap (λ x. Err x) told.0 ∙ sym (long_enough ∙ left_none _ (number (get_or bs 2 0) (get_or bs 3 0)) (get_or bs 4 0) (get_or bs 5 0) (drop 6 bs) told.1)

  module _ (kl : ℕ) (is_left : (kl ≡ number (get_or bs 0 0) (get_or bs 1 0)) × (a_kind (number (get_or bs 0 0) (get_or bs 1 0)) ≡ true)) where
    pub no_right_kind : (f : Fault) → (f ≡ KindNumber (number (get_or bs 2 0) (get_or bs 3 0))) × (a_kind (number (get_or bs 2 0) (get_or bs 3 0)) ≡ false) → Err f ≡ read_nth bs
    no_right_kind f told =
        ap (λ x. Err x) told.0 ∙ sym (long_enough ∙ right_none (number (get_or bs 0 0) (get_or bs 1 0)) _ (get_or bs 4 0) (get_or bs 5 0) (drop 6 bs) is_left.1 told.1)

    module _ (kr : ℕ) (is_right : (kr ≡ number (get_or bs 2 0) (get_or bs 3 0)) × (a_kind (number (get_or bs 2 0) (get_or bs 3 0)) ≡ true)) where
      pub no_direction : (f : Fault) → (f ≡ Tag (get_or bs 5 0)) × (leb (get_or bs 5 0) 1 ≡ false) → Err f ≡ read_nth bs
      no_direction f told =
          ap (λ x. Err x) told.0
          ∙ sym (long_enough ∙ back_none (number (get_or bs 0 0) (get_or bs 1 0)) (number (get_or bs 2 0) (get_or bs 3 0)) (get_or bs 4 0) (get_or bs 5 0) (drop 6 bs) is_left.1 is_right.1 told.1)

      pub an_nth_place : (back : Bool) (rest : List ℕ) → (back ≡ eqb (get_or bs 5 0) 1) × (leb (get_or bs 5 0) 1 ≡ true) → rest ≡ drop 6 bs → Ok (nth_of kl kr (get_or bs 4 0) back, rest) ≡ read_nth bs
      an_nth_place back rest told e =
          ap (λ k. Ok (nth_of k kr (get_or bs 4 0) back, rest)) is_left.0 ∙ ap (λ k. Ok (nth_of (number (get_or bs 0 0) (get_or bs 1 0)) k (get_or bs 4 0) back, rest)) is_right.0
          ∙ ap₂ (λ b l. Ok (nth_of (number (get_or bs 0 0) (get_or bs 1 0)) (number (get_or bs 2 0) (get_or bs 3 0)) (get_or bs 4 0) b, l)) told.0 e
          ∙ sym (long_enough ∙ all_there (number (get_or bs 0 0) (get_or bs 1 0)) (number (get_or bs 2 0) (get_or bs 3 0)) (get_or bs 4 0) (get_or bs 5 0) (drop 6 bs) is_left.1 is_right.1 told.1)

pub ruleset nth_told = (no_left_kind, no_right_kind, no_direction, an_nth_place)
