-- What stands in quotes is read back: a byte, a literal, a sign.
use Rattle.std.proofs.Common.{◌≡◌, ℕ, zero, suc, ◌+◌, ◌*◌, ◌/◌, ◌%◌, ◌<◌, ◌≤◌, Bool, true, ◌&&◌, ltb, List, [], ◌∷◌, ◌++◌, length, Some, None, codes, refl, append_assoc, append-nil, arith}
use Rattle.std.proofs.lemmas.Bool.{and_parts, ltb-true}
use Rattle.rules.specs.Lists.{pick, or, flat, every}
use Rattle.rules.proofs.Tests.{pick_both}
use Rattle.console.specs.Text.{hex, marked, plain, shown}
use Rattle.console.specs.Reading.{read, strip, read_digit, read_byte, read_bytes, read_literal, read_sign}

pub strip_back : (w t : List ℕ) → strip w (w ++ t) ≡ Some t
strip_back [] t = refl
strip_back (c ∷ w) t = let ih = strip_back w t in grind arith

pub digit_back : (d : ℕ) (t : List ℕ) → d < 16 → read_digit (hex d ∷ t) ≡ read d t
digit_back d t h = grind arith

pub plain_back : (c : ℕ) (t : List ℕ) → plain c ≡ true → read_byte (c ∷ t) ≡ read c t
unfolding read_byte
plain_back c t h = grind arith

pub marked_back : (c : ℕ) (t : List ℕ) → marked c ≡ true → read_byte (92 ∷ c ∷ t) ≡ read c t
unfolding read_byte
marked_back c t h = grind arith

pub hex_back : (c : ℕ) (t : List ℕ) → c < 256 → read_byte (92 ∷ 120 ∷ hex (c / 16) ∷ hex (c % 16) ∷ t) ≡ read c t
unfolding read_byte
hex_back c t h =
    let high = digit_back (c / 16) (hex (c % 16) ∷ t) (omega arith) in
    let low = digit_back (c % 16) t (omega arith) in
    let whole : 16 * (c / 16) + c % 16 ≡ c = omega arith in
    grind arith

-- a byte is read as it is shown, and the quote that closes is not among what is shown
pub byte_back : (high : Bool) (c : ℕ) (t : List ℕ) → c < 256 → read_byte (shown high c ++ t) ≡ read c t
byte_back high c t h =
    pick_both (marked c) (92 ∷ c ∷ []) (pick (plain c && or high (ltb c 128)) (c ∷ []) (92 ∷ 120 ∷ hex (c / 16) ∷ hex (c % 16) ∷ [])) (λ s. read_byte (s ++ t) ≡ read c t) (marked_back c t)
    (λ m. pick_both (plain c && or high (ltb c 128)) (c ∷ []) (92 ∷ 120 ∷ hex (c / 16) ∷ hex (c % 16) ∷ []) (λ s. read_byte (s ++ t) ≡ read c t) (λ p. plain_back c t (and_parts _ _ p).0) (λ p. hex_back c t h))

pub shown_open : (high : Bool) (c : ℕ) (t : List ℕ) → strip (codes "\"") (shown high c ++ t) ≡ None
shown_open high c t = grind arith

-- as many bytes as there is room for, and the closing quote
pub bytes_back : (high : Bool) (n : ℕ) (so_far bs rest : List ℕ) → length bs ≤ n → every (λ c. ltb c 256) bs ≡ true → read_bytes n so_far (flat (shown high) bs ++ 34 ∷ rest) ≡ read (so_far ++ bs) rest
unfolding read_bytes
bytes_back high zero so_far [] rest h e = rw append-nil
bytes_back high (suc n) so_far [] rest h e = rw append-nil
bytes_back high zero so_far (c ∷ bs) rest h e = absurd (omega arith)
bytes_back high (suc n) so_far (c ∷ bs) rest h e =
    let parts = and_parts (ltb c 256) (every (λ d. ltb d 256) bs) e in
    let text = flat (shown high) bs ++ 34 ∷ rest in
    let open₁ = shown_open high c text in
    let one = byte_back high c text (ltb-true c 256 parts.0) in
    let ih = bytes_back high n (so_far ++ c ∷ []) bs rest (omega arith) parts.1 in
    rw append_assoc (rw open₁ (rw one (rw append_assoc at ih)))

pub literal_back : (high : Bool) (bs rest : List ℕ) → 1 ≤ length bs → length bs ≤ 64 → every (λ c. ltb c 256) bs ≡ true → read_literal (flat (shown high) bs ++ 34 ∷ rest) ≡ read bs rest
unfolding read_literal
literal_back high [] rest some few e = absurd (omega arith)
literal_back high (c ∷ bs) rest some few e =
    let parts = and_parts (ltb c 256) (every (λ d. ltb d 256) bs) e in
    let one = byte_back high c (flat (shown high) bs ++ 34 ∷ rest) (ltb-true c 256 parts.0) in
    rw append_assoc (rw one (bytes_back high 63 (c ∷ []) bs rest (omega arith) parts.1))

pub sign_back : (high : Bool) (c : ℕ) (rest : List ℕ) → c < 256 → read_sign (flat (shown high) (c ∷ []) ++ 34 ∷ rest) ≡ read (256 + c) rest
unfolding read_sign
sign_back high c rest h = let one = byte_back high c (34 ∷ rest) h in rw (append-nil, one)
