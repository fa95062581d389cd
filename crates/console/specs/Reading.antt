-- Rules as text: what is read of one, or where and why it is no rule. Assumes nothing: these are definitions.
use Rattle.std.specs.Prelude.{ℕ, zero, suc, ◌+◌, ◌-◌, ◌*◌, Bool, true, false, ◌&&◌, List, [], ◌∷◌, ◌++◌, length, drop, Some, None, codes, Option, ◌==◌, nat_le, slice_index}
use Rattle.rules.specs.Lists.{pick, between}
use Rattle.rules.specs.Places as places
use Rattle.rules.specs.Places.{from_first, from_last, nth_of}
use Rattle.rules.specs.Rules as rules
use Rattle.rules.specs.Rules.{bytes, cut, Rule}
use Rattle.console.specs.declared.expected.Expected.{Expected}
use Rattle.console.specs.declared.expected.Expected.TheVariants.{Part, Place, Number, LaterNumber, Bytes, Edge, Named, OrdinalEnd, PlaceWord, Side, Kind, To, Byte, Escape, Digit, Quote, End}
use Rattle.console.specs.Text.{marked, plain, count_end, ordinal_end, run_text, to_text}

-- what was read and what is left of the text; or how many bytes were left where it failed, and what was expected there
pub data Read (A : Type 0) : Type 0 where
  read : A → (rest : List ℕ) → Read A
  failed : (left : ℕ) → Expected → Read A

-- to go on with what was read
abbrev pub next : {A B : Type 0} → Read A → (A → List ℕ → Read B) → Read B
next (read a rest) f = f a rest
next (failed left e) f = failed left e

-- what is left of the text after the word, if it begins with it
abbrev pub strip : (word : List ℕ) → List ℕ → Option (List ℕ)
strip [] t = Some t
strip (c ∷ w) [] = None
strip (c ∷ w) (d ∷ t) = pick (c == d) (strip w t) None

-- to go on after a word, or else
abbrev pub after : {B : Type 0} → Option (List ℕ) → (List ℕ → B) → B → B
after (Some rest) f b = f rest
after None f b = b

-- the first byte; 0 at the end of the text, since no rule's text has a byte 0
abbrev pub front : List ℕ → ℕ
front t = slice_index t 0

-- WHAT STANDS IN QUOTES
-- a hexadecimal digit
abbrev pub read_digit : List ℕ → Read ℕ
read_digit t =
    pick (between 48 57 (front t)) (read (front t - 48) (drop 1 t))
    (pick (between 97 102 (front t)) (read (front t - 87) (drop 1 t)) (failed (length t) Digit))

-- two hexadecimal digits
abbrev pub read_hex : List ℕ → Read ℕ
read_hex t = next (read_digit t) (λ h u. next (read_digit u) (λ l v. read (16 * h + l) v))

-- what follows a backslash
abbrev pub read_escaped : List ℕ → Read ℕ
read_escaped t = pick (marked (front t)) (read (front t) (drop 1 t)) (pick (front t == 120) (read_hex (drop 1 t)) (failed (length t) Escape))

-- one byte
unfoldable pub read_byte : List ℕ → Read ℕ
read_byte t = pick (front t == 92) (read_escaped (drop 1 t)) (pick (plain (front t)) (read (front t) (drop 1 t)) (failed (length t) Byte))

-- up to so many bytes more, after those that were read, and the closing quote
unfoldable pub read_bytes : ℕ → (so_far : List ℕ) → List ℕ → Read (List ℕ)
read_bytes zero so_far t = after (strip (codes "\"") t) (read so_far) (failed (length t) Quote)
read_bytes (suc n) so_far t =
    after (strip (codes "\"") t) (read so_far) (next (read_byte t) (λ c u. read_bytes n (so_far ++ c ∷ []) u))

-- what follows the opening quote of a literal: 1 to 64 bytes
unfoldable pub read_literal : List ℕ → Read (List ℕ)
read_literal t = next (read_byte t) (λ c u. read_bytes 63 (c ∷ []) u)

-- what follows the opening quote of a sign: one byte. It gives the kind
unfoldable pub read_sign : List ℕ → Read ℕ
read_sign t = next (read_byte t) (λ c u. after (strip (codes "\"") u) (read (256 + c)) (failed (length u) Quote))

-- NUMBERS
-- a digit other than 0 begins a number
abbrev pub begins_number : List ℕ → Bool
begins_number t = between 49 57 (front t)

-- the number of one digit d, or of two if another follows
abbrev pub read_second : (d : ℕ) → List ℕ → ℕ
read_second d t = pick (between 48 57 (front t)) (10 * d + (front t - 48)) d

-- what follows that number
abbrev pub past_second : List ℕ → List ℕ
past_second t = pick (between 48 57 (front t)) (drop 1 t) t

-- a number from 1 to 64
unfoldable pub read_number : List ℕ → Read ℕ
read_number t =
    pick (begins_number t && nat_le (read_second (front t - 48) (drop 1 t)) 64)
    (read (read_second (front t - 48) (drop 1 t)) (past_second (drop 1 t))) (failed (length t) Number)

-- PLACES
-- a run of one of the kinds
unfoldable pub read_run : (ends : Bool) → (kinds : List ℕ) → List ℕ → Read ℕ
read_run ends [] t = failed (length t) Kind
read_run ends (k ∷ ks) t = after (strip (run_text ends k) t) (read k) (read_run ends ks t)

-- what ends or begins
unfoldable pub read_kind : (ends : Bool) → List ℕ → Read ℕ
read_kind ends t = after (strip (codes "there's a \"") t) read_sign (read_run ends (1 ∷ 2 ∷ 3 ∷ 4 ∷ 5 ∷ []) t)

-- what may stand behind a place before which there is an l
unfoldable pub read_behind : (l n : ℕ) → (back : Bool) → List ℕ → Read places.Place
read_behind l n back t =
    after (strip (codes ", and behind which ") t) (λ u. next (read_kind false u) (λ r v. read (nth_of l r n back) v))
    (read (nth_of l 0 n back) t)

-- what stands before the nth place, behind it, or both
unfoldable pub read_sides : (n : ℕ) → (back : Bool) → List ℕ → Read places.Place
read_sides n back t =
    after (strip (codes "before which ") t) (λ u. next (read_kind true u) (λ l v. read_behind l n back v))
    (after (strip (codes "behind which ") t) (λ u. next (read_kind false u) (λ r v. read (nth_of 0 r n back) v))
    (failed (length t) Side))

-- which way the nth place is counted
unfoldable pub read_word : (n : ℕ) → List ℕ → Read places.Place
read_word n t =
    after (strip (codes " place ") t) (read_sides n false)
    (after (strip (codes " last place ") t) (read_sides n true) (failed (length t) PlaceWord))

-- what follows its number
unfoldable pub read_ordinal : (n : ℕ) → List ℕ → Read places.Place
read_ordinal n t = after (strip (ordinal_end n) t) (read_word n) (failed (length t) OrdinalEnd)

-- the nth place from the second on
unfoldable pub read_later : List ℕ → Read places.Place
read_later t = next (read_number t) (λ n u. pick (n == 1) (failed (length t) LaterNumber) (read_ordinal n u))

-- the edge of the text from which so many bytes are counted; after "the " it is the edge itself, of 0 bytes
unfoldable pub read_edge : (n : ℕ) → List ℕ → Read places.Place
read_edge n t =
    after (strip (codes "beginning") t) (read (from_first n))
    (after (strip (codes "end") t) (read (from_last n)) (failed (length t) (pick (n == 0) Named Edge)))

-- so many bytes from an edge of the text
unfoldable pub read_count : List ℕ → Read places.Place
read_count t = next (read_number t) (λ n u. after (strip (count_end n) u) (read_edge n) (failed (length u) Bytes))

-- what follows "the "
unfoldable pub read_the : List ℕ → Read places.Place
read_the t =
    pick (begins_number t) (read_later t)
    (after (strip (codes "first place ") t) (read_sides 1 false) (after (strip (codes "last place ") t) (read_sides 1 true) (read_edge 0 t)))

-- a place
unfoldable pub read_place : List ℕ → Read places.Place
read_place t = pick (begins_number t) (read_count t) (after (strip (codes "the ") t) read_the (failed (length t) Place))

-- PARTS AND RULES
-- what follows "from "
unfoldable pub read_cut : List ℕ → Read rules.Part
read_cut t =
    next (read_place t) (λ p u. after (strip (to_text p) u) (λ v. next (read_place v) (λ q w. read (cut p q) w)) (failed (length u) To))

-- a part
unfoldable pub read_part : List ℕ → Read rules.Part
read_part t =
    after (strip (codes "\"") t) (λ u. next (read_literal u) (λ b v. read (bytes b) v)) (after (strip (codes "from ") t) read_cut (failed (length t) Part))

-- the rule ends where the text does
abbrev pub read_end : Rule → List ℕ → Read Rule
read_end r [] = read r []
read_end r (c ∷ t) = failed (length (c ∷ t)) End

-- up to so many parts more, after those that were read, and the end
unfoldable pub read_parts : ℕ → (so_far : Rule) → List ℕ → Read Rule
read_parts zero so_far t = read_end so_far t
read_parts (suc n) so_far t =
    after (strip (codes "; ") t) (λ u. next (read_part u) (λ p v. read_parts n (so_far ++ p ∷ []) v)) (read_end so_far t)

-- a rule, which is the whole text
unfoldable pub read_rule : List ℕ → Read Rule
read_rule t = after (strip (codes "no parts") t) (read_end []) (next (read_part t) (λ p u. read_parts 7 (p ∷ []) u))
