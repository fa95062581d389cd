-- What is read of any text is a rule there is, with so many parts, bytes, kinds and numbers as a rule may have; and where it fails is in the text.
use Rattle.std.proofs.Common.{◌≡◌, ℕ, zero, suc, ◌+◌, ◌-◌, ◌*◌, ◌≤◌, Bool, true, false, ◌&&◌, eqb, ltb, leb, List, [], ◌∷◌, ◌++◌, length, drop, Some, None, codes, Option, refl, ap, ◌∙◌, subst, arith}
use Rattle.std.proofs.lemmas.List.{length_push, length-append}
use Rattle.std.proofs.lemmas.Bool.{and_parts, and_from, le-leb}
use Rattle.rules.specs.Lists.{pick, between, every}
use Rattle.rules.specs.Places.{from_first, from_last, nth_of}
use Rattle.rules.specs.Rules.{bytes, cut, Rule, a_kind, a_place, a_part, a_rule}
use Rattle.rules.specs.Faults.{rule_fault}
use Rattle.rules.proofs.FaultlessRules.{rule_faultless}
use Rattle.rules.proofs.FaultsTell.{literal_right}
use Rattle.rules.proofs.EachElement.{every_push}
use Rattle.console.specs.declared.expected.Expected.{Expected}
use Rattle.console.specs.declared.expected.Expected.TheVariants.{Part as some_part, Place as some_place, Number, LaterNumber, Bytes, Edge, Named, OrdinalEnd, PlaceWord, Side, To, Byte, Escape, Digit, Quote}
use Rattle.console.specs.Text.{marked, plain, count_end, ordinal_end, run_text, to_text}
use Rattle.console.specs.Reading.{Read, read, failed, next, strip, after, front, begins_number, read_digit, read_hex, read_escaped, read_byte, read_bytes, read_literal, read_sign, read_number, read_second, past_second, read_run, read_kind, read_behind, read_sides, read_word, read_ordinal, read_later, read_edge, read_count, read_the, read_place, read_cut, read_part, read_end, read_parts, read_rule}
use Rattle.console.specs.Told.{FailsAt}
use Rattle.console.specs.Promises.{ReadsRules, FailsWithin}
use Rattle.rules.proofs.Tests.{pick_both}
use Rattle.console.proofs.WordsStrip.{strip_splits}

-- a reading within a text that is so long: what is read, if anything, passes the test, and no more is left than there was
module _ (whole : ℕ) where
  abbrev Gives : {A : Type 0} → (A → Bool) → Read A → Type 0
  Gives p (read a rest) = (p a ≡ true) × (length rest ≤ whole)
  Gives p (failed left e) = left ≤ whole

  gives_next : {A B : Type 0} (p : A → Bool) (q : B → Bool) (x : Read A) (f : A → List ℕ → Read B) → Gives p x → ((a : A) (rest : List ℕ) → p a ≡ true → length rest ≤ whole → Gives q (f a rest)) → Gives q (next x f)
  gives_next p q (read a rest) f h g = g a rest h.0 h.1
  gives_next p q (failed left e) f h g = h

  gives_after : {B : Type 0} (q : B → Bool) (w t : List ℕ) (f : List ℕ → Read B) (b : Read B) → length t ≤ whole → ((rest : List ℕ) → length rest ≤ whole → Gives q (f rest)) → Gives q b → Gives q (after (strip w t) f b)
  gives_after q w t f b l g h = step (strip w t) refl
    where
      step : (o : Option (List ℕ)) → strip w t ≡ o → Gives q (after o f b)
      step (Some rest) e = let split = strip_splits w t rest e in let sum = ap length split ∙ length-append w rest in g rest (omega arith)
      step None e = h

  -- it is enough that what is picked passes where it is picked
  gives_pick : {B : Type 0} (q : B → Bool) (b : Bool) (x y : Read B) → (b ≡ true → Gives q x) → (b ≡ false → Gives q y) → Gives q (pick b x y)
  gives_pick q b x y f g = pick_both b x y (Gives q) f g

  past_within : (t : List ℕ) → length t ≤ whole → length (drop 1 t) ≤ whole
  past_within [] l = l
  past_within (c ∷ t) l = omega arith

  -- BYTES
  digit_gives : (t : List ℕ) → length t ≤ whole → Gives (λ d. ltb d 16) (read_digit t)
  digit_gives t l =
      let past = past_within t l in
      gives_pick (λ d. ltb d 16) (between 48 57 (front t)) (read (front t - 48) (drop 1 t)) (pick (between 97 102 (front t)) (read (front t - 87) (drop 1 t)) (failed (length t) Digit)) (λ e. (grind arith, past))
      (λ e. gives_pick (λ d. ltb d 16) (between 97 102 (front t)) (read (front t - 87) (drop 1 t)) (failed (length t) Digit) (λ e. (grind arith, past)) (λ e. l))

  hex_gives : (t : List ℕ) → length t ≤ whole → Gives (λ c. ltb c 256) (read_hex t)
  hex_gives t l =
      gives_next (λ d. ltb d 16) (λ c. ltb c 256) (read_digit t) (λ h u. next (read_digit u) (λ l v. read (16 * h + l) v)) (digit_gives t l)
      (λ h u high lu. gives_next (λ d. ltb d 16) (λ c. ltb c 256) (read_digit u) (λ l v. read (16 * h + l) v) (digit_gives u lu) (λ d v low lv. (grind arith, lv)))

  escaped_gives : (t : List ℕ) → length t ≤ whole → Gives (λ c. ltb c 256) (read_escaped t)
  escaped_gives t l =
      gives_pick (λ c. ltb c 256) (marked (front t)) (read (front t) (drop 1 t)) (pick (eqb (front t) 120) (read_hex (drop 1 t)) (failed (length t) Escape)) (λ m. (grind arith, past_within t l))
      (λ m. gives_pick (λ c. ltb c 256) (eqb (front t) 120) (read_hex (drop 1 t)) (failed (length t) Escape) (λ x. hex_gives (drop 1 t) (past_within t l)) (λ x. l))

  byte_gives : (t : List ℕ) → length t ≤ whole → Gives (λ c. ltb c 256) (read_byte t)
  unfolding read_byte
  byte_gives t l =
      gives_pick (λ c. ltb c 256) (eqb (front t) 92) (read_escaped (drop 1 t)) (pick (plain (front t)) (read (front t) (drop 1 t)) (failed (length t) Byte)) (λ e. escaped_gives (drop 1 t) (past_within t l))
      (λ e. gives_pick (λ c. ltb c 256) (plain (front t)) (read (front t) (drop 1 t)) (failed (length t) Byte) (λ p. (grind arith, past_within t l)) (λ p. l))

  bytes_give : (n : ℕ) (so_far t : List ℕ) → length t ≤ whole → 1 ≤ length so_far → length so_far + n ≤ 64 → every (λ c. ltb c 256) so_far ≡ true → Gives (λ b. a_part (bytes b)) (read_bytes n so_far t)
  unfolding read_bytes a_part
  bytes_give zero so_far t l some few all =
      gives_after (λ b. a_part (bytes b)) (codes "\"") t (read so_far) (failed (length t) Quote) l (λ rest lr. (literal_right so_far all some (omega arith), lr)) l
  bytes_give (suc n) so_far t l some few all =
      gives_after (λ b. a_part (bytes b)) (codes "\"") t (read so_far) (next (read_byte t) (λ c u. read_bytes n (so_far ++ c ∷ []) u)) l (λ rest lr. (literal_right so_far all some (omega arith), lr))
      (gives_next (λ c. ltb c 256) (λ b. a_part (bytes b)) (read_byte t) (λ c u. read_bytes n (so_far ++ c ∷ []) u) (byte_gives t l) (λ c u h lu.
      let long = length_push so_far c in
      bytes_give n (so_far ++ c ∷ []) u lu (omega arith) (omega arith) (every_push (λ d. ltb d 256) so_far c all h)))

  literal_gives : (t : List ℕ) → length t ≤ whole → Gives (λ b. a_part (bytes b)) (read_literal t)
  unfolding read_literal
  literal_gives t l =
      gives_next (λ c. ltb c 256) (λ b. a_part (bytes b)) (read_byte t) (λ c u. read_bytes 63 (c ∷ []) u) (byte_gives t l)
      (λ c u h lu. bytes_give 63 (c ∷ []) u lu (omega arith) (omega arith) (and_from _ _ h refl))

  -- KINDS AND NUMBERS
  abbrev some_kind : ℕ → Bool
  some_kind k = a_kind k && leb 1 k

  sign_gives : (t : List ℕ) → length t ≤ whole → Gives some_kind (read_sign t)
  unfolding read_sign
  sign_gives t l =
      gives_next (λ c. ltb c 256) some_kind (read_byte t) (λ c u. after (strip (codes "\"") u) (read (256 + c)) (failed (length u) Quote)) (byte_gives t l)
      (λ c u h lu. gives_after some_kind (codes "\"") u (read (256 + c)) (failed (length u) Quote) lu (λ rest lr. (grind arith, lr)) lu)

  run_gives : (ends : Bool) (ks t : List ℕ) → length t ≤ whole → every some_kind ks ≡ true → Gives some_kind (read_run ends ks t)
  unfolding read_run
  run_gives ends [] t l h = l
  run_gives ends (k ∷ ks) t l h =
      let both = and_parts (some_kind k) (every some_kind ks) h in
      gives_after some_kind (run_text ends k) t (read k) (read_run ends ks t) l (λ rest lr. (both.0, lr)) (run_gives ends ks t l both.1)

  kind_gives : (ends : Bool) (t : List ℕ) → length t ≤ whole → Gives some_kind (read_kind ends t)
  unfolding read_kind
  kind_gives ends t l =
      gives_after some_kind (codes "there's a \"") t read_sign (read_run ends (1 ∷ 2 ∷ 3 ∷ 4 ∷ 5 ∷ []) t) l sign_gives (run_gives ends (1 ∷ 2 ∷ 3 ∷ 4 ∷ 5 ∷ []) t l refl)

  second_within : (t : List ℕ) → length t ≤ whole → length (past_second t) ≤ whole
  second_within t l = pick_both (between 48 57 (front t)) (drop 1 t) t (λ u. length u ≤ whole) (λ e. past_within t l) (λ e. l)

  number_gives : (t : List ℕ) → length t ≤ whole → Gives (between 1 64) (read_number t)
  unfolding read_number
  number_gives t l =
      let n = read_second (front t - 48) (drop 1 t) in
      gives_pick (between 1 64) (begins_number t && leb n 64) (read n (past_second (drop 1 t))) (failed (length t) Number) (λ h. (grind arith, second_within (drop 1 t) (past_within t l))) (λ h. l)

  -- PLACES
  nth_right : (l r n : ℕ) (back : Bool) → a_kind l ≡ true → a_kind r ≡ true → leb 1 (l + r) ≡ true → between 1 64 n ≡ true → a_place (nth_of l r n back) ≡ true
  unfolding a_place
  nth_right l r n back al ar some few = and_from _ _ (and_from _ _ al ar) (grind arith)

  -- a place with that behind it which is read, and with this or nothing before it
  right_gives : (k n : ℕ) (back : Bool) (t : List ℕ) → length t ≤ whole → a_kind k ≡ true → between 1 64 n ≡ true → Gives a_place (next (read_kind false t) (λ r v. read (nth_of k r n back) v))
  right_gives k n back t l ak few =
      gives_next some_kind a_place (read_kind false t) (λ r v. read (nth_of k r n back) v) (kind_gives false t l)
      (λ r v h lv. let both = and_parts (a_kind r) (leb 1 r) h in (nth_right k r n back ak both.0 (grind arith) few, lv))

  behind_gives : (k n : ℕ) (back : Bool) (t : List ℕ) → length t ≤ whole → some_kind k ≡ true → between 1 64 n ≡ true → Gives a_place (read_behind k n back t)
  unfolding read_behind
  behind_gives k n back t l h few =
      let both = and_parts (a_kind k) (leb 1 k) h in
      gives_after a_place (codes ", and behind which ") t (λ u. next (read_kind false u) (λ r v. read (nth_of k r n back) v)) (read (nth_of k 0 n back) t) l
      (λ u lu. right_gives k n back u lu both.0 few)
      (nth_right k 0 n back both.0 refl (grind arith) few, l)

  sides_give : (n : ℕ) (back : Bool) (t : List ℕ) → length t ≤ whole → between 1 64 n ≡ true → Gives a_place (read_sides n back t)
  unfolding read_sides
  sides_give n back t l few =
      let behind = after (strip (codes "behind which ") t) (λ u. next (read_kind false u) (λ r v. read (nth_of 0 r n back) v)) (failed (length t) Side) in
      gives_after a_place (codes "before which ") t (λ u. next (read_kind true u) (λ k v. read_behind k n back v)) behind l
      (λ u lu. gives_next some_kind a_place (read_kind true u) (λ k v. read_behind k n back v) (kind_gives true u lu) (λ k v h lv. behind_gives k n back v lv h few))
      (gives_after a_place (codes "behind which ") t (λ u. next (read_kind false u) (λ r v. read (nth_of 0 r n back) v)) (failed (length t) Side) l (λ u lu. right_gives 0 n back u lu refl few) l)

  word_gives : (n : ℕ) (t : List ℕ) → length t ≤ whole → between 1 64 n ≡ true → Gives a_place (read_word n t)
  unfolding read_word
  word_gives n t l few =
      gives_after a_place (codes " place ") t (read_sides n false) (after (strip (codes " last place ") t) (read_sides n true) (failed (length t) PlaceWord)) l (λ u lu. sides_give n false u lu few)
      (gives_after a_place (codes " last place ") t (read_sides n true) (failed (length t) PlaceWord) l (λ u lu. sides_give n true u lu few) l)

  later_gives : (t : List ℕ) → length t ≤ whole → Gives a_place (read_later t)
  unfolding read_later read_ordinal
  later_gives t l =
      gives_next (between 1 64) a_place (read_number t) (λ n u. pick (eqb n 1) (failed (length t) LaterNumber) (read_ordinal n u)) (number_gives t l)
      (λ n u few lu. gives_pick a_place (eqb n 1) (failed (length t) LaterNumber) (read_ordinal n u) (λ e. l)
      (λ e. gives_after a_place (ordinal_end n) u (read_word n) (failed (length u) OrdinalEnd) lu (λ v lv. word_gives n v lv few) lu))

  edge_gives : (n : ℕ) (t : List ℕ) → length t ≤ whole → leb n 64 ≡ true → Gives a_place (read_edge n t)
  unfolding read_edge a_place
  edge_gives n t l few =
      gives_after a_place (codes "beginning") t (read (from_first n)) (after (strip (codes "end") t) (read (from_last n)) (failed (length t) (pick (eqb n 0) Named Edge))) l (λ u lu. (few, lu))
      (gives_after a_place (codes "end") t (read (from_last n)) (failed (length t) (pick (eqb n 0) Named Edge)) l (λ u lu. (few, lu)) l)

  count_gives : (t : List ℕ) → length t ≤ whole → Gives a_place (read_count t)
  unfolding read_count
  count_gives t l =
      gives_next (between 1 64) a_place (read_number t) (λ n u. after (strip (count_end n) u) (read_edge n) (failed (length u) Bytes)) (number_gives t l)
      (λ n u few lu. gives_after a_place (count_end n) u (read_edge n) (failed (length u) Bytes) lu (λ v lv. edge_gives n v lv (and_parts (leb 1 n) (leb n 64) few).1) lu)

  the_gives : (t : List ℕ) → length t ≤ whole → Gives a_place (read_the t)
  unfolding read_the
  the_gives t l =
      let last = after (strip (codes "last place ") t) (read_sides 1 true) (read_edge 0 t) in
      gives_pick a_place (begins_number t) (read_later t) (after (strip (codes "first place ") t) (read_sides 1 false) last) (λ b. later_gives t l)
      (λ b. gives_after a_place (codes "first place ") t (read_sides 1 false) last l (λ u lu. sides_give 1 false u lu refl)
      (gives_after a_place (codes "last place ") t (read_sides 1 true) (read_edge 0 t) l (λ u lu. sides_give 1 true u lu refl) (edge_gives 0 t l refl)))

  place_gives : (t : List ℕ) → length t ≤ whole → Gives a_place (read_place t)
  unfolding read_place
  place_gives t l =
      gives_pick a_place (begins_number t) (read_count t) (after (strip (codes "the ") t) read_the (failed (length t) some_place)) (λ b. count_gives t l)
      (λ b. gives_after a_place (codes "the ") t read_the (failed (length t) some_place) l the_gives l)

  -- PARTS AND RULES
  cut_gives : (t : List ℕ) → length t ≤ whole → Gives a_part (read_cut t)
  unfolding read_cut a_part
  cut_gives t l =
      gives_next a_place a_part (read_place t) (λ p u. after (strip (to_text p) u) (λ v. next (read_place v) (λ q w. read (cut p q) w)) (failed (length u) To)) (place_gives t l)
      (λ p u hp lu. gives_after a_part (to_text p) u (λ v. next (read_place v) (λ q w. read (cut p q) w)) (failed (length u) To) lu
      (λ v lv. gives_next a_place a_part (read_place v) (λ q w. read (cut p q) w) (place_gives v lv) (λ q w hq lw. (and_from _ _ hp hq, lw))) lu)

  part_gives : (t : List ℕ) → length t ≤ whole → Gives a_part (read_part t)
  unfolding read_part
  part_gives t l =
      gives_after a_part (codes "\"") t (λ u. next (read_literal u) (λ b v. read (bytes b) v)) (after (strip (codes "from ") t) read_cut (failed (length t) some_part)) l
      (λ u lu. gives_next (λ b. a_part (bytes b)) a_part (read_literal u) (λ b v. read (bytes b) v) (literal_gives u lu) (λ b v h lv. (h, lv)))
      (gives_after a_part (codes "from ") t read_cut (failed (length t) some_part) l cut_gives l)

  end_gives : (r : Rule) (t : List ℕ) → length t ≤ whole → a_rule r ≡ true → Gives a_rule (read_end r t)
  end_gives r [] l h = (h, l)
  end_gives r (c ∷ t) l h = l

  parts_give : (n : ℕ) (so_far : Rule) (t : List ℕ) → length t ≤ whole → length so_far + n ≤ 8 → every a_part so_far ≡ true → Gives a_rule (read_parts n so_far t)
  unfolding read_parts
  parts_give zero so_far t l few all = end_gives so_far t l (and_from _ _ (le-leb _ _ (omega arith)) all)
  parts_give (suc n) so_far t l few all =
      gives_after a_rule (codes "; ") t (λ u. next (read_part u) (λ p v. read_parts n (so_far ++ p ∷ []) v)) (read_end so_far t) l
      (λ u lu. gives_next a_part a_rule (read_part u) (λ p v. read_parts n (so_far ++ p ∷ []) v) (part_gives u lu) (λ p v h lv.
      let long = length_push so_far p in
      parts_give n (so_far ++ p ∷ []) v lv (omega arith) (every_push a_part so_far p all h)))
      (end_gives so_far t l (and_from _ _ (le-leb _ _ (omega arith)) all))

  rule_gives : (t : List ℕ) → length t ≤ whole → Gives a_rule (read_rule t)
  unfolding read_rule
  rule_gives t l =
      gives_after a_rule (codes "no parts") t (read_end []) (next (read_part t) (λ p u. read_parts 7 (p ∷ []) u)) l (λ u lu. end_gives [] u lu refl)
      (gives_next a_part a_rule (read_part t) (λ p u. read_parts 7 (p ∷ []) u) (part_gives t l) (λ p u h lu. parts_give 7 (p ∷ []) u lu (omega arith) (and_from _ _ h refl)))

pub reads_rules : ReadsRules
reads_rules t r rest e = (subst (Gives (length t) a_rule) e (rule_gives (length t) t (omega arith))).0

-- so parts that are read have no fault
pub read_faultless : (t : List ℕ) (r : Rule) → read_rule t ≡ read r [] → rule_fault r ≡ None
read_faultless t r e = rule_faultless r (reads_rules t r [] e)

pub fails_within : FailsWithin
fails_within t left x e = subst (Gives (length t) a_rule) e (rule_gives (length t) t (omega arith))

-- the byte at which it fails, from how many bytes are left there
pub fails_at : (t : List ℕ) (left : ℕ) (x : Expected) → read_rule t ≡ failed left x → FailsAt t (length t - left) x
fails_at t left x e =
    let within = fails_within t left x e in
    let same : left ≡ length t - (length t - left) = omega arith in
    record { within = omega arith; fails = e ∙ ap (λ n. failed n x) same }
