-- The table of rows that is laid down for some examples is right: it has, in the order of spelling, a row for each place that is there in all given texts.
use Rattle.std.proofs.Common.{◌≡◌, ℕ, ◌+◌, ◌<◌, ◌≤◌, true, false, ltb, leb, List, [], ◌∷◌, length, get_or, drop, sym, refl, ap, ◌∙◌, subst, subst₂, append-nil, arith}
use Rattle.std.proofs.lemmas.List.{get_or-drop}
use Rattle.std.proofs.lemmas.Bool.{and_parts, leb-true, not-true}
use Rattle.rules.specs.Lists.{every}
use Rattle.rules.specs.Places.{Place, from_first, spot}
use Rattle.rules.specs.Rules.{a_place}
use Rattle.rules.specs.Examples.{Example}
use Rattle.candidates.specs.Positions.{position}
use Rattle.candidates.specs.Rows.{small_text, small_example, small_examples, given_of, lies_in_all, NoLater, RowFor, GoodRows}
use Rattle.candidates.specs.Places.{places_in}
use Rattle.candidates.specs.RowTable.{Table, row_of, most_rows, table_size, row_number, row_at, alike, table_for, place_from, place_in, rows_in}
use Rattle.candidates.proofs.ListMembers.{in_at, every_at}
use Rattle.candidates.proofs.OrderedLists.{ordered, ordered_at}
use Rattle.candidates.proofs.PlacesOrdered.{before, places_ordered, places_valid}
use Rattle.candidates.proofs.PlacesComplete.{places_complete}
use Rattle.candidates.proofs.TableRows.{laid, number_at, whole_at}
use Rattle.candidates.proofs.RowNumbers.{lies_there, lies_in_each, row_long, row_place, row_position, row_asked, asked_is}
use Rattle.candidates.proofs.RowsStandFor.{Covered, unlike}
use Rattle.candidates.proofs.RowsKept.{Kept, row, lies, all_kept}

-- WHAT A TABLE OF PLACES SAYS
module _ (es : List Example) (asked : List (List ℕ)) (ps : List Place) (rest : List ℕ) where
  abbrev ns : List ℕ
  ns = laid (row es asked) ps rest

  -- the place of row i
  abbrev place : ℕ → Place
  place i = get_or ps i (from_first 0)

  number : (i f : ℕ) → i < length ps → f < 16 → row_number ns i f ≡ get_or (row_of es asked (place i)) f 0
  number i f h k = number_at (row es asked) (row_long es asked) ps i (from_first 0) rest h f k

  place_is : (i : ℕ) → i < length ps → place_in ns i ≡ place i
  place_is i h =
      ap (λ a. place_from a (row_number ns i 1) (row_number ns i 2) (row_number ns i 3) (row_number ns i 4)) (number i 0 h (omega arith))
      ∙ ap (λ a. place_from (n 0) a (row_number ns i 2) (row_number ns i 3) (row_number ns i 4)) (number i 1 h (omega arith))
      ∙ ap (λ a. place_from (n 0) (n 1) a (row_number ns i 3) (row_number ns i 4)) (number i 2 h (omega arith))
      ∙ ap (λ a. place_from (n 0) (n 1) (n 2) a (row_number ns i 4)) (number i 3 h (omega arith))
      ∙ ap (λ a. place_from (n 0) (n 1) (n 2) (n 3) a) (number i 4 h (omega arith))
      ∙ row_place es asked (place i)
    where
      n : ℕ → ℕ
      n f = get_or (row_of es asked (place i)) f 0

  -- the row is that of its place
  row_is : (i : ℕ) → i < length ps → row_at ns i ≡ row_of es asked (place_in ns i)
  row_is i h = whole_at (row es asked) (row_long es asked) ps i (from_first 0) rest h ∙ ap (row_of es asked) (sym (place_is i h))

  apart : ordered (unlike (row es asked)) ps ≡ true → (i j : ℕ) → i < j → j < length ps → alike (row_at ns i) (row_at ns j) ≡ false
  apart u i j h k =
      let e = whole_at (row es asked) (row_long es asked) ps i (from_first 0) rest (omega arith) in
      let f = whole_at (row es asked) (row_long es asked) ps j (from_first 0) rest k in
      subst₂ (λ x y. alike x y ≡ false) (sym e) (sym f) (not-true (alike (row_of es asked (place i)) (row_of es asked (place j))) (ordered_at (unlike (row es asked)) ps i j (from_first 0) u h k))

  module _ (few : length es ≤ 8) (one : length asked ≤ 1) where
    position_is : (i e : ℕ) → i < length ps → e < length es → row_number ns i (6 + e) ≡ position (given_of es e) (place i)
    position_is i e h k = number i (6 + e) h (omega arith) ∙ row_position es asked (place i) e k few

    asked_there : (i e : ℕ) → i < length ps → e < length asked → position (get_or asked e []) (place i) ≡ row_number ns i 14
    asked_there i e h k = asked_is asked e (place i) one k ∙ sym (number i 14 h (omega arith) ∙ row_asked es asked (place i))

    -- what lies like p lies in each text where p does
    same_position : (c p : Place) → drop 6 (row_of es asked c) ≡ drop 6 (row_of es asked p) → (e : ℕ) → e < length es → position (given_of es e) p ≡ position (given_of es e) c
    same_position c p s e k =
        sym (row_position es asked p e k few) ∙ sym (get_or-drop 6 (row_of es asked p) e 0) ∙ ap (λ l. get_or l e 0) (sym s) ∙ get_or-drop 6 (row_of es asked c) e 0 ∙ row_position es asked c e k few

    same_asked : (c p : Place) → drop 6 (row_of es asked c) ≡ drop 6 (row_of es asked p) → (e : ℕ) → e < length asked → position (get_or asked e []) p ≡ position (get_or asked e []) c
    same_asked c p s e k =
        asked_is asked e p one k ∙ sym (row_asked es asked p) ∙ sym (get_or-drop 6 (row_of es asked p) 8 0) ∙ ap (λ l. get_or l 8 0) (sym s) ∙ get_or-drop 6 (row_of es asked c) 8 0 ∙ row_asked es asked c
        ∙ sym (asked_is asked e c one k)

    row_for : (p : Place) → lies_in_all es p ≡ true → Covered (row es asked) ps p → (i : ℕ) × RowFor es asked (rows_in ns (length ps)) p i
    row_for p h c =
        let at = in_at ps c.0 (from_first 0) c.1 in
        let i = at.0 in
        let l = at.1 in (
          i,
          record {
            below = l;
            same = λ e k. lies_there (given_of es e) p (lies_in_each es p e h k)
                ∙ ap (λ n. n ∷ []) (same_position c.0 p c.2 e k ∙ ap (λ q. position (given_of es e) q) (sym at.2) ∙ sym (position_is i e l k));
            same_asked = λ e k. same_asked c.0 p c.2 e k ∙ ap (λ q. position (get_or asked e []) q) (sym at.2) ∙ asked_there i e l k;
            no_later = subst (λ q. NoLater q p) (sym (place_is i l ∙ at.2)) c.3;
          },
        )

    good : ordered before ps ≡ true → every a_place ps ≡ true → every (lies es asked) ps ≡ true → ((p : Place) → a_place p ≡ true → lies_in_all es p ≡ true → Covered (row es asked) ps p)
        → GoodRows es asked (rows_in ns (length ps))
    good o v l c = record {
      ordered = λ i j h k. subst₂ (λ p q. before p q ≡ true) (sym (place_is i (omega arith))) (sym (place_is j k)) (ordered_at before ps i j (from_first 0) o h k);
      valid = λ i h. ap a_place (place_is i h) ∙ every_at a_place ps i (from_first 0) v h;
      lies = λ i e h k. ap (spot (given_of es e)) (place_is i h)
          ∙ lies_there (given_of es e) (place i) (lies_in_each es (place i) e (every_at (lies es asked) ps i (from_first 0) l h) k) ∙ ap (λ n. n ∷ []) (sym (position_is i e h k));
      lies_asked = λ i e h k. ap (λ q. position (get_or asked e []) q) (place_is i h) ∙ asked_there i e h k;
      complete = λ p a h. row_for p h (c p a h);
    }

-- THE TABLE FOR SOME EXAMPLES
-- the first given text has up to 64 bytes
pub first_short : (e : Example) (es : List Example) → small_examples (e ∷ es) ≡ true → length e.given ≤ 64
first_short e es small =
    let first = (and_parts (small_example e) (every small_example es) (and_parts (leb (length (e ∷ es)) 8) (every small_example (e ∷ es)) small).1).0 in
    let given = (and_parts (small_text e.given) (small_text e.wanted) first).0 in
    leb-true (length e.given) 64 (and_parts (leb (length e.given) 64) (every (λ c. ltb c 256) e.given) given).0

module _ (e : Example) (es : List Example) (asked : List (List ℕ)) (ns : List ℕ) where
  abbrev made : Table
  made = table_for (e ∷ es) asked ns

  -- the places of its rows, one for each that is there in all given texts
  abbrev Made : Type 0
  Made = (qs : List Place) × Kept (row (e ∷ es) asked) (lies (e ∷ es) asked) made qs [] × ((p : Place) → a_place p ≡ true → lies_in_all (e ∷ es) p ≡ true → Covered (row (e ∷ es) asked) qs p)

  begun : length ns ≡ table_size → length (places_in e.given) ≤ most_rows → Kept (row (e ∷ es) asked) (lies (e ∷ es) asked) (record { numbers = ns; rows = 0 }) [] (places_in e.given)
  begun size few = record { rest = ns; is = refl; size = (omega arith); room = (omega arith); fine = (places_ordered e.given, places_valid e.given); own = (refl, refl) }

  done : length ns ≡ table_size → length (places_in e.given) ≤ most_rows → Made
  unfolding table_for
  done size few =
      let r = all_kept (e ∷ es) asked (places_in e.given) (record { numbers = ns; rows = 0 }) [] (begun size few) in
      (r.0, r.1, λ p a h. r.3 p (places_complete e.given p a (lies_in_each (e ∷ es) p 0 h (omega arith))) h)

  made_good : Made → length (e ∷ es) ≤ 8 → length asked ≤ 1 → GoodRows (e ∷ es) asked (rows_in made.numbers made.rows)
  made_good m few one =
      let k = m.1 in
      subst (λ t. GoodRows (e ∷ es) asked (rows_in t.numbers t.rows)) (sym k.is)
      (good (e ∷ es) asked m.0 k.rest few one (ap (ordered before) (sym (append-nil m.0)) ∙ k.fine.0) (ap (every a_place) (sym (append-nil m.0)) ∙ k.fine.1) k.own.0 m.2)

  made_are : Made → (i : ℕ) → i < made.rows → row_at made.numbers i ≡ row_of (e ∷ es) asked (place_in made.numbers i)
  made_are m =
      subst (λ t. (i : ℕ) → i < t.rows → row_at t.numbers i ≡ row_of (e ∷ es) asked (place_in t.numbers i)) (sym m.1.is)
      (λ i h. row_is (e ∷ es) asked m.0 m.1.rest i h)

  made_apart : Made → (i j : ℕ) → i < j → j < made.rows → alike (row_at made.numbers i) (row_at made.numbers j) ≡ false
  made_apart m =
      subst (λ t. (i j : ℕ) → i < j → j < t.rows → alike (row_at t.numbers i) (row_at t.numbers j) ≡ false) (sym m.1.is)
      (λ i j h k. apart (e ∷ es) asked m.0 m.1.rest m.1.own.1 i j h k)

  -- the table is right
  pub rows_good : small_examples (e ∷ es) ≡ true → length asked ≤ 1 → length ns ≡ table_size → length (places_in e.given) ≤ most_rows → GoodRows (e ∷ es) asked (rows_in (table_for (e ∷ es) asked ns).numbers (table_for (e ∷ es) asked ns).rows)
  rows_good small one size few = made_good (done size few) (leb-true (length (e ∷ es)) 8 (and_parts (leb (length (e ∷ es)) 8) (every small_example (e ∷ es)) small).0) one

  -- each row is that of its place
  pub rows_are : length ns ≡ table_size → length (places_in e.given) ≤ most_rows → (i : ℕ) → i < (table_for (e ∷ es) asked ns).rows → row_at (table_for (e ∷ es) asked ns).numbers i ≡ row_of (e ∷ es) asked (place_in (table_for (e ∷ es) asked ns).numbers i)
  rows_are size few = made_are (done size few)

  -- no two rows lie alike
  pub rows_apart : length ns ≡ table_size → length (places_in e.given) ≤ most_rows → (i j : ℕ) → i < j → j < (table_for (e ∷ es) asked ns).rows → alike (row_at (table_for (e ∷ es) asked ns).numbers i) (row_at (table_for (e ∷ es) asked ns).numbers j) ≡ false
  rows_apart size few = made_apart (done size few)
