-- Trying places in the order of their spelling keeps a table of rows right: one row for all that lie alike.
use Rattle.std.proofs.Common.{◌≡◌, ℕ, ◌+◌, ◌*◌, ◌<◌, ◌≤◌, Bool, true, ltb, ◌⊎◌, List, [], ◌∷◌, ◌++◌, length, get_or, take, drop, sym, refl, ap, ◌∙◌, subst, ap₂, inl, inr, append_assoc, arith, length-append}
use mathlib.Core.List.Memᴰ.{append_right as in_right}
use mathlib.Core.List.Memᴰ.{cases_cons as in_cases}
use mathlib.Core.List.Memᴰ.{head as here}
use mathlib.Core.List.{Memᴰ as In}
use Rattle.std.proofs.lemmas.List.{take-append-drop, length-drop, length-take-le, length_push}
use Rattle.std.proofs.lemmas.Bool.{lt-ltb, le-ltb, cases_lt, both_ways}
use Rattle.rules.specs.Lists.{pick, every}
use Rattle.rules.specs.Places.{Place}
use Rattle.rules.specs.Rules.{place_cost}
use Rattle.rules.specs.Examples.{Example}
use Rattle.rules.proofs.Tests.{pick_both}
use Rattle.candidates.specs.Rows.{lies_in_all}
use Rattle.candidates.specs.RowTable.{Table, row_of, most_rows, table_size, row_number, with_row, alike_at, in_place_of, pushed, added_at, added, tried, all_tried}
use Rattle.candidates.proofs.ListMembers.{every_in}
use Rattle.candidates.proofs.OrderedLists.{ordered_apart}
use Rattle.candidates.proofs.PlacesOrdered.{before}
use Rattle.candidates.proofs.TableRows.{laid, Found, laid_split, laid_push, laid_number, laid_replaced, laid_in_place_of, laid_alike}
use Rattle.candidates.proofs.RowNumbers.{row_long, row_costs}
use Rattle.candidates.proofs.RowsStandFor.{Fine, fine_without, fine_in_place_of, no_later_from, unlike, Covered, alike_same, Own, own_push, own_in_place_of, covered_push, covered_last, covered_in_place_of}

abbrev pub table_of : List ℕ → ℕ → Table
table_of ns n = record { numbers = ns; rows = n }

module _ (row : Place → List ℕ) where
  -- the table of some places, and anything behind it
  abbrev pub table : List Place → List ℕ → Table
  table ps rest = table_of (laid row ps rest) (length ps)

  -- the table has a row for each of ps, which are fine together with those still to be tried, and there is room for all of these
  pub record Kept (f : Place → Bool) (t : Table) (ps todo : List Place) : Type 0 where
    pub rest : List ℕ
    pub is : t ≡ table ps rest
    pub size : 16 * length ps + length rest ≡ table_size
    pub room : length ps + length todo ≤ most_rows
    pub fine : Fine (ps ++ todo)
    pub own : Own row f ps

  -- the table after p was tried: it covers what it covered, and p
  abbrev pub Step : (Place → Bool) → Table → List Place → Place → List Place → Type 0
  Step f t ps p todo = (qs : List Place) × Kept f t qs todo × ((q : Place) → Covered row ps q → Covered row qs q) × Covered row qs p

module _ (row : Place → List ℕ) (long : (p : Place) → length (row p) ≡ 16) (costs : (p : Place) → get_or (row p) 5 0 ≡ place_cost p) where
  cost_there : (cs : List Place) (c : Place) (ds : List Place) (rest : List ℕ) → row_number (laid row (cs ++ c ∷ ds) rest) (length cs) 5 ≡ place_cost c
  cost_there cs c ds rest =
      ap (λ t. row_number t (length cs) 5) (laid_split row long cs c ds rest) ∙ laid_number row long cs (length cs) refl c (laid row ds rest) 5 (omega arith) ∙ costs c

  module _ (cs : List Place) (c : Place) (ds : List Place) (rest : List ℕ) (p : Place) where
    abbrev full : Table
    full = table row (cs ++ c ∷ ds) rest

    abbrev chosen : Bool → Bool → Table
    chosen a b = pick a (pick b (in_place_of full (length cs) (row p)) full) (pushed full (row p))

    below : ltb (length cs) (length (cs ++ c ∷ ds)) ≡ true
    below = lt-ltb (length cs) (length (cs ++ c ∷ ds)) (let e = length-append cs (c ∷ ds) in omega arith)

    is_chosen : added_at full (row p) (length cs) ≡ chosen true (ltb (place_cost p) (place_cost c))
    is_chosen = ap₂ chosen below (ap₂ ltb (costs p) (cost_there cs c ds rest))

    pub added_cheaper : place_cost p < place_cost c → added_at (table row (cs ++ c ∷ ds) rest) (row p) (length cs) ≡ table row ((cs ++ ds) ++ p ∷ []) rest
    added_cheaper h =
        is_chosen ∙ ap (chosen true) (lt-ltb (place_cost p) (place_cost c) h)
        ∙ ap₂ table_of (laid_in_place_of row long cs (length cs) c ds rest p (length (cs ++ c ∷ ds)) refl refl) so_many
      where
        so_many : length (cs ++ c ∷ ds) ≡ length ((cs ++ ds) ++ p ∷ [])
        so_many = let a = length-append cs (c ∷ ds) in let b = length-append (cs ++ ds) (p ∷ []) in let d = length-append cs ds in omega arith

    pub added_dearer : place_cost c ≤ place_cost p → added_at (table row (cs ++ c ∷ ds) rest) (row p) (length cs) ≡ table row (cs ++ c ∷ ds) rest
    added_dearer h = is_chosen ∙ ap (chosen true) (le-ltb (place_cost p) (place_cost c) h)

  pub added_new : (ps : List Place) (rest : List ℕ) (p : Place) → length ps < most_rows → 16 ≤ length rest → added_at (table row ps rest) (row p) (length ps) ≡ table row (ps ++ p ∷ []) (drop 16 rest)
  added_new ps rest p h k =
      ap (λ b. pick b (pick (ltb (get_or (row p) 5 0) (row_number (laid row ps rest) (length ps) 5)) (in_place_of (table row ps rest) (length ps) (row p)) (table row ps rest)) (pushed (table row ps rest) (row p))) (le-ltb (length ps) (length ps) (omega arith))
      ∙ ap (λ b. pick b (table_of (with_row (laid row ps rest) (length ps) (row p)) (length ps + 1)) (table row ps rest)) (lt-ltb (length ps) most_rows h)
      ∙ ap₂ table_of
      (ap (λ l. with_row (laid row ps l) (length ps) (row p)) (sym (take-append-drop 16 rest))
      ∙ laid_replaced row long ps (length ps) refl (take 16 rest) (drop 16 rest) (row p) (length-take-le 16 rest k) ∙ laid_push row long ps p (drop 16 rest))
      (sym (length_push ps p))

  module _ (f : Place → Bool) (ps : List Place) (rest : List ℕ) (p : Place) (todo : List Place) (passes : f p ≡ true) (size : 16 * length ps + length rest ≡ table_size)
      (room : length ps + length (p ∷ todo) ≤ most_rows) (fine : Fine (ps ++ p ∷ todo)) (own : Own row f ps) where
    dearer : (cs : List Place) (c : Place) (ds : List Place) (n : ℕ) → ps ≡ cs ++ c ∷ ds → drop 6 (row c) ≡ drop 6 (row p) → n ≡ length cs → place_cost c ≤ place_cost p
        → Step row f (added_at (table row ps rest) (row p) n) ps p todo
    dearer cs c ds n e a m h = (
      ps,
      record {
        rest = rest;
        is = ap₂ (λ l k. added_at (table row l rest) (row p) k) e m ∙ added_dearer cs c ds rest p h ∙ ap (λ l. table row l rest) (sym e);
        size = size;
        room = omega arith;
        fine = fine_without ps p todo fine;
        own = own;
      },
      λ q k. k,
      (c, there, a, no_later_from c p h (ordered_apart before ps (p ∷ todo) c p fine.0 there (here refl))),
    )
      where
        there : In c ps
        there = subst (λ l. In c l) (sym e) (in_right cs (here refl))

    cheaper : (cs : List Place) (c : Place) (ds : List Place) (n : ℕ) → ps ≡ cs ++ c ∷ ds → drop 6 (row c) ≡ drop 6 (row p) → n ≡ length cs → place_cost p < place_cost c
        → Step row f (added_at (table row ps rest) (row p) n) ps p todo
    cheaper cs c ds n e a m h = (
      (cs ++ ds) ++ p ∷ [],
      record {
        rest = rest;
        is = ap₂ (λ l k. added_at (table row l rest) (row p) k) e m ∙ added_cheaper cs c ds rest p h;
        size = ap (λ k. 16 * k + length rest) so_many ∙ size;
        room = (let k = so_many in omega arith);
        fine = fine_in_place_of cs c ds p todo (subst (λ l. Fine (l ++ p ∷ todo)) e fine);
        own = own_in_place_of row f cs c ds p (subst (λ l. Own row f l) e own) passes a;
      },
      λ q k. covered_in_place_of row cs c ds p q a h (subst (λ l. Covered row l q) e k),
      covered_last row (cs ++ ds) p,
    )
      where
        so_many : length ((cs ++ ds) ++ p ∷ []) ≡ length ps
        so_many = let a = length-append cs (c ∷ ds) in let b = length-append (cs ++ ds) (p ∷ []) in let d = length-append cs ds in let g = ap length e in omega arith

    new : (n : ℕ) → every (λ z. unlike row z p) ps ≡ true → n ≡ length ps → Step row f (added_at (table row ps rest) (row p) n) ps p todo
    new n u m = (
      ps ++ p ∷ [],
      record {
        rest = drop 16 rest;
        is = ap (added_at (table row ps rest) (row p)) m ∙ added_new ps rest p (omega arith) (omega arith);
        size = (let a = length_push ps p in let b = length-drop 16 rest in omega arith);
        room = (let a = length_push ps p in omega arith);
        fine = subst Fine (sym (append_assoc ps (p ∷ []) todo)) fine;
        own = own_push row f ps p own passes (λ x i. every_in (λ z. unlike row z p) ps x u i);
      },
      λ q k. covered_push row ps p q k,
      covered_last row ps p,
    )

    found : (n : ℕ) → Found row ps (row p) 0 n → Step row f (added_at (table row ps rest) (row p) n) ps p todo
    found n (inl h) = new n h.0 (let k = h.1 in omega arith)
    found n (inr h) = by_cost (cases_lt (place_cost p) (place_cost h.1))
      where
        at : n ≡ length h.0
        at = let k = h.5 in omega arith

        by_cost : (place_cost p < place_cost h.1) ⊎ (place_cost h.1 ≤ place_cost p) → Step row f (added_at (table row ps rest) (row p) n) ps p todo
        by_cost (inl k) = cheaper h.0 h.1 h.2 n h.3 (alike_same row h.1 p h.4) at k
        by_cost (inr k) = dearer h.0 h.1 h.2 n h.3 (alike_same row h.1 p h.4) at k

    step : Step row f (added (table row ps rest) (row p)) ps p todo
    unfolding added
    step = found (alike_at (laid row ps rest) (row p) 0 (length ps)) (laid_alike row long [] 0 ps rest (row p) refl)

  pub added_keeps : (f : Place → Bool) (t : Table) (ps : List Place) (p : Place) (todo : List Place) → Kept row f t ps (p ∷ todo) → f p ≡ true → Step row f (added t (row p)) ps p todo
  added_keeps f t ps p todo k h = subst (λ u. Step row f (added u (row p)) ps p todo) (sym k.is) (step f ps k.rest p todo h k.size k.room k.fine k.own)

  -- one that does not pass is left out
  pub skipped : (f : Place → Bool) (t : Table) (ps : List Place) (p : Place) (todo : List Place) → Kept row f t ps (p ∷ todo) → Kept row f t ps todo
  skipped f t ps p todo k = record {
    rest = k.rest;
    is = k.is;
    size = k.size;
    room = (let h = k.room in omega arith);
    fine = fine_without ps p todo k.fine;
    own = k.own;
  }

module _ (es : List Example) (asked : List (List ℕ)) where
  -- the row of a place, and whether it lies in all given texts
  abbrev pub row : Place → List ℕ
  row p = row_of es asked p

  abbrev pub lies : Place → Bool
  lies p = lies_in_all es p

  -- the table after p was tried, or left out
  abbrev One : Table → List Place → Place → List Place → Type 0
  One t ps p todo = (qs : List Place) × Kept row lies t qs todo × ((q : Place) → Covered row ps q → Covered row qs q) × (lies p ≡ true → Covered row qs p)

  one : (t : Table) (ps : List Place) (p : Place) (todo : List Place) → Kept row lies t ps (p ∷ todo) → One (tried es asked t p) ps p todo
  unfolding tried
  one t ps p todo k =
      pick_both (lies p) (added t (row p)) t (λ u. One u ps p todo)
      (λ h. let s = added_keeps row (row_long es asked) (row_costs es asked) lies t ps p todo k h in (s.0, s.1, s.2, λ _. s.3))
      (λ h. (ps, skipped row (row_long es asked) (row_costs es asked) lies t ps p todo k, λ q c. c, λ g. absurd (both_ways (lies p) h g)))

  -- the table after all were tried: it covers what it covered, and each of these that lies in all given texts
  pub all_kept : (todo : List Place) (t : Table) (ps : List Place) → Kept row lies t ps todo
      → (qs : List Place) × Kept row lies (all_tried es asked t todo) qs [] × ((q : Place) → Covered row ps q → Covered row qs q) × ((q : Place) → In q todo → lies q ≡ true → Covered row qs q)
  unfolding all_tried
  all_kept [] t ps k = (ps, k, λ q c. c, λ q i. elim i [ ])
  all_kept (p ∷ todo) t ps k =
      let s = one t ps p todo k in
      let r = all_kept todo (tried es asked t p) s.0 s.1 in
      (r.0, r.1, λ q c. r.2 q (s.2 q c), λ q i h. both r.0 q (λ e. r.2 q (subst (λ x. Covered row s.0 x) (sym e) (s.3 (ap lies (sym e) ∙ h)))) (λ j. r.3 q j h) (in_cases i))
    where
      both : (qs : List Place) (q : Place) → (q ≡ p → Covered row qs q) → (In q todo → Covered row qs q) → (q ≡ p) ⊎ In q todo → Covered row qs q
      both qs q f g (inl e) = f e
      both qs q f g (inr j) = g j
