-- A problem that was laid down holds what a search needs: the examples, good rows with what they cost, and a guide that is a lower bound.
use Rattle.std.proofs.Common.{◌≡◌, ℕ, ◌+◌, ◌*◌, ◌%◌, ◌<◌, ◌≤◌, true, ◌&&◌, eqb, leb, List, [], ◌∷◌, length, get_or, take, drop, sym, refl, ap, ◌∙◌, subst, inl, inr, mod-eq_of_lt, arith}
use native.Mathlib.Nat.{mod-le}
use Rattle.std.proofs.lemmas.List.{get_or-take, get_or-drop}
use Rattle.std.proofs.lemmas.Bool.{and_parts, leb-true}
use Rattle.rules.specs.Lists.{every, pick}
use Rattle.rules.specs.Places.{Place, from_first, from_last, nth_of}
use Rattle.rules.specs.Rules.{Rule, place_cost, kind_cost, a_kind, a_place, a_part}
use Rattle.rules.specs.Examples.{Example}
use Rattle.rules.proofs.Tests.{pick_both}
use Rattle.candidates.specs.Weights.{weight}
use Rattle.candidates.specs.Moves.{leads}
use Rattle.candidates.specs.Rows.{small_examples, given_of, wanted_of, lies_in_all, NoLater, GoodRows}
use Rattle.candidates.specs.RowTable.{Table, row_number, place_in, table_for, rows_in}
use Rattle.candidates.specs.Places.{places_in}
use Rattle.candidates.specs.Guide.{all_costs, guide_number}
use Rattle.candidates.specs.Problem.{problem_size, view_of, guide_in}
use Rattle.candidates.specs.Laid.{Laid}
use Rattle.candidates.specs.LaidProblem.{laid_problem}
use Rattle.candidates.proofs.FourParts.{part_long}
use Rattle.candidates.proofs.GuideOfTable.{RowsCheap, table_guide_sound}
use Rattle.candidates.proofs.GuidesLaid.{guides_there}
use Rattle.candidates.proofs.LaidViewed.{view_with, laid_view}
use Rattle.candidates.proofs.PlacesFew.{places_few}
use Rattle.candidates.proofs.PlacesThere.{usable, leads_uses}
use Rattle.candidates.proofs.RowNumbers.{row_costs}
use Rattle.candidates.proofs.RowsGood.{first_short, rows_good, rows_are}
use Rattle.candidates.proofs.SmallExamples.{small_few, small_short, short_at}
use Rattle.candidates.proofs.TextsLaid.{given_back, wanted_back}

-- THE COSTS
two_or_eight : (n : ℕ) → pick (eqb n 0) 2 8 < 256
two_or_eight n = pick_both (eqb n 0) 2 8 (λ c. c < 256) (λ _. omega arith) (λ _. omega arith)

none_or_one : (k : ℕ) → kind_cost k ≤ 1
none_or_one k = pick_both (eqb k 0) 0 1 (λ c. c ≤ 1) (λ _. omega arith) (λ _. omega arith)

-- what a valid place costs is a byte
cost_small : (p : Place) → a_place p ≡ true → place_cost p < 256
unfolding place_cost a_place
cost_small (from_first n) h = two_or_eight n
cost_small (from_last n) h = two_or_eight n
cost_small (nth_of l r n back) h =
    let counted = (and_parts (a_kind l && a_kind r) (leb 1 n && (leb n 64 && leb 1 (l + r))) h).1 in
    let most = (and_parts (leb n 64) (leb 1 (l + r)) (and_parts (leb 1 n) (leb n 64 && leb 1 (l + r)) counted).1).0 in
    omega (arith, leb-true n 64 most, none_or_one l, none_or_one r)

no_dearer : (c p : Place) → NoLater c p → place_cost c ≤ place_cost p
no_dearer c p (inl h) = omega arith
no_dearer c p (inr h) = omega (arith, h.0)

-- WHAT WAS LAID DOWN
module _ (x : Example) (rest : List Example) (asked : List (List ℕ)) (ns : List ℕ) (small : small_examples (x ∷ rest) ≡ true) (one : length asked ≤ 1) (size : length ns ≡ 109866) where
  abbrev es : List Example
  es = x ∷ rest

  abbrev t : Table
  t = table_for es asked (take 104000 (drop 5866 ns))

  table_room : length (take 104000 (drop 5866 ns)) ≡ 104000
  table_room = part_long ns size 5866 104000 (omega arith)

  rows_room : length (places_in x.given) ≤ 6500
  rows_room = places_few x.given (first_short x rest small)

  few : length es ≤ 8
  few = small_few es small

  short : (e : ℕ) → e < length es → (length (given_of es e) ≤ 64) × (length (wanted_of es e) ≤ 64)
  short = short_at es (small_short es small)

  good : GoodRows es asked (rows_in t.numbers t.rows)
  good = rows_good x rest asked (take 104000 (drop 5866 ns)) small one table_room rows_room

  row_costs_it : (i : ℕ) → i < t.rows → row_number t.numbers i 5 ≡ place_cost (place_in t.numbers i)
  row_costs_it i h =
      sym (get_or-take 16 (drop (16 * i) t.numbers) 5 0 (omega arith) ∙ get_or-drop (16 * i) t.numbers 5 0)
      ∙ ap (λ l. get_or l 5 0) (rows_are x rest asked (take 104000 (drop 5866 ns)) table_room rows_room i h) ∙ row_costs es asked (place_in t.numbers i)

  costs : (i : ℕ) → i < t.rows → row_number t.numbers i 5 % 256 ≡ place_cost (place_in t.numbers i)
  costs i h = ap (λ n. n % 256) (row_costs_it i h) ∙ mod-eq_of_lt (cost_small (place_in t.numbers i) (good.valid i h))

  -- for each place that a rule can use there is a row that lies like it and costs no more
  cheap : (e : ℕ) → e < length es → RowsCheap t.numbers t.rows es (usable es) e
  cheap e h p at u is =
      let both = and_parts (a_place p) (lies_in_all es p) u in
      let row = good.complete p both.0 both.1 in
      let there : at ∷ [] ≡ row_number t.numbers row.0 (6 + e) ∷ [] = sym is ∙ row.1.same e h in
      let same : row_number t.numbers row.0 (6 + e) ≡ at = cc in
      let low = no_dearer (place_in t.numbers row.0) p row.1.no_later in
      (row.0, record { below = row.1.below; at = same; cheap = (omega (arith, row_costs_it row.0 row.1.below)) })

  guide_room : length (take 4680 (drop 1186 ns)) ≡ 4680
  guide_room = part_long ns size 1186 4680 (omega arith)

  lower : (k e : ℕ) (s : List ℕ) (q : Rule) → e < length es → k ≤ 8 → length q ≤ k → every a_part q ≡ true → leads es s q ≡ true → guide_in (view_with es t ns) k e (get_or s e 0) ≤ weight q
  lower k e s q h top l valid on =
      let G : List ℕ = (view_with es t ns).guide in
      let j : ℕ = get_or s e 0 in
      let laid = guides_there (all_costs t.numbers t.rows) es (take 4680 (drop 1186 ns)) (length es) (omega (arith, guide_room, few)) (λ e h. (short e h).1) e h in
      let low = table_guide_sound t.numbers t.rows es (usable es) G e h (omega (arith, few)) (short e h).0 (cheap e h) laid q s k top l (leads_uses es s q on valid) on in
      let read : guide_number (drop (585 * e) G) j k ≡ get_or G (585 * e + 9 * j + k) 0 = get_or-drop (585 * e) G (9 * j + k) 0 ∙ ap (λ n. get_or G n 0) (omega arith) in
      pick_both (leb j 64) (get_or G (585 * e + 9 * j + k) 0 % 4294967296) 0 (λ n. n ≤ weight q) (λ _. omega (arith, mod-le (get_or G (585 * e + 9 * j + k) 0) 4294967296)) (λ _. omega arith)

  holds : Laid es asked (view_with es t ns)
  holds = record {
    examples = refl;
    given = λ e h. given_back es short (take 1170 (drop 16 ns)) (length es) (omega (arith, few, part_long ns size 16 1170 (omega arith))) (omega arith) e h;
    wanted = λ e h. wanted_back es short (take 1170 (drop 16 ns)) (length es) (omega (arith, few, part_long ns size 16 1170 (omega arith))) (omega arith) e h;
    good = good;
    costs = costs;
    lower = lower;
  }

  pub laid_right : Laid (x ∷ rest) asked (view_of (laid_problem (x ∷ rest) asked ns))
  laid_right = subst (λ v. Laid es asked v) (sym (laid_view es few (small_short es small) ns size asked)) holds

-- where there are no examples, a view finds none
pub none_laid : (asked : List (List ℕ)) (ns : List ℕ) → length ns ≡ problem_size → (view_of (laid_problem [] asked ns)).examples ≡ 0
none_laid asked ns size = ap (λ v. v.examples) (laid_view [] (omega arith) refl ns size asked)
