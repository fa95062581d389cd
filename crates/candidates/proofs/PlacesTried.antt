-- The steps of the walk through the places of a text try the places that the definitions list.
use Rattle.std.proofs.Common.{◌≡◌, ℕ, zero, suc, ◌+◌, ◌<◌, ◌≤◌, Bool, true, false, eqb, List, [], ◌∷◌, ◌++◌, length, get_or, take, sym, refl, ap, ◌∙◌, append_assoc, append-nil, arith}
use Rattle.std.proofs.lemmas.List.{take_all}
use Rattle.rules.specs.declared.kind.Kind.{Kind}
use Rattle.rules.specs.Lists.{pick, each, flat, up_to}
use Rattle.rules.specs.Places.{Place, from_first, from_last, nth_of, all_of}
use Rattle.rules.specs.Values.{kind_number}
use Rattle.candidates.specs.declared.question.Question.{Question}
use Rattle.candidates.specs.declared.table.Table as declared
use Rattle.candidates.specs.Places.{both_ways, places_between, places_behind, places_among, counted, places_in, kinds_in}
use Rattle.candidates.specs.Tables.{the_table, Becomes, all_tried_for}
use Rattle.candidates.specs.Weights.{smaller}
use Rattle.candidates.proofs.TriedInTurn.{tried_more, tried_same, tried_end, Tried, of_kinds, kinds_next, kinds_end}

-- both are anything, or not
pub between_nothing : (t : List ℕ) (l r : ℕ) → eqb (l + r) 0 ≡ true → [] ≡ places_between t l r
unfolding places_between
between_nothing t l r h = sym (ap (λ z. pick z [] (flat (both_ways l r) (up_to (smaller (length (all_of t l r)) 64)))) h)

pub between_kinds : (t : List ℕ) (l r count : ℕ) → eqb (l + r) 0 ≡ false → count ≡ smaller (length (all_of t l r)) 64
    → flat (both_ways l r) (up_to count) ≡ places_between t l r
unfolding places_between
between_kinds t l r count h c =
    ap (λ k. flat (both_ways l r) (up_to k)) c ∙ sym (ap (λ z. pick z [] (flat (both_ways l r) (up_to (smaller (length (all_of t l r)) 64)))) h)

-- from the beginning, then from the end
pub ways_next : (l r n i : ℕ) (d : Bool) (front : List Place) → i < 2
    → front ++ take (i + 1) (both_ways l r n) ≡ (front ++ take i (both_ways l r n)) ++ nth_of l r (n + 1) (get_or (false ∷ true ∷ []) i d) ∷ []
ways_next l r n zero d front h = ap (λ x. x ++ (nth_of l r (n + 1) false ∷ [])) (sym (append-nil front))
ways_next l r n (suc zero) d front h = sym (append_assoc front (nth_of l r (n + 1) false ∷ []) (nth_of l r (n + 1) true ∷ []))
ways_next l r n (suc (suc i)) d front h = absurd (omega arith)

pub ways_all : (l r n i : ℕ) (front : List Place) → 2 ≤ i → front ++ both_ways l r n ≡ front ++ take i (both_ways l r n)
ways_all l r n i front h = ap (λ x. front ++ x) (sym (take_all i (both_ways l r n) h))

module _ (t : List ℕ) (ks : List Kind) where
  -- the places behind the first i kinds, and those between a kind and each of the first j
  abbrev pub lefts : ℕ → List Place
  lefts i = of_kinds (λ k. places_behind t (each kind_number ks) k) i ks

  abbrev pub rights : Kind → ℕ → List Place
  rights l j = of_kinds (λ r. places_between t (kind_number l) r) j ks

  module _ (q : Question) (start : declared.Table) where
    pub right_on : (i j : ℕ) (l d : Kind) (now then : declared.Table) → Tried q start (lefts i ++ rights l j) now → j < length ks
        → Becomes now then (all_tried_for q (the_table now) (places_between t (kind_number l) (kind_number (get_or ks j d))))
        → Tried q start (lefts i ++ rights l (j + 1)) then
    right_on i j l d now then tried h b =
        tried_more q start now then (lefts i ++ rights l j) (places_between t (kind_number l) (kind_number (get_or ks j d)))
        (lefts i ++ rights l (j + 1)) tried b
        (ap (λ x. lefts i ++ x) (kinds_next (λ r. places_between t (kind_number l) r) ks j d h)
        ∙ sym (append_assoc (lefts i) (rights l j) (places_between t (kind_number l) (kind_number (get_or ks j d)))))

    pub left_on : (i j : ℕ) (d : Kind) (now : declared.Table) → Tried q start (lefts i ++ rights (get_or ks i d) j) now → i < length ks → length ks ≤ j
        → Tried q start (lefts (i + 1)) now
    unfolding places_behind
    left_on i j d now tried h k =
        tried_same q start now (lefts i ++ rights (get_or ks i d) j) (lefts (i + 1)) tried
        (kinds_next (λ k. places_behind t (each kind_number ks) k) ks i d h
        ∙ ap (λ x. lefts i ++ x) (sym (kinds_end (λ r. places_between t (kind_number (get_or ks i d)) r) ks j k)))

-- first those that are counted in bytes, then those between kinds
pub all_places : (q : Question) (start first then : declared.Table) (t ks : List ℕ) → ks ≡ kinds_in t
    → Becomes start first (all_tried_for q (the_table start) counted)
    → Becomes first then (all_tried_for q (the_table first) (places_among t ks)) → Becomes start then (all_tried_for q (the_table start) (places_in t))
unfolding places_in
all_places q start first then t ks k b c =
    let tried : Tried q start counted first = record { is = b.is; same_reference = b.same_reference } in
    let front = each (λ n. from_first n) (up_to 65) in
    let behind = each (λ n. from_last n) (up_to 65) in
    let all : counted ++ places_among t ks ≡ places_in t = append_assoc front behind (places_among t ks) ∙ ap (λ x. front ++ (behind ++ places_among t x)) k in
    tried_end q start then (counted ++ places_among t ks) (places_in t)
    (tried_more q start first then counted (places_among t ks) (counted ++ places_among t ks) tried c refl) all
