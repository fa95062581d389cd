-- Trying places one after the other, or list after list, tries them all.
use Rattle.std.proofs.Common.{◌≡◌, ℕ, suc, ◌+◌, ◌<◌, ◌≤◌, true, false, List, [], ◌∷◌, ◌++◌, length, get_or, take, sym, refl, ap, ◌∙◌, subst, append-nil, arith}
use Rattle.std.proofs.lemmas.List.{take_all, take_more}
use Rattle.rules.specs.Lists.{pick, each, flat, up_to}
use Rattle.rules.specs.Examples.{Example}
use Rattle.rules.specs.Places.{Place}
use Rattle.rules.specs.Values.{kind_number}
use Rattle.rules.specs.declared.kind.Kind.{Kind}
use Rattle.rules.proofs.EachElement.{each_append}
use Rattle.candidates.specs.declared.question.Question.{Question}
use Rattle.candidates.specs.declared.table.Table as declared
use Rattle.candidates.specs.Rows.{lies_in_all}
use Rattle.candidates.specs.RowTable.{Table, row_of, added, tried, all_tried}
use Rattle.candidates.specs.Tables.{examples_of, asked_of, the_table, Becomes, tried_for, all_tried_for}
use Rattle.candidates.proofs.RowAdded.{becomes_as}
use Rattle.candidates.proofs.TableRows.{flat_append}

module _ (es : List Example) (asked : List (List ℕ)) where
  -- a place is there in every given text, or missing in one
  pub tried_there : (t : Table) (p : Place) (x : List ℕ) → lies_in_all es p ≡ true → x ≡ row_of es asked p → added t x ≡ tried es asked t p
  unfolding tried
  tried_there t p x h e = ap (added t) e ∙ sym (ap (λ b. pick b (added t (row_of es asked p)) t) h)

  pub tried_missing : (t : Table) (p : Place) → lies_in_all es p ≡ false → t ≡ tried es asked t p
  unfolding tried
  tried_missing t p h = sym (ap (λ b. pick b (added t (row_of es asked p)) t) h)

  all_tried_append : (t : Table) (ps qs : List Place) → all_tried es asked t (ps ++ qs) ≡ all_tried es asked (all_tried es asked t ps) qs
  unfolding all_tried
  all_tried_append t [] qs = refl
  all_tried_append t (p ∷ ps) qs = all_tried_append (tried es asked t p) ps qs

  all_tried_one : (t : Table) (p : Place) → tried es asked t p ≡ all_tried es asked t (p ∷ [])
  unfolding all_tried
  all_tried_one t p = refl

  -- then more places, after some
  pub tried_then : (start now then : Table) (ps qs all : List Place) → now ≡ all_tried es asked start ps → then ≡ all_tried es asked now qs → all ≡ ps ++ qs
      → then ≡ all_tried es asked start all
  tried_then start now then ps qs all e f a = f ∙ ap (λ t. all_tried es asked t qs) e ∙ sym (all_tried_append start ps qs) ∙ ap (all_tried es asked start) (sym a)

  pub tried_nothing : (t : Table) → t ≡ all_tried es asked t []
  unfolding all_tried
  tried_nothing t = refl

module _ (q : Question) where
  -- these places have been tried, from one table on
  pub record Tried (start : declared.Table) (ps : List Place) (now : declared.Table) : Type 0 where
    pub is : the_table now ≡ all_tried_for q (the_table start) ps
    pub same_reference : now.numbers.ghost_name ≡ start.numbers.ghost_name

  -- these are other words for them
  pub tried_same : (start now : declared.Table) (ps qs : List Place) → Tried start ps now → qs ≡ ps → Tried start qs now
  tried_same start now ps qs t e = subst (λ l. Tried start l now) (sym e) t

  pub tried_none : (t : declared.Table) → Tried t [] t
  tried_none t = record { is = tried_nothing (examples_of q) (asked_of q) (the_table t); same_reference = refl }

  pub tried_more : (start now then : declared.Table) (ps qs all : List Place) → Tried start ps now → Becomes now then (all_tried_for q (the_table now) qs)
      → all ≡ ps ++ qs → Tried start all then
  tried_more start now then ps qs all t b a =
      record { is = tried_then (examples_of q) (asked_of q) (the_table start) (the_table now) (the_table then) ps qs all t.is b.is a; same_reference = b.same_reference ∙ t.same_reference }

  pub tried_one : (start now then : declared.Table) (ps all : List Place) (p : Place) → Tried start ps now → Becomes now then (tried_for q (the_table now) p)
      → all ≡ ps ++ p ∷ [] → Tried start all then
  tried_one start now then ps all p t b a =
      tried_more start now then ps (p ∷ []) all t (becomes_as now then _ _ b (all_tried_one (examples_of q) (asked_of q) (the_table now) p)) a

  -- and no more are to be tried
  pub tried_end : (start now : declared.Table) (ps all : List Place) → Tried start ps now → ps ≡ all → Becomes start now (all_tried_for q (the_table start) all)
  tried_end start now ps all t e = record { is = t.is ∙ ap (all_tried_for q (the_table start)) e; same_reference = t.same_reference }

-- LISTS THAT GROW
pub each_next : (f : ℕ → Place) (n : ℕ) → each f (up_to (n + 1)) ≡ each f (up_to n) ++ f n ∷ []
unfolding up_to
each_next f n = ap (λ m. each f (up_to m)) (let k : n + 1 ≡ suc n = omega arith in k) ∙ each_append f (up_to n) (n ∷ [])

pub flat_next : (f : ℕ → List Place) (n : ℕ) → flat f (up_to (n + 1)) ≡ flat f (up_to n) ++ f n
unfolding up_to
flat_next f n =
    ap (λ m. flat f (up_to m)) (let k : n + 1 ≡ suc n = omega arith in k) ∙ flat_append f (up_to n) (n ∷ [])
    ∙ ap (λ l. flat f (up_to n) ++ l) (append-nil (f n))

-- of the first i kinds
abbrev pub of_kinds : (ℕ → List Place) → ℕ → List Kind → List Place
of_kinds f i ks = flat f (each kind_number (take i ks))

pub kinds_next : (f : ℕ → List Place) (ks : List Kind) (i : ℕ) (d : Kind) → i < length ks
    → of_kinds f (i + 1) ks ≡ of_kinds f i ks ++ f (kind_number (get_or ks i d))
kinds_next f ks i d h =
    ap (λ l. flat f (each kind_number l)) (take_more ks i d h) ∙ ap (flat f) (each_append kind_number (take i ks) (get_or ks i d ∷ []))
    ∙ flat_append f (each kind_number (take i ks)) (kind_number (get_or ks i d) ∷ [])
    ∙ ap (λ l. flat f (each kind_number (take i ks)) ++ l) (append-nil (f (kind_number (get_or ks i d))))

pub kinds_end : (f : ℕ → List Place) (ks : List Kind) (i : ℕ) → length ks ≤ i → of_kinds f i ks ≡ flat f (each kind_number ks)
kinds_end f ks i h = ap (λ l. flat f (each kind_number l)) (take_all i ks h)
