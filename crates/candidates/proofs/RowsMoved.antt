-- The rows behind one are moved down by one, all at once; and a row is put over another.
use Rattle.std.proofs.Common.{◌≡◌, ℕ, zero, suc, ◌+◌, ◌-◌, ◌*◌, ◌<◌, ◌≤◌, List, ◌++◌, length, take, drop, sym, ap, ◌∙◌, append_assoc, arith, length-drop, length-append}
use Rattle.std.specs.List.{copy_within}
use Rattle.std.proofs.Math.Seq.{take-add}
use Rattle.std.proofs.lemmas.List.{take-append-drop, take_at, drop_at, drop-drop, length-take-le}
use Rattle.candidates.specs.RowTable.{row_at, with_row, moved_down}

-- m rows from row i + 1 on, copied to where row i begins
abbrev copied : List ℕ → ℕ → ℕ → List ℕ
copied t i m = take (16 * i) t ++ (take (16 * m) (drop (16 * i + 16) t) ++ drop (16 * i + 16 * m) t)

pub moved_is : (t : List ℕ) (i m : ℕ) → 16 * i + 16 + 16 * m ≤ length t → moved_down t i m ≡ copied t i m
unfolding moved_down
moved_is t i zero h = sym (ap (λ n. take (16 * i) t ++ drop n t) (omega arith) ∙ take-append-drop (16 * i) t)
moved_is t i (suc m) h =
    moved_is once (i + 1) m (omega (arith, once_long)) ∙ ap (λ k. take k once ++ (take (16 * m) (drop (k + 16) once) ++ drop (k + 16 * m) once)) next
    ∙ ap (λ l. l ++ (take (16 * m) (drop (16 * i + 16 + 16) once) ++ drop (16 * i + 16 + 16 * m) once)) front_is
    ∙ append_assoc A r (take (16 * m) (drop (16 * i + 16 + 16) once) ++ drop (16 * i + 16 + 16 * m) once)
    ∙ ap (λ l. A ++ (r ++ (take (16 * m) l ++ drop (16 * i + 16 + 16 * m) once))) (behind 16)
    ∙ ap (λ l. A ++ (r ++ (take (16 * m) (drop 16 D) ++ l))) (behind (16 * m))
    ∙ ap (λ l. A ++ (l ++ (take (16 * m) (drop 16 D) ++ drop (16 * m) D))) row_is
    ∙ ap (λ l. A ++ l) (sym (append_assoc (take 16 D) (take (16 * m) (drop 16 D)) (drop (16 * m) D)))
    ∙ ap (λ l. A ++ (l ++ drop (16 * m) D)) (sym (take-add 16 (16 * m) D) ∙ ap (λ n. take n D) (omega arith))
    ∙ ap (λ l. A ++ (take (16 * suc m) D ++ l)) (drop-drop (16 * m) (16 * i + 16) t ∙ ap (λ n. drop n t) (omega arith))
  where
    A : List ℕ
    A = take (16 * i) t

    D : List ℕ
    D = drop (16 * i + 16) t

    r : List ℕ
    r = row_at t (i + 1)

    once : List ℕ
    once = with_row t i r

    next : 16 * (i + 1) ≡ 16 * i + 16
    next = omega arith

    row_is : r ≡ take 16 D
    row_is = ap (λ n. take 16 (drop n t)) next

    front_long : length A ≡ 16 * i
    front_long = length-take-le (16 * i) t (omega arith)

    row_long : length r ≡ 16
    row_long = length-take-le 16 (drop (16 * (i + 1)) t) (omega (arith, length-drop (16 * (i + 1)) t))

    both_long : length (A ++ r) ≡ 16 * i + 16
    both_long = omega (arith, length-append A r, front_long, row_long)

    split : once ≡ (A ++ r) ++ D
    split = sym (append_assoc A r D)

    once_long : length once ≡ length t
    once_long = omega (arith, ap length split, length-append (A ++ r) D, both_long, length-drop (16 * i + 16) t)

    front_is : take (16 * i + 16) once ≡ A ++ r
    front_is = ap (take (16 * i + 16)) split ∙ take_at (A ++ r) D (16 * i + 16) both_long

    behind : (n : ℕ) → drop (16 * i + 16 + n) once ≡ drop n D
    behind n = sym (drop-drop n (16 * i + 16) once) ∙ ap (drop n) (ap (drop (16 * i + 16)) split ∙ drop_at (A ++ r) D (16 * i + 16) both_long)

-- as the slice's method copies them
pub copied_down : (t : List ℕ) (i rows : ℕ) → i < rows → 16 * rows ≤ length t
    → copy_within t (16 * (i + 1)) (16 * rows) (16 * i) ≡ moved_down t i (rows - (i + 1))
copied_down t i rows h k =
    let many : 16 * rows - 16 * (i + 1) ≡ 16 * (rows - (i + 1)) = omega arith in
    let behind : 16 * (i + 1) ≡ 16 * i + 16 = omega arith in
    append_assoc (take (16 * i) t) (take (16 * rows - 16 * (i + 1)) (drop (16 * (i + 1)) t)) (drop (16 * i + (16 * rows - 16 * (i + 1))) t)
    ∙ ap (λ n. take (16 * i) t ++ (take n (drop (16 * (i + 1)) t) ++ drop (16 * i + n) t)) many
    ∙ ap (λ n. take (16 * i) t ++ (take (16 * (rows - (i + 1))) (drop n t) ++ drop (16 * i + 16 * (rows - (i + 1))) t)) behind
    ∙ sym (moved_is t i (rows - (i + 1)) (omega arith))
