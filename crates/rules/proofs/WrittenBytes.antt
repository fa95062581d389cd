-- What is written into lent bytes, one piece after the other.
use Rattle.std.proofs.Common.{◌≡◌, ℕ, ◌+◌, ◌-◌, ◌≤◌, List, [], ◌++◌, length, take, drop, sym, ap, ◌∙◌, ap₂, append_assoc, add-zero, arith, length-append, length-drop}
use borrow.Rule.Slice.PartMut.{put_mid}
use Rattle.std.proofs.lemmas.List.{take-append-drop, drop-drop, length-take-le, take_at, drop_at}
use Rattle.rules.specs.Answers.{written}
use Rattle.rules.specs.Writing.{Writing, wrote, HasRoom}

-- a copy into a part of what is lent writes there
pub copied_is : (out ys bs : List ℕ) (at : ℕ) → ys ≡ bs → put_mid at (at + length bs - at) out ys ≡ written out at bs
copied_is out ys bs at e =
    let k : at + length bs - at ≡ length bs = omega arith in
    ap₂ (λ l r. take at out ++ (l ++ r)) e (drop-drop (at + length bs - at) at out ∙ ap (λ n. drop (at + n) out) k)

pub length_written : (out : List ℕ) (at : ℕ) (bs : List ℕ) → at + length bs ≤ length out → length (written out at bs) ≡ length out
length_written out at bs h =
    let front = length-take-le at out (omega arith) in
    let back = length-drop (at + length bs) out in
    let all = length-append (take at out) (bs ++ drop (at + length bs) out) in
    let rest = length-append bs (drop (at + length bs) out) in
    omega arith

-- two pieces in a row are one
pub written_append : (out : List ℕ) (at : ℕ) (xs ys : List ℕ) → at + length xs ≤ length out → written (written out at xs) (at + length xs) ys ≡ written out at (xs ++ ys)
written_append out at xs ys h =
    let rest = drop (at + length xs) out in
    let before = take at out ++ xs in
    let is : written out at xs ≡ before ++ rest = sym (append_assoc (take at out) xs rest) in
    let long : length before ≡ at + length xs = let n = length-append (take at out) xs in let k = length-take-le at out (omega arith) in omega arith in
    let front : take (at + length xs) (written out at xs) ≡ before = ap (take (at + length xs)) is ∙ take_at before rest (at + length xs) long in
    let back : drop (at + length xs + length ys) (written out at xs) ≡ drop (at + length (xs ++ ys)) out =
    sym (drop-drop (length ys) (at + length xs) (written out at xs)) ∙ ap (drop (length ys)) (ap (drop (at + length xs)) is ∙ drop_at before rest (at + length xs) long)
    ∙ drop-drop (length ys) (at + length xs) out ∙ ap (λ n. drop n out) (let n = length-append xs ys in omega arith) in
    ap₂ (λ f b. f ++ (ys ++ b)) front back ∙ append_assoc (take at out) xs _ ∙ ap (λ l. take at out ++ l) (sym (append_assoc xs ys _))

pub written_none : (out : List ℕ) (at : ℕ) → written out at [] ≡ out
written_none out at = ap (λ n. take at out ++ drop n out) (add-zero at) ∙ take-append-drop at out

-- a second piece right behind the first
pub written_next : (out : List ℕ) (at next : ℕ) (xs ys after then : List ℕ) → at + length xs ≤ length out → after ≡ written out at xs → next ≡ at + length xs → then ≡ written after next ys → then ≡ written out at (xs ++ ys)
written_next out at next xs ys after then h e n e₂ = e₂ ∙ ap₂ (λ o i. written o i ys) e n ∙ written_append out at xs ys h

-- THE SAME of bytes and up to where they are written
pub room_first : (w : Writing) (xs ys : List ℕ) → HasRoom w (xs ++ ys) → HasRoom w xs
room_first w xs ys h = let n = length-append xs ys in omega arith

pub room_next : (w v : Writing) (xs ys : List ℕ) → HasRoom w (xs ++ ys) → v ≡ wrote w xs → HasRoom v ys
room_next w v xs ys h e =
    let n = length-append xs ys in
    let long = ap (λ x. length x.out) e ∙ length_written w.out w.at xs (omega arith) in
    let up = ap (λ (x : Writing). x.at) e in
    omega arith

pub wrote_next : (w v u : Writing) (xs ys : List ℕ) → HasRoom w (xs ++ ys) → v ≡ wrote w xs → u ≡ wrote v ys → u ≡ wrote w (xs ++ ys)
wrote_next w v u xs ys h e f =
    let n = length-append xs ys in
    let up : w.at + length xs + length ys ≡ w.at + length (xs ++ ys) = omega arith in
    f ∙ ap (λ x. wrote x ys) e ∙ ap₂ (λ o a. record { out = o; at = a }) (written_append w.out w.at xs ys (omega arith)) up

pub wrote_none : (w : Writing) → w ≡ wrote w []
wrote_none w = ap₂ (λ o a. record { out = o; at = a }) (sym (written_none w.out w.at)) (let z : w.at ≡ w.at + 0 = omega arith in z)
