-- Frames as they lie in memory: read where they were laid down, and laid down one behind the other.
use Rattle.std.proofs.Common.{◌≡◌, ℕ, suc, ◌+◌, ◌-◌, ◌*◌, ◌<◌, ◌≤◌, Bool, true, eqb, List, [], ◌∷◌, ◌++◌, length, get_or, take, drop, sym, refl, map, ap, ◌∙◌, ap₂, append_assoc, append-nil, arith, length-append}
use borrow.Rule.Slice.PartMut.{put_mid}
use Rattle.std.proofs.lemmas.List.{drop-drop, take_at, drop_at, get_or-drop, take_more}
use Rattle.std.proofs.lemmas.Bool.{and_parts, eqb-true}
use Rattle.std.specs.List.{range_with_len}
use Rattle.rules.specs.Lists.{flat, every}
use Rattle.rules.specs.Answers.{written}
use Rattle.rules.proofs.WrittenBytes.{copied_is, written_next}
use Rattle.search.specs.Memory.{frame_numbers, frame_from, frames_from}
use Rattle.search.specs.Steps.{held}
use Rattle.search.specs.declared.frame.Frame.{Frame}
use Rattle.search.specs.declared.status.Status.{Status}

none : (m : List ℕ) → [] ≡ frames_from 0 m
unfolding frames_from
none m = refl

flat_append : {A B : Type 0} (f : A → List B) (xs ys : List A) → flat f (xs ++ ys) ≡ flat f xs ++ flat f ys
flat_append f [] ys = refl
flat_append f (x ∷ xs) ys = ap (λ l. f x ++ l) (flat_append f xs ys) ∙ sym (append_assoc (f x) (flat f xs) (flat f ys))

flat_more : (fs : List Frame) (i : ℕ) (f : Frame) → i < length fs → f ≡ get_or fs i f → flat frame_numbers (take i fs) ++ frame_numbers f ≡ flat frame_numbers (take (i + 1) fs)
flat_more fs i f h e =
    sym (ap (flat frame_numbers) (take_more fs i f h) ∙ flat_append frame_numbers (take i fs) (get_or fs i f ∷ []) ∙ ap (λ z. flat frame_numbers (take i fs) ++ flat frame_numbers (z ∷ [])) (sym e)
    ∙ ap (λ l. flat frame_numbers (take i fs) ++ l) (append-nil (frame_numbers f)))

-- one frame, and those 11 numbers further on
next_frame : (m : List ℕ) (k at : ℕ) (fs : List Frame) → fs ≡ frames_from k (drop (at + 11) m) → frame_from (drop at m) ∷ fs ≡ frames_from (suc k) (drop at m)
unfolding frames_from
next_frame m k at fs e = ap (λ l. frame_from (drop at m) ∷ l) (e ∙ ap (frames_from k) (sym (drop-drop 11 at m)))

-- eight frames
pub frames_are : (m : List ℕ) → map (λ i. frame_from (drop (4 + 11 * i) m)) (range_with_len 0 8) ≡ frames_from 8 (drop 4 m)
frames_are m =
    next_frame m 7 4 _ (next_frame m 6 15 _ (next_frame m 5 26 _ (next_frame m 4 37 _ (next_frame m 3 48 _ (next_frame m 2 59 _ (next_frame m 1 70 _ (next_frame m 0 81 [] no_frames)))))))
  where
    no_frames : [] ≡ frames_from 0 (drop 92 m)
    no_frames = none (drop 92 m)

-- a frame is 11 numbers
pub frame_long : (f : Frame) → length f.state ≡ 9 → length (frame_numbers f) ≡ 11
frame_long f n = let l = length-append f.state (f.left ∷ f.index ∷ []) in omega arith

-- so many frames were laid down behind the first four numbers
pub record FramesLaid (before : List ℕ) (fs : List Frame) (m : List ℕ) (i : ℕ) : Type 0 where
  pub laid : m ≡ written before 4 (flat frame_numbers (take i fs))
  pub long : length (flat frame_numbers (take i fs)) ≡ 11 * i

pub frames_more : (before m after : List ℕ) (fs : List Frame) (i : ℕ) (f : Frame) → FramesLaid before fs m i → after ≡ written m (4 + 11 * i) (frame_numbers f) →
    length f.state ≡ 9 → 4 + 11 * i ≤ length before → i < length fs → f ≡ get_or fs i f → FramesLaid before fs after (i + 1)
frames_more before m after fs i f l e nine room h is =
    let more = flat_more fs i f h is in
    let long = l.long in
    record {
      laid = written_next before 4 (4 + 11 * i) (flat frame_numbers (take i fs)) (frame_numbers f) m after (omega arith) l.laid (omega arith) e ∙ ap (written before 4) more;
      long = (let n = length-append (flat frame_numbers (take i fs)) (frame_numbers f) in let k = ap length more in let eleven = frame_long f nine in omega arith);
    }

-- reading back what was laid down
pub frame_back : (f : Frame) (rest : List ℕ) → length f.state ≡ 9 → frame_from (frame_numbers f ++ rest) ≡ f
frame_back f rest n =
    let all : List ℕ = frame_numbers f ++ rest in
    let behind : drop 9 all ≡ f.left ∷ f.index ∷ rest = ap (drop 9) (append_assoc f.state (f.left ∷ f.index ∷ []) rest) ∙ drop_at f.state (f.left ∷ f.index ∷ rest) 9 n in
    ap (λ z. record { state = z; left = get_or all 9 0; index = get_or all 10 0 }) (ap (take 9) (append_assoc f.state (f.left ∷ f.index ∷ []) rest) ∙ take_at f.state (f.left ∷ f.index ∷ rest) 9 n)
    ∙ ap₂ (λ x y. record { state = f.state; left = x; index = y }) (sym (get_or-drop 9 all 0 0) ∙ ap (λ l. get_or l 0 0) behind) (sym (get_or-drop 9 all 1 0) ∙ ap (λ l. get_or l 1 0) behind)

-- every state has nine numbers
abbrev pub nines : List Frame → Bool
nines fs = every (λ f. eqb (length f.state) 9) fs

pub frames_back : (fs : List Frame) (rest : List ℕ) → nines fs ≡ true → frames_from (length fs) (flat frame_numbers fs ++ rest) ≡ fs
unfolding frames_from
frames_back [] rest n = refl
frames_back (f ∷ fs) rest n =
    let both = and_parts (eqb (length f.state) 9) (nines fs) n in
    let nine = eqb-true (length f.state) 9 both.0 in
    let is = append_assoc (frame_numbers f) (flat frame_numbers fs) rest in
    ap₂ (λ x xs. x ∷ xs) (ap frame_from is ∙ frame_back f (flat frame_numbers fs ++ rest) nine)
    (ap (λ l. frames_from (length fs) (drop 11 l)) is ∙ ap (frames_from (length fs)) (drop_at (frame_numbers f) (flat frame_numbers fs ++ rest) 11 (frame_long f nine)) ∙ frames_back fs rest both.1)

pub frames_long : (fs : List Frame) → nines fs ≡ true → length (flat frame_numbers fs) ≡ 11 * length fs
frames_long [] n = refl
frames_long (f ∷ fs) n =
    let both = and_parts (eqb (length f.state) 9) (nines fs) n in
    let here = frame_long f (eqb-true (length f.state) 9 both.0) in
    let ih = frames_long fs both.1 in
    let l = length-append (frame_numbers f) (flat frame_numbers fs) in
    omega arith

-- two pieces copied one behind the other
pub two_pieces : (m xs ys us vs : List ℕ) (at : ℕ) → length us ≡ 9 → xs ≡ us → ys ≡ vs → length vs ≡ 2 → at + 9 ≤ length m →
    put_mid (at + 9) (at + 11 - (at + 9)) (put_mid at (at + 9 - at) m xs) ys ≡ written m at (us ++ vs)
two_pieces m xs ys us vs at n e f k room =
    let first : put_mid at (at + 9 - at) m xs ≡ written m at us = ap (λ z. put_mid at (at + z - at) m xs) (sym n) ∙ copied_is m xs us at e in
    written_next m at (at + 9) us vs (put_mid at (at + 9 - at) m xs) _ (omega arith) first (omega arith)
    (ap (λ z. put_mid (at + 9) (z - (at + 9)) (put_mid at (at + 9 - at) m xs) ys) (let w : at + 11 ≡ at + 9 + length vs = omega arith in w) ∙ copied_is (put_mid at (at + 9 - at) m xs) ys vs (at + 9) f)

-- machines with the same numbers are the same
pub held_same : {s t : Status} {a b c d e f : ℕ} {xs ys : List Frame} → s ≡ t → a ≡ b → c ≡ d → e ≡ f → xs ≡ ys → held s a c e xs ≡ held t b d f ys
held_same s a c e x = cc
