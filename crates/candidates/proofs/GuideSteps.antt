-- The steps of the guide: there is one for each wanted byte, and none is above the weight of a literal or of a cut that makes so many bytes.
use Rattle.std.proofs.Common.{◌≡◌, ℕ, zero, suc, ◌+◌, ◌<◌, ◌≤◌, eqb, List, [], ◌∷◌, ◌++◌, length, get_or, drop, refl, ap, ◌∙◌, arith, length-append}
use Rattle.std.proofs.lemmas.Bool.Decides.{nat_tests}
use Rattle.rules.proofs.Tests.{pick_both}
use Rattle.candidates.specs.Weights.{smaller}
use Rattle.candidates.specs.Guide.{literal_weight, cut_weight, literal_steps, along, cut_steps, steps}

pub length_literal_steps : (d : ℕ) (ws : List ℕ) → length (literal_steps d ws) ≡ length ws
unfolding literal_steps
length_literal_steps d [] = refl
length_literal_steps d (b ∷ bs) = ap suc (length_literal_steps (d + 1) bs)

pub length_along : (a : ℕ) (cs gs ws ns : List ℕ) → length (along a cs gs ws ns) ≡ length ns
unfolding along
length_along a cs gs ws [] = refl
length_along a cs gs [] (n ∷ ns) = refl
length_along a cs [] (w ∷ ws) (n ∷ ns) = refl
length_along a [] (g ∷ gs) (w ∷ ws) (n ∷ ns) = refl
length_along a (c ∷ cs) (g ∷ gs) (w ∷ ws) (n ∷ ns) =
    pick_both (eqb g w) (smaller n (cut_weight a c) ∷ along a cs gs ws ns) (n ∷ ns) (λ l. length l ≡ suc (length ns))
    (λ _. ap suc (length_along a cs gs ws ns)) (λ _. refl)

pub length_cut_steps : (cs gs ws ns : List ℕ) → length (cut_steps cs gs ws ns) ≡ length ns
unfolding cut_steps
length_cut_steps [] gs ws ns = refl
length_cut_steps (c ∷ cs) [] ws ns = refl
length_cut_steps (c ∷ cs) (g ∷ gs) ws ns = length_cut_steps cs gs ws (along c cs (g ∷ gs) ws ns) ∙ length_along c cs (g ∷ gs) ws ns

pub length_steps : (cs gs ws : List ℕ) → length (steps cs gs ws) ≡ length ws
length_steps cs gs ws = length_cut_steps cs gs ws (literal_steps 0 ws) ∙ length_literal_steps 0 ws

pub literal_at : (d : ℕ) (ws : List ℕ) (i : ℕ) → i < length ws → get_or (literal_steps d ws) i 0 ≡ literal_weight (d + suc i)
unfolding literal_steps
literal_at d [] i h = absurd (omega arith)
literal_at d (b ∷ bs) zero h = omega arith
literal_at d (b ∷ bs) (suc i) h = let ih = literal_at (d + 1) bs i (omega arith) in omega arith

-- cuts only lower a step
along_lowers : (a : ℕ) (cs gs ws ns : List ℕ) (i : ℕ) → get_or (along a cs gs ws ns) i 0 ≤ get_or ns i 0
unfolding along
along_lowers a cs gs ws [] i = omega arith
along_lowers a cs gs [] (n ∷ ns) i = omega arith
along_lowers a cs [] (w ∷ ws) (n ∷ ns) i = omega arith
along_lowers a [] (g ∷ gs) (w ∷ ws) (n ∷ ns) i = omega arith
along_lowers a (c ∷ cs) (g ∷ gs) (w ∷ ws) (n ∷ ns) zero = grind (arith, nat_tests)
along_lowers a (c ∷ cs) (g ∷ gs) (w ∷ ws) (n ∷ ns) (suc i) = let ih = along_lowers a cs gs ws ns i in grind (arith, nat_tests)

cut_steps_lower : (cs gs ws ns : List ℕ) (i : ℕ) → get_or (cut_steps cs gs ws ns) i 0 ≤ get_or ns i 0
unfolding cut_steps
cut_steps_lower [] gs ws ns i = omega arith
cut_steps_lower (c ∷ cs) [] ws ns i = omega arith
cut_steps_lower (c ∷ cs) (g ∷ gs) ws ns i =
    let ih = cut_steps_lower cs gs ws (along c cs (g ∷ gs) ws ns) i in
    let one = along_lowers c cs (g ∷ gs) ws ns i in
    omega arith

pub step_by_literal : (cs gs ws : List ℕ) (i : ℕ) → i < length ws → get_or (steps cs gs ws) i 0 ≤ literal_weight (suc i)
step_by_literal cs gs ws i h = let low = cut_steps_lower cs gs ws (literal_steps 0 ws) i in let at = literal_at 0 ws i h in omega arith

-- given and wanted that begin alike with x and xs: a cut of so many bytes is gone past
along_reaches : (a x : ℕ) (xs cs g w ns : List ℕ) → length xs < length cs → length xs < length ns →
    get_or (along a cs ((x ∷ xs) ++ g) ((x ∷ xs) ++ w) ns) (length xs) 0 ≤ cut_weight a (get_or cs (length xs) 0)
unfolding along
along_reaches a x xs [] g w ns h k = absurd (omega arith)
along_reaches a x xs (c ∷ cs) g w [] h k = absurd (omega arith)
along_reaches a x [] (c ∷ cs) g w (n ∷ ns) h k = grind (arith, nat_tests)
along_reaches a x (y ∷ xs) (c ∷ cs) g w (n ∷ ns) h k = let ih = along_reaches a y xs cs g w ns (omega arith) (omega arith) in grind (arith, nat_tests)

cut_steps_reach : (z x : ℕ) (xs cs t g w ns : List ℕ) → drop z t ≡ (x ∷ xs) ++ g → suc (length xs) < length (drop z cs) → length xs < length ns →
    get_or (cut_steps cs t ((x ∷ xs) ++ w) ns) (length xs) 0 ≤ cut_weight (get_or (drop z cs) 0 0) (get_or (drop z cs) (suc (length xs)) 0)
unfolding cut_steps
cut_steps_reach zero x xs [] t g w ns e h k = absurd (omega arith)
cut_steps_reach zero x xs (c ∷ cs) [] g w ns e h k = absurd (grind arith)
cut_steps_reach zero x xs (c ∷ cs) (y ∷ t) g w ns e h k =
    let low = cut_steps_lower cs t ((x ∷ xs) ++ w) (along c cs (y ∷ t) ((x ∷ xs) ++ w) ns) (length xs) in
    let one = along_reaches c x xs cs g w ns (omega arith) k in
    let same : get_or (along c cs (y ∷ t) ((x ∷ xs) ++ w) ns) (length xs) 0 ≡ get_or (along c cs ((x ∷ xs) ++ g) ((x ∷ xs) ++ w) ns) (length xs) 0 =
    ap (λ l. get_or (along c cs l ((x ∷ xs) ++ w) ns) (length xs) 0) e in
    omega arith
cut_steps_reach (suc z) x xs [] t g w ns e h k = absurd (omega arith)
cut_steps_reach (suc z) x xs (c ∷ cs) [] g w ns e h k = absurd (grind arith)
cut_steps_reach (suc z) x xs (c ∷ cs) (y ∷ t) g w ns e h k =
    cut_steps_reach z x xs cs t g w (along c cs (y ∷ t) ((x ∷ xs) ++ w) ns) e h (rw length_along k)

-- where the given text has x and xs at z, and they are wanted next
pub step_by_cut : (z x : ℕ) (xs cs t g w : List ℕ) → drop z t ≡ (x ∷ xs) ++ g → suc (length xs) < length (drop z cs) →
    get_or (steps cs t ((x ∷ xs) ++ w)) (length xs) 0 ≤ cut_weight (get_or (drop z cs) 0 0) (get_or (drop z cs) (suc (length xs)) 0)
step_by_cut z x xs cs t g w e h = cut_steps_reach z x xs cs t g w (literal_steps 0 ((x ∷ xs) ++ w)) e h few
  where
    few : length xs < length (literal_steps 0 ((x ∷ xs) ++ w))
    few = let n = length_literal_steps 0 ((x ∷ xs) ++ w) in let m = length-append (x ∷ xs) w in omega arith
