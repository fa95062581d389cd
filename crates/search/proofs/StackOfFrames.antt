-- The frames in use as a stack: how many there are, and what becomes of it when one is set.
use Rattle.std.proofs.Common.{◌≡◌, ℕ, zero, suc, ◌<◌, ◌≤◌, List, ◌∷◌, length, set, refl, ap, ap₂, arith}
use Rattle.std.proofs.lemmas.List.{get_or-set_same, get_or-set_other}
use Rattle.search.specs.Steps.{no_frame}
use Rattle.search.specs.ByExamples.{frame_of, stack_of}
use Rattle.search.specs.declared.frame.Frame.{Frame}

pub stack_length : (d : ℕ) (fs : List Frame) → length (stack_of d fs) ≡ d
unfolding stack_of
stack_length zero fs = refl
stack_length (suc d) fs = ap suc (stack_length d fs)

-- a frame that is not in use does not matter
pub stack_past : (d i : ℕ) (fs : List Frame) (f : Frame) → d ≤ i → stack_of d (set fs i f) ≡ stack_of d fs
unfolding stack_of
stack_past zero i fs f h = refl
stack_past (suc d) i fs f h = ap₂ (λ x y. frame_of x ∷ y) (get_or-set_other fs i d f no_frame (λ e. omega arith)) (stack_past d i fs f (omega arith))

-- a frame set behind those in use comes on top of them
pub stack_top : (d : ℕ) (fs : List Frame) (f : Frame) → d < length fs → stack_of (suc d) (set fs d f) ≡ frame_of f ∷ stack_of d fs
unfolding stack_of
stack_top d fs f h = ap₂ (λ x y. frame_of x ∷ y) (get_or-set_same fs d f no_frame h) (stack_past d d fs f (omega arith))
