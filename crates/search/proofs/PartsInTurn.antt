-- Going through the frames in use spells the parts that they have chosen.
use Rattle.std.proofs.Common.{◌≡◌, ℕ, ◌+◌, ◌-◌, ◌*◌, ◌<◌, ◌≤◌, List, ◌++◌, get_or, sym, ap, ◌∙◌, add-one, arith, length-append}
use Rattle.rules.specs.Writing.{Writing, wrote, HasRoom, HasRoomFor}
use Rattle.rules.proofs.WrittenBytes.{wrote_none, wrote_next}
use Rattle.candidates.specs.Problem.{View}
use Rattle.candidates.specs.Spelled.{candidate_spelled}
use Rattle.search.specs.Steps.{no_frame}
use Rattle.search.specs.Spelled.{frame_spelled, frames_spelled}
use Rattle.search.specs.declared.frame.Frame.{Frame}

module _ (v : View) (fs : List Frame) where
  one_more : (i : ℕ) (f : Frame) → f ≡ get_or fs i no_frame → frames_spelled v (i + 1) fs ≡ frames_spelled v i fs ++ frame_spelled v f
  unfolding frames_spelled
  one_more i f e = ap (λ d. frames_spelled v d fs) (add-one i) ∙ ap (λ g. frames_spelled v i fs ++ frame_spelled v g) (sym e)

  pub parts_none : (w : Writing) → w ≡ wrote w (frames_spelled v 0 fs)
  unfolding frames_spelled
  parts_none w = wrote_none w

  -- the parts of the first frames, i of them, are spelled behind w
  module _ (w : Writing) (room : HasRoomFor w 528) (i : ℕ) (few : i < 8) (x : Writing) (so_far : x ≡ wrote w (frames_spelled v i fs)) (bound : x.at ≤ w.at + 66 * i) where
    pub part_put_too : (y : Writing) (f : Frame) (k : ℕ) → f ≡ get_or fs i no_frame → k ≡ f.index - 1 → y ≡ wrote x (candidate_spelled v f.state k) → y.at ≤ x.at + 66 → y ≡ wrote w (frames_spelled v (i + 1) fs)
    part_put_too y f k is chosen e within =
        let part = candidate_spelled v f.state k in
        let more : frames_spelled v (i + 1) fs ≡ frames_spelled v i fs ++ part = one_more i f is ∙ ap (λ n. frames_spelled v i fs ++ candidate_spelled v f.state n) (sym chosen) in
        let fits : HasRoom w (frames_spelled v i fs ++ part) =
        let up = ap (λ (z : Writing). z.at) so_far in
        let end = ap (λ (z : Writing). z.at) e in
        let both = length-append (frames_spelled v i fs) part in
        omega arith in
        wrote_next w x y (frames_spelled v i fs) part fits so_far e ∙ ap (wrote w) (sym more)
