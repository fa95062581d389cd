-- What a search that begins leaves in memory, put together from what its steps leave; and that it begins there.
use Rattle.std.proofs.Common.{◌≡◌, ℕ, ◌+◌, ◌-◌, true, List, [], ◌∷◌, ◌++◌, length, take, drop, sym, ap, ◌∙◌, subst, ap₂, arith, length-drop}
use borrow.Rule.Slice.PartMut.{put_mid}
use Rattle.std.proofs.lemmas.List.{length-take-le, take_at, drop_at}
use Rattle.rules.specs.Examples.{Example}
use Rattle.rules.proofs.WrittenBytes.{copied_is, length_written}
use Rattle.candidates.specs.LaidProblem.{laid_problem}
use Rattle.candidates.specs.Problem.{View, view_of}
use Rattle.candidates.specs.Rows.{small_examples}
use Rattle.candidates.proofs.LaidRight.{laid_right, none_laid}
use Rattle.candidates.proofs.LaidViewed.{laid_long}
use Rattle.candidates.proofs.SmallExamples.{small_few, small_short}
use Rattle.search.specs.Begun.{with_problem, machine_begun, begun_in}
use Rattle.search.specs.ByExamples.{held_begun}
use Rattle.search.specs.HeldPromises.{Ready}
use Rattle.search.specs.Memory.{memory_size, loaded, stored, problem_in}
use Rattle.search.specs.MemoryPromises.{Begins}
use Rattle.search.specs.Steps.{Held}
use Rattle.search.proofs.StatesKeepLength.{Shaped, begun_shaped, loaded_shaped}
use Rattle.search.proofs.StoredAndLoaded.{stored_loaded, stored_problem, stored_long}

-- the numbers of the problem that was in memory
behind_long : (m : List ℕ) → length m ≡ memory_size → length (take 109866 (drop 92 m)) ≡ 109866
behind_long m h = let l = length-drop 92 m in length-take-le 109866 (drop 92 m) (omega arith)

problem_long : (es : List Example) (m : List ℕ) → small_examples es ≡ true → length m ≡ memory_size → length (laid_problem es [] (take 109866 (drop 92 m))) ≡ 109866
problem_long es m s h = laid_long es (small_few es s) (small_short es s) (take 109866 (drop 92 m)) (behind_long m h) []

pub problem_laid : (es : List Example) (m laid : List ℕ) → small_examples es ≡ true → length m ≡ memory_size →
    laid ≡ laid_problem es [] (take 109866 (drop 92 m)) → put_mid 92 109866 m laid ≡ with_problem es m
problem_laid es m laid s h e =
    let long = problem_long es m s h in
    ap (λ n. put_mid 92 n m laid) (let k : 109866 ≡ 92 + length (laid_problem es [] (take 109866 (drop 92 m))) - 92 = omega arith in k)
    ∙ copied_is m laid (laid_problem es [] (take 109866 (drop 92 m))) 92 e

pub machine_begins : (es : List Example) (m with_it after : List ℕ) (x y : Held) (v : View) → with_it ≡ with_problem es m → x ≡ loaded with_it → v ≡ problem_in with_it → y ≡ held_begun v x.frames →
    after ≡ stored y with_it → after ≡ begun_in es m
unfolding begun_in
machine_begins es m with_it after x y v w l p b s =
    s ∙ ap (λ z. stored z with_it) (b ∙ ap₂ (λ u (z : Held). held_begun u z.frames) p l) ∙ ap machine_begun w

module _ (es : List Example) (m : List ℕ) (s : small_examples es ≡ true) (h : length m ≡ memory_size) where
  with_long : length (with_problem es m) ≡ length m
  with_long = let long = problem_long es m s h in length_written m 92 (laid_problem es [] (take 109866 (drop 92 m))) (omega arith)

  -- the problem that was laid down is read back
  with_view : problem_in (with_problem es m) ≡ view_of (laid_problem es [] (take 109866 (drop 92 m)))
  with_view =
      let long = problem_long es m s h in
      let bs : List ℕ = laid_problem es [] (take 109866 (drop 92 m)) in
      ap (λ l. view_of (take 109866 l)) (drop_at (take 92 m) (bs ++ drop (92 + length bs) m) 92 (length-take-le 92 m (omega arith)))
      ∙ ap view_of (take_at bs (drop (92 + length bs) m) 109866 long)

  begun_is_shaped : Shaped (held_begun (problem_in (with_problem es m)) (loaded (with_problem es m)).frames)
  begun_is_shaped =
      let w = with_long in
      let l = loaded_shaped (with_problem es m) (omega arith) in
      begun_shaped (problem_in (with_problem es m)) (loaded (with_problem es m)).frames l.small.eight l.nine

ready_here : (es : List Example) (m : List ℕ) → small_examples es ≡ true → length m ≡ memory_size → Ready es [] (view_of (laid_problem es [] (take 109866 (drop 92 m))))
ready_here [] m s h = none_laid [] (take 109866 (drop 92 m)) (behind_long m h)
ready_here (e ∷ es) m s h = laid_right e es [] (take 109866 (drop 92 m)) s (omega arith) (behind_long m h)

-- so a search for the examples begins there
pub begins_there : (es : List Example) (m : List ℕ) → small_examples es ≡ true → length m ≡ memory_size → Begins es [] (begun_in es m)
unfolding begun_in
begins_there es m s h =
    let w = with_long es m s h in
    let shaped = begun_is_shaped es m s h in
    let x : Held = held_begun (problem_in (with_problem es m)) (loaded (with_problem es m)).frames in
    let same = stored_problem x (with_problem es m) shaped in
    let l = loaded_shaped (with_problem es m) (omega arith) in
    record {
      few = s;
      long = stored_long x (with_problem es m) shaped (omega arith) ∙ w ∙ h;
      ready = subst (Ready es []) (sym (same ∙ with_view es m s h)) (ready_here es m s h);
      frames = (loaded (with_problem es m)).frames;
      eight = l.small.eight;
      begun = stored_loaded x (with_problem es m) shaped ∙ ap (λ v. held_begun v (loaded (with_problem es m)).frames) (sym same);
    }
