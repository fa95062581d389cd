-- A search that begins in memory ends after some pieces, with the first rule or with none where there is none.
use Rattle.std.proofs.Common.{◌≡◌, ℕ, ◌+◌, ◌-◌, ◌*◌, ◌≤◌, ◌⊎◌, List, sym, ap, ◌∙◌, subst, inl, inr, arith}
use Rattle.rules.specs.Examples.{Example}
use Rattle.candidates.specs.Problem.{View}
use Rattle.search.specs.Steps.{Held, held_step, held_steps}
use Rattle.search.specs.ByExamples.{held_begun}
use Rattle.search.specs.HeldPromises.{EndedFor}
use Rattle.search.specs.Memory.{problem_in, loaded, advances}
use Rattle.search.specs.MemoryPromises.{PiecesEnd, NeverWrongIn}
use Rattle.search.specs.declared.status.Status.TheVariants.{Going}
use Rattle.search.proofs.HeldRight.{held_ends, held_never_wrong, held_stays}
use Rattle.search.proofs.StepsInTurn.{steps_add, steps_stay}
use Rattle.search.proofs.StoredAndLoaded.{Pieces, pieces}

-- an ended machine stays as it is
ended_stays : (es : List Example) (v : View) (x : Held) → EndedFor es v x → held_step v x ≡ x
ended_stays es v x (inl e) = held_stays v x (inl e.0)
ended_stays es v x (inr e) = held_stays v x (inr e.0)

later : (es : List Example) (v : View) (x : Held) (n more : ℕ) → n ≤ more → EndedFor es v (held_steps v n x) → held_steps v more x ≡ held_steps v n x
later es v x n more h e =
    ap (λ k. held_steps v k x) (let k : more ≡ (more - n) + n = omega arith in k) ∙ sym (steps_add v (more - n) n x) ∙ steps_stay v (more - n) (held_steps v n x) (ended_stays es v (held_steps v n x) e)

-- what holds of the machine and the problem holds of the memory
in_memory : (P : View → Held → Type 0) (m : List ℕ) (n : ℕ) (x : Held) → Pieces m n → held_steps (problem_in m) (64 * n) (loaded m) ≡ x → P (problem_in m) x → P (problem_in (advances n m)) (loaded (advances n m))
in_memory P m n x p e h = subst (λ v. P v (loaded (advances n m))) (sym p.problem) (subst (P (problem_in m)) (sym (p.machine ∙ e)) h)

pub pieces_end : PiecesEnd
pieces_end es asked m b =
    let room = b.long in
    let ends = held_ends es asked (problem_in m) b.frames b.few b.ready b.eight in
    let n : ℕ = ends.0 in
    let x : Held = held_steps (problem_in m) n (held_begun (problem_in m) b.frames) in (
      n,
      in_memory (EndedFor es) m n x (pieces m (omega arith) n)
          (ap (held_steps (problem_in m) (64 * n)) b.begun ∙ later es (problem_in m) (held_begun (problem_in m) b.frames) n (64 * n) (omega arith) ends.1) ends.1,
    )

pub never_wrong_in : NeverWrongIn
never_wrong_in es asked m n b =
    let room = b.long in
    in_memory (λ v (x : Held). (x.status ≡ Going) ⊎ EndedFor es v x) m n (held_steps (problem_in m) (64 * n) (held_begun (problem_in m) b.frames)) (pieces m (omega arith) n)
    (ap (held_steps (problem_in m) (64 * n)) b.begun) (held_never_wrong es asked (problem_in m) b.frames (64 * n) b.few b.ready b.eight)
