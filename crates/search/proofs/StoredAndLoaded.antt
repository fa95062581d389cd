-- What is stored is loaded again, and the problem behind it stays as it is.
use Rattle.std.proofs.Common.{◌≡◌, ℕ, zero, suc, ◌+◌, ◌*◌, ◌≤◌, List, ◌++◌, length, take, drop, sym, refl, ap, ◌∙◌, ap₂, arith}
use Rattle.std.proofs.lemmas.List.{drop_at}
use Rattle.rules.specs.Lists.{flat}
use Rattle.rules.proofs.WrittenBytes.{length_written}
use Rattle.candidates.specs.Problem.{view_of}
use Rattle.search.specs.Steps.{Held, held_steps}
use Rattle.search.specs.Memory.{status_number, status_from, frame_numbers, frames_from, loaded, held_numbers, stored, problem_in, advanced, advances}
use Rattle.search.specs.declared.status.Status.{Status}
use Rattle.search.specs.declared.status.Status.TheVariants.{Going, Found, NoRule}
use Rattle.search.proofs.FramesInMemory.{frames_back, frames_long, held_same}
use Rattle.search.proofs.StatesKeepLength.{Shaped, loaded_shaped, steps_shaped}
use Rattle.search.proofs.StepsInTurn.{steps_none, steps_add}

status_back : (s : Status) → status_from (status_number s) ≡ s
status_back Going = refl
status_back Found = refl
status_back NoRule = refl

pub numbers_long : (x : Held) → Shaped x → length (held_numbers x) ≡ 92
numbers_long x h = let l = frames_long x.frames h.nine in let e = h.small.eight in omega arith

pub stored_loaded : (x : Held) (m : List ℕ) → Shaped x → loaded (stored x m) ≡ x
unfolding loaded
stored_loaded x m h =
    let cheap = h.small.cheap in
    let near = h.small.near in
    let few = h.small.few in
    held_same (status_back x.status) (omega arith) (omega arith) (omega arith)
    (ap (λ n. frames_from n (flat frame_numbers x.frames ++ drop (0 + length (held_numbers x)) m)) (sym h.small.eight) ∙ frames_back x.frames _ h.nine)

pub stored_problem : (x : Held) (m : List ℕ) → Shaped x → problem_in (stored x m) ≡ problem_in m
stored_problem x m h =
    let long = numbers_long x h in
    ap (λ l. view_of (take 109866 l)) (drop_at (held_numbers x) (drop (0 + length (held_numbers x)) m) 92 long ∙ ap (λ n. drop n m) (let e : 0 + length (held_numbers x) ≡ 92 = omega arith in e))

pub stored_long : (x : Held) (m : List ℕ) → Shaped x → 92 ≤ length m → length (stored x m) ≡ length m
stored_long x m h room = let long = numbers_long x h in length_written m 0 (held_numbers x) (omega arith)

-- so many pieces are 64 times as many steps
pub record Pieces (m : List ℕ) (n : ℕ) : Type 0 where
  pub long : length (advances n m) ≡ length m
  pub problem : problem_in (advances n m) ≡ problem_in m
  pub machine : loaded (advances n m) ≡ held_steps (problem_in m) (64 * n) (loaded m)

next_piece : (m : List ℕ) → 92 ≤ length m → (n : ℕ) → Pieces m n → Pieces m (suc n)
unfolding advances advanced
next_piece m room n p =
    let before : List ℕ = advances n m in
    let more = p.long in
    let x : Held = held_steps (problem_in before) 64 (loaded before) in
    let shaped = steps_shaped (problem_in before) 64 (loaded before) (loaded_shaped before (omega arith)) in
    record {
      long = stored_long x before shaped (omega arith) ∙ p.long;
      problem = stored_problem x before shaped ∙ p.problem;
      machine = stored_loaded x before shaped ∙ ap₂ (λ w y. held_steps w 64 y) p.problem p.machine ∙ steps_add (problem_in m) 64 (64 * n) (loaded m)
          ∙ ap (λ k. held_steps (problem_in m) k (loaded m)) (let e : 64 + 64 * n ≡ 64 * suc n = omega arith in e);
    }

pub pieces : (m : List ℕ) → 92 ≤ length m → (n : ℕ) → Pieces m n
unfolding advances
pieces m room zero = record { long = refl; problem = refl; machine = steps_none (problem_in m) (loaded m) }
pieces m room (suc n) = next_piece m room n (pieces m room n)
