-- Begun on examples and advanced, a search in memory ends right; what a loop over its pieces needs to know.
use Rattle.std.proofs.Common.{◌≡◌, ℕ, suc, ◌*◌, ◌<◌, true, ◌⊎◌, List, [], length, Ok, sym, ap, ◌∙◌, subst, ap₂, inl, inr, arith}
use Rattle.rules.specs.Examples.{Example}
use Rattle.rules.specs.Order.{rule_spelled}
use Rattle.candidates.specs.Rows.{small_examples}
use Rattle.search.specs.Begun.{begun_in, told_by, left_by}
use Rattle.search.specs.ByExamples.{held_begun, rule_in}
use Rattle.search.specs.Memory.{memory_size, problem_in, loaded, advanced, advances}
use Rattle.search.specs.MemoryPromises.{EndedIn, Begins, FindsTheFirst, SaysNoWrong, SpellsTheRule, CarriedOut}
use Rattle.search.specs.Refusals.{refusal_of}
use Rattle.search.specs.Spelled.{spelled_in}
use Rattle.search.specs.Steps.{Held, held_steps}
use Rattle.search.specs.declared.status.Status.{Status}
use Rattle.search.specs.declared.status.Status.TheVariants.{Going}
use Rattle.search.proofs.BegunInMemory.{begins_there}
use Rattle.search.proofs.FoundSpelled.{held_spelled}
use Rattle.search.proofs.PiecesEnd.{pieces_end, never_wrong_in}
use Rattle.search.proofs.PiecesFall.{left_in, pieces_fall}
use Rattle.search.proofs.RefusalsTold.{none_refused, none_small}
use Rattle.search.proofs.StatesKeepLength.{loaded_shaped, steps_shaped}
use Rattle.search.proofs.StoredAndLoaded.{pieces, stored_loaded}

pub finds_the_first : FindsTheFirst
finds_the_first es m s h = pieces_end es [] (begun_in es m) (begins_there es m s h)

pub says_no_wrong : SaysNoWrong
says_no_wrong es m n s h = never_wrong_in es [] (begun_in es m) n (begins_there es m s h)

pub spells_the_rule : SpellsTheRule
spells_the_rule es m n s h found =
    let b = begins_there es m s h in
    let start : List ℕ = begun_in es m in
    let l = b.long in
    let p = pieces start (omega arith) n in
    let x : Held = held_steps (problem_in start) (64 * n) (held_begun (problem_in start) b.frames) in
    let is : loaded (advances n start) ≡ x = p.machine ∙ ap (held_steps (problem_in start) (64 * n)) b.begun in
    let spelled = held_spelled es [] (problem_in start) b.frames (64 * n) b.few b.ready b.eight (ap (λ (z : Held). z.status) (sym is) ∙ found) in
    ap₂ spelled_in p.problem is ∙ spelled ∙ sym (ap₂ (λ v z. rule_spelled (rule_in v z)) p.problem is)

-- THE LOOP
-- a search for the examples has begun in the memory that was there before, and has come so many pieces far
pub record UnderWay (es : List Example) (before m : List ℕ) : Type 0 where
  pub few : small_examples es ≡ true
  pub long : length before ≡ memory_size
  pub pieces : ℕ
  pub memory : m ≡ advances pieces (begun_in es before)

-- where nothing was refused it has begun
pub under_way : (es : List Example) (before m : List ℕ) (x : Unit {0}) → length before ≡ memory_size → Ok x ≡ told_by (refusal_of es) →
    m ≡ left_by (refusal_of es) (begun_in es before) before → UnderWay es before m
unfolding advances
under_way es before m x long told is =
    let none = none_refused (refusal_of es) x told in
    record { few = none_small es none; long = long; pieces = 0; memory = is ∙ ap (λ o. left_by o (begun_in es before) before) none }

module _ (es : List Example) (before m after : List ℕ) (st : Status) (u : UnderWay es before m) (e : after ≡ advanced m) (told : st ≡ (held_steps (problem_in m) 64 (loaded m)).status) where
  abbrev begun : List ℕ
  begun = begun_in es before

  begins : Begins es [] begun
  begins = begins_there es before u.few u.long

  more : after ≡ advances (suc u.pieces) begun
  unfolding advances
  more = e ∙ ap advanced u.memory

  pub goes_on : UnderWay es before after
  goes_on = record { few = u.few; long = u.long; pieces = suc u.pieces; memory = more }

  -- what was told is what lies in memory
  status_is : (loaded after).status ≡ st
  unfolding advanced
  status_is =
      let b = begins in
      let l = b.long in
      let p = pieces begun (omega arith) u.pieces in
      let long = p.long in
      let same = ap length u.memory in
      let shaped = steps_shaped (problem_in m) 64 (loaded m) (loaded_shaped m (omega arith)) in
      ap (λ z. (loaded z).status) e ∙ ap (λ (x : Held). x.status) (stored_loaded (held_steps (problem_in m) 64 (loaded m)) m shaped) ∙ sym told

  pub falls : st ≡ Going → left_in es (problem_in after) (loaded after) < left_in es (problem_in m) (loaded m)
  falls g =
      let there = pieces_fall es [] begun u.pieces begins (ap (λ z. (loaded z).status) (sym more) ∙ status_is ∙ g) in
      subst (λ z. left_in es (problem_in z) (loaded z) < left_in es (problem_in m) (loaded m)) (sym more)
      (subst (λ z. left_in es (problem_in (advances (suc u.pieces) begun)) (loaded (advances (suc u.pieces) begun)) < left_in es (problem_in z) (loaded z)) (sym u.memory) there)

  pub carried_out : (st ≡ Going → ⊥) → CarriedOut es before after st
  carried_out done = record { pieces = suc u.pieces; memory = more; status = status_is; ended = ends (never_wrong_in es [] begun (suc u.pieces) begins) }
    where
      ends : ((loaded (advances (suc u.pieces) begun)).status ≡ Going) ⊎ EndedIn es (advances (suc u.pieces) begun) → EndedIn es after
      ends (inl g) = absurd (done (sym status_is ∙ ap (λ z. (loaded z).status) more ∙ g))
      ends (inr x) = subst (EndedIn es) (sym more) x
