-- Begun and advanced often enough, the search ends, whenever it has ended it has ended right, and then it stays as it is.
use Rattle.std.proofs.Common.{◌≡◌, ℕ, ◌⊎◌, List, refl, ap, inl, inr}
use Rattle.search.specs.Machine.{Status, going, found_it, there_is_none, begun, micro_at, micro, runs}
use Rattle.search.specs.Promises.{EndedRight, SearchRightOver, SearchRight, NeverWrongOver, NeverWrong, EndedStaysOver, EndedStays}
use Rattle.search.proofs.MachineRight.{begun_right, runs_right, right_first, right_none}
use Rattle.search.proofs.MachineEnds.{ends_from}

pub search_right_over : (S : Type 0) → SearchRightOver S
search_right_over S g fit most sound = ends_from g fit most sound (begun g) (begun_right g fit most sound)

pub never_wrong_over : (S : Type 0) → NeverWrongOver S
never_wrong_over S g fit most n sound = go (runs n g (begun g)).status refl
  where
    go : (st : Status) → (runs n g (begun g)).status ≡ st → ((runs n g (begun g)).status ≡ going) ⊎ EndedRight g (runs n g (begun g))
    go going e = inl e
    go found_it e = inr (inl (e, right_first g fit (runs n g (begun g)) (runs_right g fit most sound n (begun g) (begun_right g fit most sound)) e))
    go there_is_none e = inr (inr (e, right_none g fit (runs n g (begun g)) (runs_right g fit most sound n (begun g) (begun_right g fit most sound)) e))

pub ended_stays_over : (S : Type 0) → EndedStaysOver S
unfolding micro
ended_stays_over S g x (inl e) = ap (micro_at g x) e
ended_stays_over S g x (inr e) = ap (micro_at g x) e

pub search_right : SearchRight
search_right = search_right_over (List ℕ)

pub never_wrong : NeverWrong
never_wrong = never_wrong_over (List ℕ)

pub ended_stays : EndedStays
ended_stays = ended_stays_over (List ℕ)
