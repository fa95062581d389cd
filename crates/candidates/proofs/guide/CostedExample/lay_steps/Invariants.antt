-- First literals are laid down, then cuts lower them.
use Rattle.std.proofs.Common.{◌≡◌, ℕ, ◌+◌, ◌<◌, get_or}
use Rattle.candidates.specs.Guide.{literal_weight}
use Rattle.candidates.proofs.StepsLaid.{CutsSoFar}
use Rattle.candidates.proofs.guide.CostedExample.lay_steps.Given as goal

abbrev pub invariant-loop-d : goal.invariant-loop-d
invariant-loop-d l = (i : ℕ) → i < l.d → get_or l.room i 0 ≡ literal_weight (i + 1)

abbrev pub invariant-loop-x : goal.invariant-loop-x
invariant-loop-x l = CutsSoFar l.self.costs.now l.self.given.now l.self.wanted.now l.x l.room
