-- What a function of src/ that reads says: what the definitions read, or where and why they failed. Assumes nothing: these are definitions.
use Rattle.std.specs.Prelude.{◌≡◌, ℕ, ◌-◌, ◌≤◌, List, [], length, Result, MatchResult}
use Rattle.std.specs.Borrow.{Bor}
use Rattle.console.specs.declared.expected.Expected.{Expected}
use Rattle.console.specs.declared.failed.Failed.{Failed}
use Rattle.console.specs.declared.failed.Stopped.{Stopped}
use Rattle.console.specs.declared.failed.Stopped.TheVariants.{Failed as At, Memory}
use Rattle.console.specs.declared.not_a_rule.NotARule.{NotARule}
use Rattle.console.specs.declared.not_a_rule.NotARule.TheVariants.{At as Byte, Memory as NoMemory}
use Rattle.console.specs.Reading.{Read, read, failed, read_rule}

-- r says what x is: a value of src/, which is taken as the definitions have it, and what is left of the text; or the failure
abbrev pub Tells : {X A : Type 0} → (X → A) → Read A → Result (X × Bor (List ℕ)) Failed → Type 0
Tells the x r = MatchResult r (λ p. x ≡ read (the p.0) p.1.now) (λ f. x ≡ failed f.left f.expected)

-- it stopped since x failed so, or for want of memory
abbrev pub Stops : {A : Type 0} → Read A → Stopped → Type 0
Stops x (At f) = x ≡ failed f.left f.expected
Stops x Memory = Unit {0}

-- the same of a function that may find no memory
abbrev pub TellsMade : {X A : Type 0} → (X → A) → Read A → Result (X × Bor (List ℕ)) Stopped → Type 0
TellsMade the x r = MatchResult r (λ p. x ≡ read (the p.0) p.1.now) (Stops x)

-- and of one that reads to the end
abbrev pub TellsAll : {X A : Type 0} → (X → A) → Read A → Result X Stopped → Type 0
TellsAll the x r = MatchResult r (λ v. x ≡ read (the v) []) (Stops x)

-- the text fails at this byte, where this was expected
pub record FailsAt (t : List ℕ) (byte : ℕ) (e : Expected) : Type 0 where
  pub within : byte ≤ length t
  pub fails : read_rule t ≡ failed (length t - byte) e

-- why a text is refused: it fails somewhere, or there is no memory
abbrev pub Refuses : List ℕ → NotARule → Type 0
Refuses t (Byte byte e) = FailsAt t byte e
Refuses t NoMemory = Unit {0}
