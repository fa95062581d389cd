-- What is promised of rules as text, over all rules there are. Each is a statement; a function of src/promises.rt has it as its contract. Assumes nothing.
use Rattle.std.specs.Prelude.{◌≡◌, ℕ, ◌≤◌, true, List, [], length}
use Rattle.rules.specs.Rules.{Rule, a_rule}
use Rattle.console.specs.declared.expected.Expected.{Expected}
use Rattle.console.specs.Text.{rule_text}
use Rattle.console.specs.Reading.{read, failed, read_rule}

-- of what is printed of a rule the rule is read, and nothing is left
abbrev pub ReadsBack : Type 0
ReadsBack = (r : Rule) → a_rule r ≡ true → read_rule (rule_text r) ≡ read r []

-- and what is read of any text is a rule there is
abbrev pub ReadsRules : Type 0
ReadsRules = (t : List ℕ) (r : Rule) (rest : List ℕ) → read_rule t ≡ read r rest → a_rule r ≡ true

-- where a text is no rule is in it, or at its end
abbrev pub FailsWithin : Type 0
FailsWithin = (t : List ℕ) (left : ℕ) (e : Expected) → read_rule t ≡ failed left e → left ≤ length t
