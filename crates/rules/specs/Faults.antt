-- What is wrong with what was taken for a rule: the first fault, from its beginning, or none. Assumes nothing: these are definitions.
use Rattle.std.specs.Prelude.{ℕ, ◌+◌, [], ◌∷◌, length, Some, None, Ok, Err, Option, Result, ◌==◌, nat_le}
use Rattle.rules.specs.Lists.{pick}
use Rattle.rules.specs.Places.{Place, from_first, from_last, nth_of}
use Rattle.rules.specs.Rules.{Part, bytes, cut, Rule}
use Rattle.rules.specs.declared.fault.Fault.{Fault}
use Rattle.rules.specs.declared.fault.Fault.TheVariants.{PartCount, LiteralLength, PlaceNumber, NthZero, NoKind}

-- the first of two faults
abbrev pub or_else : Option Fault → Option Fault → Option Fault
or_else None g = g
or_else (Some f) g = Some f

abbrev pub number_fault : ℕ → Option Fault
number_fault n = pick (nat_le n 64) None (Some (PlaceNumber n))

abbrev pub nth_fault : (l r n : ℕ) → Option Fault
nth_fault l r n = pick (l + r == 0) (Some NoKind) (pick (n == 0) (Some NthZero) (number_fault n))

abbrev pub place_fault : Place → Option Fault
place_fault (from_first n) = number_fault n
place_fault (from_last n) = number_fault n
place_fault (nth_of l r n back) = nth_fault l r n

abbrev pub literal_fault : ℕ → Option Fault
literal_fault n = pick (n == 0) (Some (LiteralLength n)) (pick (nat_le n 64) None (Some (LiteralLength n)))

abbrev pub part_fault : Part → Option Fault
part_fault (bytes b) = literal_fault (length b)
part_fault (cut p q) = or_else (place_fault p) (place_fault q)

abbrev pub parts_fault : Rule → Option Fault
parts_fault [] = None
parts_fault (p ∷ ps) = or_else (part_fault p) (parts_fault ps)

abbrev pub rule_fault : Rule → Option Fault
rule_fault r = pick (nat_le (length r) 8) (parts_fault r) (Some (PartCount (length r)))

-- what a check says: no more where there is no fault, else the fault
abbrev pub checked : Option Fault → Result Unit Fault
checked None = Ok tt
checked (Some f) = Err f
