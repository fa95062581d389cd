-- What is told of bytes that spell no rule, worked out.
use Rattle.std.proofs.Common.{refl}
use Rattle.rules.specs.Reading.{read_parts}
use Rattle.rules.specs.Refusals.{WorkedRefusals}

pub refusals_told : WorkedRefusals
unfolding read_parts
refusals_told = (refl, refl, refl, refl, refl, refl, refl, refl, refl, refl, refl, refl, refl, refl, refl, refl)
