use Rattle.std.proofs.Common.{◌≡◌, rules, tests}
use Rattle.std.proofs.lemmas.Iterator.{YieldsList-from_slice}
use Rattle.std.proofs.lemmas.Iterator.Search.{any_from_yields_List}
use Rattle.rules.specs.declared.kind.Kind.TheVariants.{Anything}
use Rattle.rules.specs.Places.{of_kind}
use Rattle.rules.specs.Values.{kind_number}
use Rattle.candidates.proofs.KindsCollected.{some_byte, zero_is}
use Rattle.candidates.proofs.kinds.stands_in.Goals as goal

pub returns-else-eq : goal.returns-else-eq
returns-else-eq c =
    let other : c.args.kind ≡ Anything → ⊥ = λ e. search rules in
    some_byte c.args.text.now (kind_number c.args.kind) c.any.result (λ z. other (zero_is c.args.kind z))
    (any_from_yields_List (λ b. of_kind (kind_number c.args.kind) b) _ _ c.any.result c.any.ensures.ran (YieldsList-from_slice c.args.text.now cc)
    (λ x b q k. search (rules, tests)))
