-- One example more never makes the first rule cheaper, and a first rule that does it already stays the first.
use Rattle.std.proofs.Common.{◌≡◌, true, ◌&&◌, List, [], ◌∷◌, ◌++◌, arith}
use Rattle.rules.specs.Rules.{Rule, makes, is_made}
use Rattle.rules.specs.Order.{First}
use Rattle.rules.specs.Examples.{Example, does}
use Rattle.rules.specs.Promises.{MoreExamples}
use Rattle.rules.proofs.Tests.{every_append}
use Rattle.rules.proofs.RuleOrder.{before_total, first_cost}

pub does_append : (es fs : List Example) (r : Rule) → does (es ++ fs) r ≡ (does es r && does fs r)
does_append es fs r = every_append (λ e. is_made (makes r e.given) e.wanted) es fs

pub more_examples_lem : MoreExamples
unfolding First
more_examples_lem es e r q f g =
    let a = does_append es (e ∷ []) q in
    let b = does_append es (e ∷ []) r in
    let n = g.1 in
    let d : does es q ≡ true = grind arith in
    (first_cost (does es) r q f g.0 d, λ h. before_total q r (f.2 q g.0 d) (g.2 r f.0 (let m = f.1 in grind arith)))
