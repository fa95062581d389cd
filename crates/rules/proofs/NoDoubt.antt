-- Where no rule makes something else of a text at little more cost, all rules of that cost make the same of it.
use Rattle.std.proofs.Common.{arith}
use Rattle.std.proofs.lemmas.Bool.Decides.{nat_tests}
use Rattle.rules.specs.Rules.{makes}
use Rattle.rules.specs.Order.{None}
use Rattle.rules.specs.Promises.{NoDoubt}
use Rattle.rules.proofs.WhatIsMade.{same_made_eq}

pub no_doubt : NoDoubt
unfolding None
no_doubt es r q d t f n a h c =
    let e = n q a in
    same_made_eq (makes q t) (makes r t) (grind (arith, nat_tests))
