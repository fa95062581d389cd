use Rattle.std.proofs.Common.{refl, rules, tests}
use Rattle.std.proofs.lemmas.Iterator.Consumers.{count_from_yields_List, YieldsList-from_filter, YieldsList-at}
use Rattle.rules.specs.Values.{kind_number}
use Rattle.rules.proofs.NthSpot.{fits, from_front, count_is}
use Rattle.rules.proofs.sides.Sides.count_in.Goals as goal

pub returns : goal.returns
returns c =
    count_is _ (kind_number c.args.self.left) (kind_number c.args.self.right) _
    (count_from_yields_List _ _ c.count.ensures.ran
    (YieldsList-from_filter _ (fits c.args.text.now (kind_number c.args.self.left) (kind_number c.args.self.right)) (YieldsList-at c.filter.ensures.source (from_front _ _ refl)) c.filter.ensures.closure (λ x r q k. search (rules, tests))))
