use Rattle.search.proofs.FindsTheFirst.{finds_the_first}
use Rattle.search.proofs.promises.the_first_rule_is_found.Goals as goal

pub returns : goal.returns
returns c = finds_the_first
