use Rattle.search.proofs.FindsTheFirst.{says_no_wrong}
use Rattle.search.proofs.promises.nothing_wrong_is_said.Goals as goal

pub returns : goal.returns
returns c = says_no_wrong
