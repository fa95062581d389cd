use Rattle.search.proofs.promises.the_search_is_never_wrong.Goals as goal
use Rattle.search.proofs.SearchRight.{never_wrong}

pub returns : goal.returns
returns c = never_wrong
