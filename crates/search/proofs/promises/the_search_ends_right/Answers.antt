use Rattle.search.proofs.promises.the_search_ends_right.Goals as goal
use Rattle.search.proofs.SearchRight.{search_right}

pub returns : goal.returns
returns c = search_right
