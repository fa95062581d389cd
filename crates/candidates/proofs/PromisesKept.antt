-- The promises as they are stated, from the proofs that show them.
use Rattle.std.proofs.Common.{◌∷◌}
use Rattle.candidates.specs.Promises.{PlacesFew, RowsGood, RowsApart, DoesLeads, CandidatesValid, CandidatesOrdered, Exchange, ProblemLaid, GuideLower}
use Rattle.candidates.proofs.CandidatesOrdered as in_order
use Rattle.candidates.proofs.CandidatesValid as valid
use Rattle.candidates.proofs.Exchange as exchange
use Rattle.candidates.proofs.LaidRight as right
use Rattle.candidates.proofs.LeadsDoes as leads
use Rattle.candidates.proofs.PlacesFew as few
use Rattle.candidates.proofs.RowsGood as good
use Rattle.candidates.proofs.ViewAgrees as agrees

pub places_few : PlacesFew
places_few = few.places_few

pub rows_good : RowsGood
rows_good e es asked ns s a l = good.rows_good e es asked ns s a l (few.places_few e.given (good.first_short e es s))

pub rows_apart : RowsApart
rows_apart e es asked ns s l = good.rows_apart e es asked ns l (few.places_few e.given (good.first_short e es s))

pub does_leads : DoesLeads
does_leads = leads.does_leads

pub candidates_valid : CandidatesValid
candidates_valid = valid.candidates_valid

pub candidates_ordered : CandidatesOrdered
candidates_ordered = in_order.candidates_ordered

pub stands_for : Exchange
stands_for = exchange.complete

pub problem_laid : ProblemLaid
problem_laid = right.laid_right

pub guide_lower : GuideLower
guide_lower e es asked v laid k s q = agrees.lower_agrees (e ∷ es) asked v laid s k q
