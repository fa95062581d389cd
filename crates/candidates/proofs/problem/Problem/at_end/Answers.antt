use Rattle.std.proofs.Common.{◌≡◌, eqb, length, get_or, refl, ◌∙◌, arith, rules, tests}
use Rattle.std.specs.List.{range_with_len, list_all}
use Rattle.std.proofs.lemmas.Iterator.{YieldsList-from_range}
use Rattle.std.proofs.lemmas.Iterator.Search.{all_from_yields_List}
use Rattle.candidates.specs.Problem.{wanted_in}
use Rattle.candidates.specs.Viewed.{the_view}
use Rattle.candidates.proofs.LookSays.{ends_all}
use Rattle.candidates.proofs.problem.Problem.at_end.Goals as goal

pub returns : goal.returns
returns c =
    let all : c.all.result ≡ list_all (λ e. eqb (get_or c.args.state.now e 0) (length (wanted_in (the_view c.args.self) e))) (range_with_len 0 c.args.self.examples) =
    all_from_yields_List (λ e. eqb (get_or c.args.state.now e 0) (length (wanted_in (the_view c.args.self) e))) _ _ _ c.all.ensures.ran
    (YieldsList-from_range 0 c.args.self.examples c.args.self.examples refl (omega arith)) (λ x b q k. search (rules, tests)) in
    all ∙ ends_all (the_view c.args.self) c.args.state.now c.args.self.examples
