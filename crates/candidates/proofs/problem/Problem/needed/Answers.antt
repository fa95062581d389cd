use Rattle.std.proofs.Common.{◌≡◌, ◌<◌, max, get_or, sym, refl, subst, ◌∙◌, arith, rules, tests}
use Rattle.std.specs.List.{range_with_len, fold}
use Rattle.std.proofs.lemmas.Iterator.{YieldsList-from_range}
use Rattle.std.proofs.lemmas.Iterator.Consumers.{fold_from_yields_List}
use Rattle.candidates.specs.Problem.{guide_in}
use Rattle.candidates.specs.Viewed.{the_view}
use Rattle.candidates.proofs.LookSays.{greatest_all, greatest_small}
use Rattle.candidates.proofs.problem.Problem.needed.Goals as goal

pub returns : goal.returns
returns c =
    let most : c.fold.result ≡ fold (λ most e. max most (guide_in (the_view c.args.self) c.args.parts e (get_or c.args.state.now e 0))) 0 (range_with_len 0 c.args.self.examples) =
    fold_from_yields_List _ (λ most e. max most (guide_in (the_view c.args.self) c.args.parts e (get_or c.args.state.now e 0))) _ _ c.fold.ensures.ran
    (YieldsList-from_range 0 c.args.self.examples c.args.self.examples refl (omega arith)) (λ a x b q k. search (rules, tests)) in
    let value = most ∙ greatest_all (the_view c.args.self) c.args.state.now c.args.parts c.args.self.examples in
    record { value = value; bound = subst (λ n. n < 4294967296) (sym value) (greatest_small (the_view c.args.self) c.args.state.now c.args.parts c.args.self.examples) }
