use Rattle.std.proofs.Common.{[], ◌∷◌, sym, ◌∙◌}
use Rattle.rules.specs.declared.kind.Kind.TheVariants.{Digits, Letters, Capitals, SmallLetters, Blanks}
use Rattle.console.proofs.RunsRead.{run_found, run_not_found}
use Rattle.console.proofs.read_place.read_run.Goals as goal

pub returns-in-Some : goal.returns-in-Some
returns-in-Some c = sym c.loop-kind.invariant ∙ run_found c.args.ends (Digits ∷ Letters ∷ Capitals ∷ SmallLetters ∷ Blanks ∷ []) c.loop-kind.kind-index c.args.text.now _ _ _ c.loop-kind-test.true c.run_words.ensures c.in-Some.ensures

pub loop-kind-preserved : goal.loop-kind-preserved
loop-kind-preserved c = sym (run_not_found c.args.ends (Digits ∷ Letters ∷ Capitals ∷ SmallLetters ∷ Blanks ∷ []) c.loop-kind.kind-index c.args.text.now _ _ c.loop-kind-test.true c.run_words.ensures c.in_default.ensures) ∙ c.loop-kind.invariant
