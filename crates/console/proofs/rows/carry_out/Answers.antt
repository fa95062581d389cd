use Rattle.std.proofs.Common.{◌≡◌, ℕ, length, ◌==◌, ap, ◌∙◌, ◌∷◌, sym, of_calls, rules, arith, length-append}
use Rattle.std.proofs.lemmas.List.Sorted.{answers_always}
use Rattle.std.proofs.lemmas.Slice.Eq.{strip_suffix_is}
use Rattle.std.proofs.lemmas.Bool.Decides.{Decides-eqb}
use Rattle.std.specs.Slice.Iter.{split_inclusive_rest}
use Rattle.rules.specs.Held.{the_rule}
use Rattle.console.specs.Rows.{lines}
use Rattle.console.proofs.LinesGoneThrough.{first_line, going_on, gone_through}
use Rattle.console.proofs.rows.carry_out.Goals as goal

pub loop-line-preserved : goal.loop-line-preserved
loop-line-preserved c =
    let rest = split_inclusive_rest c.loop-line.line-iterator in
    let then = split_inclusive_rest c.next.new.self in
    let step = c.in-Some.ensures.steps in
    let ends = step.1.2 (λ (b : ℕ). b == 10) (answers_always _ _ _ (λ f a r g e. search (rules, of_calls))) in
    let stripped = strip_suffix_is Decides-eqb _ _ c.strip_suffix.result c.strip_suffix.ensures.cases in
    let split : lines rest ≡ c.unwrap_or-line.result.now ∷ lines then =
    first_line rest then c.in-Some.line c.strip_suffix.result step.1.0 step.2 step.0 step.1.1 ends.1 stripped ∙ ap (λ x. x.now ∷ lines then) (sym c.unwrap_or-line.ensures) in
    let sum = ap length step.0 ∙ length-append c.in-Some.line.now then in
    record {
      can = search rules;
      finite = search rules;
      going = going_on (the_rule c.args.rule.now) c.args.file.now rest c.unwrap_or-line.result.now then c.loop-line.table c.add_line.new.self c.loop-line.invariant.going split (omega arith) c.in_ok-add_line.ensures;
    }

pub returns : goal.returns
returns c = gone_through (the_rule c.args.rule.now) c.args.file.now (split_inclusive_rest c.loop-line.line-iterator) c.loop-line.table c.loop-line.invariant.going (omega (arith, c.in-None.ensures.steps))
