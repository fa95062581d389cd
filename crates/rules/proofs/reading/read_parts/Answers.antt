use Rattle.std.proofs.Common.{◌+◌, [], ◌∷◌, vec_items, sym, ap, ◌∙◌, subst, inl, inr, ⊎_elim}
use Rattle.std.proofs.lemmas.Result.{err_from_is_err_and}
use Rattle.rules.specs.Values.{the_part, the_parts}
use Rattle.rules.proofs.EachElement.{each_append}
use Rattle.rules.proofs.ReadsParts.{SoFar, none_read, all_read, part_wrong, part_read}
use Rattle.rules.proofs.reading.read_parts.Goals as goal

pub loop-init : goal.loop-init
loop-init c =
    subst (λ v. SoFar c.args.count 0 c.args.bytes.now (the_parts v) c.args.bytes.now) (sym c.new-parts.ensures.items) (none_read c.args.count c.args.bytes.now)

pub returns-in_err-part : goal.returns-in_err-part
returns-in_err-part c =
    let p = err_from_is_err_and c.from_residual.result c.from_residual.ensures.1 in
    rw (p.1, p.2) (⊎_elim (λ m. inl m) (λ e. inr (part_wrong _ _ c.args.bytes.now (the_parts (vec_items c.loop.parts)) c.loop.rest.now c.loop.invariant c.loop-test.true _ e)) c.in_err-part.ensures)

pub loop-preserved : goal.loop-preserved
loop-preserved c =
    let items = ap the_parts c.in_ok-push.ensures.items ∙ each_append the_part (vec_items c.loop.parts) (c.in_ok-part.part ∷ []) in
    subst (λ r. SoFar c.args.count (c.loop.counter + 1) c.args.bytes.now r c.in_ok-part.end.now) (sym items)
    (part_read _ _ c.args.bytes.now (the_parts (vec_items c.loop.parts)) c.loop.rest.now c.loop.invariant c.loop-test.true _ _ c.in_ok-part.ensures)

pub returns : goal.returns
returns c = all_read _ _ c.args.bytes.now (the_parts (vec_items c.loop.parts)) c.loop.rest.now c.loop.invariant c.loop-test.false
