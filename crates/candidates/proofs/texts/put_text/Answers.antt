use Rattle.std.proofs.Common.{◌≡◌, ◌+◌, length, get_or, set, refl, ap, ◌∙◌, arith}
use Rattle.std.proofs.Math.Seq.{paste}
use Rattle.std.proofs.lemmas.List.Edits.{paste_none, paste_more, paste_all}
use Rattle.candidates.proofs.texts.put_text.Goals as goal

pub loop-i-init : goal.loop-i-init
loop-i-init c = paste_none c.args.out.now c.args.at c.args.text.now

pub loop-i-preserved : goal.loop-i-preserved
loop-i-preserved c =
    ap (λ l. set l (c.args.at + c.loop-i.i) (get_or c.args.text.now c.loop-i.i 0)) c.loop-i.invariant
    ∙ paste_more c.args.out.now c.args.at c.args.text.now c.loop-i.i 0 (omega (arith, c.requires.room)) (omega arith)

pub returns : goal.returns
returns c =
    let all : c.loop-i.i ≡ length c.args.text.now = omega arith in
    c.loop-i.invariant ∙ ap (paste c.args.out.now c.args.at c.args.text.now) all ∙ paste_all c.args.out.now c.args.at c.args.text.now (length c.args.text.now) refl
