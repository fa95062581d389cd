use Rattle.std.proofs.Common.{[], ◌∷◌, codes, sym, ap, ◌∙◌}
use Rattle.rules.specs.Values.{kind_number}
use Rattle.console.specs.Text.{quoted, kind_text}
use Rattle.console.proofs.Appends.{made_last, sign_whole}
use Rattle.console.proofs.print.push_kind.Goals as goal

pub returns : goal.returns
returns c =
    made_last c.push_quoted.result _ _ _ (codes "there's a ") (quoted (c.in-Sign.byte ∷ [])) _ c.in_ok-extend_from_slice.ensures.items
    (sign_whole c.args.ends c.in-Sign.byte ∙ ap (λ k. kind_text c.args.ends (kind_number k)) (sym c.in-Sign.is)) c.push_quoted.ensures
