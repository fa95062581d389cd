use Rattle.std.proofs.Common.{◌≡◌, true, ◌++◌, vec_items, codes, ap, ◌∙◌, rules}
use Rattle.rules.specs.Values.{kind_number}
use Rattle.console.specs.Text.{kind_text}
use Rattle.console.proofs.Appends.{more, made_last, before_whole, both_whole}
use Rattle.console.proofs.print.push_sides.Goals as goal

pub returns-then-eq-2 : goal.returns-then-eq-2
returns-then-eq-2 c =
    let start = vec_items c.args.out.now in
    let some_left : kind_number c.args.sides.left ≡ 0 → ⊥ = search rules in
    let no_right : kind_number c.args.sides.right ≡ 0 = search rules in
    more start (vec_items c.extend_from_slice-2.new.self) (vec_items c.push_kind-2.new.out) (codes "before which ") (kind_text true (kind_number c.args.sides.left)) c.in_ok-extend_from_slice-2.ensures.items c.in_ok-push_kind.ensures
    ∙ ap (λ l. start ++ l) (before_whole (kind_number c.args.sides.left) (kind_number c.args.sides.right) some_left no_right)

pub returns : goal.returns
returns c =
    let some_left : kind_number c.args.sides.left ≡ 0 → ⊥ = search rules in
    let some_right : kind_number c.args.sides.right ≡ 0 → ⊥ = search rules in
    let start = vec_items c.args.out.now in
    let before = codes "before which " ++ kind_text true (kind_number c.args.sides.left) in
    let kind = vec_items c.push_kind-2.new.out in
    let also = vec_items c.extend_from_slice-3.new.self in
    made_last c.push_kind-3.result start also _ (before ++ codes ", and behind which ") _ _
    (more start kind also before (codes ", and behind which ")
    (more start (vec_items c.extend_from_slice-2.new.self) kind (codes "before which ") (kind_text true (kind_number c.args.sides.left)) c.in_ok-extend_from_slice-2.ensures.items c.in_ok-push_kind.ensures)
    c.in_ok-extend_from_slice-3.ensures.items)
    (both_whole (kind_number c.args.sides.left) (kind_number c.args.sides.right) some_left some_right)
    c.push_kind-3.ensures
