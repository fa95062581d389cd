use Rattle.std.proofs.Common.{◌≡◌, ◌-◌, ◌<◌, get_or, take, refl, ◌∙◌, arith, length-take}
use Rattle.std.proofs.lemmas.List.{get_or-take}
use Rattle.candidates.specs.Viewed.{the_view}
use Rattle.search.specs.Steps.{no_frame}
use Rattle.search.specs.declared.frame.Frame.{Frame}
use Rattle.search.proofs.PartsInTurn.{parts_none, part_put_too}
use Rattle.search.proofs.machine.Machine.put_parts.Goals as goal

pub loop-frame-init : goal.loop-frame-init
loop-frame-init c = record { same_reference = refl; wrote = parts_none _ _ _; bound = omega arith }

pub loop-frame-preserved : goal.loop-frame-preserved
loop-frame-preserved c =
    let so = c.loop-frame.invariant in
    let put = c.put_candidate.ensures in
    let i = c.loop-frame.frame-index in
    let depth = c.args.self.now.depth in
    let frames = c.args.self.now.frames in
    let used : i < depth = omega (arith, length-take depth frames, c.loop-frame-test.true) in
    let few : i < 8 = let most = c.args.self.now.few in omega arith in
    let frame : Frame = get_or (take depth frames) i no_frame in
    let chosen : c.saturating_sub-chosen.result ≡ frame.index - 1 = omega (arith, c.saturating_sub-chosen.ensures) in
    record {
      same_reference = put.writes.same_reference ∙ so.same_reference;
      wrote = part_put_too (the_view c.args.problem) frames _ c.requires i few _ so.wrote so.bound _ frame _ (get_or-take depth frames i no_frame used) chosen put.writes.wrote put.bound;
      bound = let one = put.bound in let all = so.bound in omega arith;
    }
