-- The loop's steps are those of the lemmas.
use Rattle.std.proofs.Common.{◌≡◌, ℕ, suc, ◌+◌, ◌-◌, ◌*◌, ◌<◌, ◌≤◌, length, take, drop, sym, ap, ◌∙◌, subst, arith}
use Rattle.candidates.specs.Guide.{steps, column_in, with_column}
use Rattle.candidates.proofs.ColumnsLaid.{LaidSoFar, laid_starts, laid_enough, laid_far, laid_goes_on, laid_ends}
use Rattle.candidates.proofs.guide.CostedExample.lay_guide.Goals as goal

pub loop-j-init : goal.loop-j-init
loop-j-init c =
    (omega arith, laid_starts c.args.self.costs.now c.args.self.given.now c.args.self.wanted.now c.put_column.new.out c.args.out.now (omega arith) c.put_column.ensures)

pub column-column-requires : goal.column-column-requires
column-column-requires c =
    let j : ℕ = c.loop-j.j - 1 in
    let room : 9 * length c.args.self.wanted.now + 9 ≤ length c.put_column.new.out = omega arith in
    let below : j < length c.args.self.wanted.now = omega arith in
    let top : c.loop-j.j ≡ suc j = omega arith in
    let so = subst (λ z. LaidSoFar c.args.self.costs.now c.args.self.given.now c.args.self.wanted.now c.put_column.new.out z c.loop-j.out) top c.loop-j.invariant.1 in
    record {
      nine_behind_each =
          laid_enough c.args.self.costs.now c.args.self.given.now c.args.self.wanted.now c.put_column.new.out room j c.loop-j.out below so ∙ ap (λ l. 9 * length l) (sym c.wanted_from.ensures.wanted);
      behind_small = laid_far c.args.self.costs.now c.args.self.given.now c.args.self.wanted.now c.put_column.new.out room j c.loop-j.out below so;
    }

pub loop-j-preserved : goal.loop-j-preserved
loop-j-preserved c =
    let j : ℕ = c.loop-j.j - 1 in
    let room : 9 * length c.args.self.wanted.now + 9 ≤ length c.put_column.new.out = omega arith in
    let below : j < length c.args.self.wanted.now = omega arith in
    let top : c.loop-j.j ≡ suc j = omega arith in
    let so = subst (λ z. LaidSoFar c.args.self.costs.now c.args.self.given.now c.args.self.wanted.now c.put_column.new.out z c.loop-j.out) top c.loop-j.invariant.1 in
    let column : c.column-column.result ≡ column_in (steps c.args.self.costs.now c.args.self.given.now (drop j c.args.self.wanted.now)) (take (9 * length c.args.self.wanted.now + 9 - (9 * j + 9)) (drop (9 * j + 9) c.loop-j.out)) =
    cc (c.column-column.ensures, c.wanted_from.ensures.costs, c.wanted_from.ensures.given, c.wanted_from.ensures.wanted) in (
      omega arith,
      laid_goes_on c.args.self.costs.now c.args.self.given.now c.args.self.wanted.now c.put_column.new.out room j c.loop-j.out below so c.put_column-in-loop-j.new.out
          (c.put_column-in-loop-j.ensures
          ∙ ap (λ l. with_column c.loop-j.out (9 * j) l) column),
    )

pub returns : goal.returns
returns c =
    let done : c.loop-j.j ≡ 0 = omega arith in
    laid_ends c.args.self.costs.now c.args.self.given.now c.args.self.wanted.now c.put_column.new.out c.args.out.now c.loop-j.out (omega arith) c.put_column.ensures
    (subst (λ z. LaidSoFar c.args.self.costs.now c.args.self.given.now c.args.self.wanted.now c.put_column.new.out z c.loop-j.out) done c.loop-j.invariant.1)
