-- Each piece that goes on leaves less to do; where it doesn't, the search has ended right.
use Rattle.std.proofs.Common.{◌∙◌}
use Rattle.candidates.specs.Values.{the_examples}
use Rattle.search.specs.Searched.{the_memory}
use Rattle.search.proofs.FindsTheFirst.{under_way, goes_on, falls, carried_out}
use Rattle.search.proofs.search.Search.find.Goals as goal

pub loop-ended-init : goal.loop-ended-init
loop-ended-init c = record {
  same_reference = c.begin.ensures.becomes.same_reference;
  under_way = under_way (the_examples c.args.examples.now) (the_memory c.args.self.now) _ _ c.args.self.now.size c.in_ok-begin.ensures.told c.in_ok-begin.ensures.becomes.memory;
}

pub loop-ended-smaller : goal.loop-ended-smaller
loop-ended-smaller c = falls _ _ _ _ _ c.loop-ended.invariant.under_way c.advance.ensures.becomes.memory c.advance.ensures.status c.in-Going.is

pub loop-ended-preserved : goal.loop-ended-preserved
loop-ended-preserved c = record {
  same_reference = c.advance.ensures.becomes.same_reference ∙ c.loop-ended.invariant.same_reference;
  under_way = goes_on _ _ _ _ _ c.loop-ended.invariant.under_way c.advance.ensures.becomes.memory c.advance.ensures.status;
}

pub returns-in_default-clause-ended : goal.returns-in_default-clause-ended
returns-in_default-clause-ended c = carried_out _ _ _ _ _ c.loop-ended.invariant.under_way c.advance.ensures.becomes.memory c.advance.ensures.status c.in_default.not-Going
