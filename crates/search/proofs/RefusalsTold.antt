-- What is told of examples that are refused.
use Rattle.std.proofs.Common.{◌≡◌, ℕ, Bool, true, false, ltb, List, length, Some, None, Ok, Option, refl}
use Rattle.rules.specs.Lists.{pick}
use Rattle.rules.specs.Examples.{Example}
use Rattle.candidates.specs.Rows.{small_examples}
use Rattle.search.specs.Begun.{told_by, left_by}
use Rattle.search.specs.Refusals.{refusal_of}
use Rattle.search.specs.declared.refusal.Refusal.{Refusal}
use Rattle.search.specs.declared.refusal.Refusal.TheVariants.{TooMany, TooLong}

-- where all is well nothing was refused
pub none_refused : (o : Option Refusal) (x : Unit {0}) → Ok x ≡ told_by o → o ≡ None
none_refused None x e = refl
none_refused (Some r) x e = cc

-- so the memory is that of a search that begins
pub begun_left : (o : Option Refusal) (x : Unit {0}) (begun m after : List ℕ) → Ok x ≡ told_by o → after ≡ begun → after ≡ left_by o begun m
begun_left None x begun m after e is = is
begun_left (Some r) x begun m after e is = cc

-- and the examples are small
pub none_small : (es : List Example) → refusal_of es ≡ None → small_examples es ≡ true
none_small es e = go (small_examples es) (ltb 8 (length es)) refl e
  where
    go : (s m : Bool) → small_examples es ≡ s → pick s None (pick m (Some TooMany) (Some TooLong)) ≡ None → small_examples es ≡ true
    go true m is h = is
    go false true is h = cc
    go false false is h = cc
