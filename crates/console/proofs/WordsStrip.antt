-- What `strip_prefix` gives is what is left after the word.
use Rattle.std.proofs.Common.{◌≡◌, ℕ, List, [], ◌∷◌, ◌++◌, Some, None, Option, refl, ap, ◌∙◌, arith, Bor, MatchOption}
use Rattle.console.specs.Reading.{strip}
use Rattle.console.proofs.BytesBack.{strip_back}

-- what is left stands behind the word
pub strip_splits : (w t rest : List ℕ) → strip w t ≡ Some rest → t ≡ w ++ rest
strip_splits [] t rest e = grind arith
strip_splits (c ∷ w) [] rest e = grind arith
strip_splits (c ∷ w) (d ∷ t) rest e = let ih = strip_splits w t rest in grind arith

pub strip_told : (w t : List ℕ) (r : Option (Bor (List ℕ))) → MatchOption r ((rest : List ℕ) → t ≡ w ++ rest → ⊥) (λ x. t ≡ w ++ x.now) → MatchOption r (strip w t ≡ None) (λ x. strip w t ≡ Some x.now)
strip_told w t None h = none (strip w t) refl
  where
    none : (o : Option (List ℕ)) → strip w t ≡ o → o ≡ None
    none None e = refl
    none (Some rest) e = absurd (h rest (strip_splits w t rest e))
strip_told w t (Some x) h = ap (strip w) h ∙ strip_back w x.now
