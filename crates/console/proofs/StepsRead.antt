-- The bytes of a literal and the parts of a rule are read by a loop: one turn of it.
use Rattle.std.proofs.Common.{◌≡◌, ℕ, zero, suc, ◌+◌, ◌-◌, ◌<◌, ◌≤◌, List, [], ◌∷◌, ◌++◌, length, codes, refl, ap, arith}
use Rattle.rules.specs.declared.part.Part as declared
use Rattle.rules.specs.Values.{the_part, the_parts}
use Rattle.rules.specs.Rules.{Rule}
use Rattle.console.specs.declared.expected.Expected.TheVariants.{Quote}
use Rattle.console.specs.Reading.{read, failed, next, strip, after, read_byte, read_bytes, read_part, read_end, read_parts}

-- what a literal's bytes are read as while there is room for more, and where there is none
pub bytes_turn : (n i : ℕ) (so_far t : List ℕ) → i < n → read_bytes (n - i) so_far t ≡ after (strip (codes "\"") t) (read so_far) (next (read_byte t) (λ c u. read_bytes (n - (i + 1)) (so_far ++ c ∷ []) u))
unfolding read_bytes
bytes_turn n i so_far t h = step (n - i) (n - (i + 1)) (omega arith)
  where
    step : (k j : ℕ) → k ≡ suc j → read_bytes k so_far t ≡ after (strip (codes "\"") t) (read so_far) (next (read_byte t) (λ c u. read_bytes j (so_far ++ c ∷ []) u))
    step zero j e = absurd (omega arith)
    step (suc k) j e = let same : k ≡ j = omega arith in ap (λ m. after (strip (codes "\"") t) (read so_far) (next (read_byte t) (λ c u. read_bytes m (so_far ++ c ∷ []) u))) same

pub bytes_end : (n i : ℕ) (so_far t : List ℕ) → n ≤ i → read_bytes (n - i) so_far t ≡ after (strip (codes "\"") t) (read so_far) (failed (length t) Quote)
unfolding read_bytes
bytes_end n i so_far t h = let none : n - i ≡ 0 = omega arith in ap (λ k. read_bytes k so_far t) none

pub ruleset bytes_steps = (bytes_turn, bytes_end)

-- and so a rule's parts
pub parts_turn : (n i : ℕ) (so_far : Rule) (t : List ℕ) → i < n → read_parts (n - i) so_far t ≡ after (strip (codes "; ") t) (λ u. next (read_part u) (λ p v. read_parts (n - (i + 1)) (so_far ++ p ∷ []) v)) (read_end so_far t)
unfolding read_parts
parts_turn n i so_far t h = step (n - i) (n - (i + 1)) (omega arith)
  where
    step : (k j : ℕ) → k ≡ suc j → read_parts k so_far t ≡ after (strip (codes "; ") t) (λ u. next (read_part u) (λ p v. read_parts j (so_far ++ p ∷ []) v)) (read_end so_far t)
    step zero j e = absurd (omega arith)
    step (suc k) j e = let same : k ≡ j = omega arith in ap (λ m. after (strip (codes "; ") t) (λ u. next (read_part u) (λ p v. read_parts m (so_far ++ p ∷ []) v)) (read_end so_far t)) same

pub parts_end : (n i : ℕ) (so_far : Rule) (t : List ℕ) → n ≤ i → read_parts (n - i) so_far t ≡ read_end so_far t
unfolding read_parts
parts_end n i so_far t h = let none : n - i ≡ 0 = omega arith in ap (λ k. read_parts k so_far t) none

pub parts_push : (ps : List declared.Part) (p : declared.Part) → the_parts (ps ++ p ∷ []) ≡ the_parts ps ++ the_part p ∷ []
parts_push [] p = refl
parts_push (x ∷ ps) p = ap (λ l. the_part x ∷ l) (parts_push ps p)

pub ruleset parts_steps = (parts_turn, parts_end, parts_push)
