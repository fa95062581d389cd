-- The test of `specs/` for UTF-8 tells what that of `std` tells.
use Rattle.std.proofs.Common.{◌≡◌, ℕ, true, false, ◌⊎◌, List, is_ok, Ok, Err, IsUtf8, Result, sym, ap, ◌∙◌, inl, inr, MatchResult}
use Rattle.std.specs.Str.{chars, encode_utf8_all, all_scalars}
use Rattle.std.proofs.lemmas.Bool.{and_from, and_parts, cases_Bool}
use Rattle.std.proofs.lemmas.Str.{scalars-chars, encodes-chars}
use Rattle.rules.specs.Lists.{same}
use Rattle.rules.proofs.Tests.{same_eq, same_itself}
use Rattle.console.specs.Text.{utf8}

utf8_true : (bs : List ℕ) → IsUtf8 bs → utf8 bs ≡ true
utf8_true bs u = and_from _ _ (scalars-chars bs u) (ap (λ l. same l bs) (encodes-chars bs u) ∙ same_itself bs)

true_utf8 : (bs : List ℕ) → utf8 bs ≡ true → IsUtf8 bs
true_utf8 bs e = let both = and_parts (all_scalars (chars bs)) (same (encode_utf8_all (chars bs)) bs) e in (chars bs, (both.0, same_eq (encode_utf8_all (chars bs)) bs both.1))

utf8_false : (bs : List ℕ) → (IsUtf8 bs → ⊥) → (utf8 bs ≡ true) ⊎ (utf8 bs ≡ false) → utf8 bs ≡ false
utf8_false bs u (inl e) = absurd (u (true_utf8 bs e))
utf8_false bs u (inr e) = e

pub utf8_told : {X Y : Type 0} (P : X → Type 0) (Q : Y → Type 0) (bs : List ℕ) (r : Result X Y) → MatchResult r (λ s. P s × IsUtf8 bs) (λ e. (IsUtf8 bs → ⊥) × Q e) → is_ok r ≡ utf8 bs
utf8_told P Q bs (Ok s) h = sym (utf8_true bs h.1)
utf8_told P Q bs (Err e) h = sym (utf8_false bs h.0 (cases_Bool (utf8 bs)))
