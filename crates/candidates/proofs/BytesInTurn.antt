-- Numbers are written as bytes one by one.
use Rattle.std.proofs.Common.{◌≡◌, ℕ, ◌+◌, ◌<◌, ◌≤◌, List, [], ◌∷◌, ◌++◌, length, get_or, take, sym, ap, ◌∙◌, arith, length-append}
use Rattle.std.proofs.lemmas.List.{take_all, length-take-le}
use Rattle.rules.specs.Lists.{each}
use Rattle.rules.specs.Writing.{Writing, wrote, HasRoom}
use Rattle.rules.proofs.EachElement.{each_length, each_past}
use Rattle.rules.proofs.WrittenBytes.{wrote_next}
use Rattle.candidates.specs.Spelled.{as_byte}

module _ (ns : List ℕ) where
  -- the first i numbers as bytes
  abbrev pub bytes_to : ℕ → List ℕ
  bytes_to i = each as_byte (take i ns)

  pub all_bytes : (i : ℕ) → length ns ≤ i → bytes_to i ≡ each as_byte ns
  all_bytes i h = ap (each as_byte) (take_all i ns h)

  -- behind w there is room for all, and the first, i of them, are written there
  module _ (w : Writing) (room : HasRoom w (each as_byte ns)) (i : ℕ) (h : i < length ns) (b : ℕ) where
    -- so there is room for those and one more
    more_room : HasRoom w (bytes_to i ++ b ∷ [])
    more_room =
        let all = each_length as_byte ns in
        let front = each_length as_byte (take i ns) in
        let long = length-take-le i ns (omega arith) in
        let sum = length-append (bytes_to i) (b ∷ []) in
        omega arith

    pub byte_written_too : (v u : Writing) (n : ℕ) → v ≡ wrote w (bytes_to i) → u ≡ wrote v (b ∷ []) → n ≡ get_or ns i n → b ≡ as_byte n → u ≡ wrote w (bytes_to (i + 1))
    byte_written_too v u n s t is e =
        wrote_next w v u (bytes_to i) (b ∷ []) more_room s t ∙ ap (λ c. wrote w (bytes_to i ++ c ∷ [])) e ∙ ap (wrote w) (sym (each_past as_byte ns i n h is))
