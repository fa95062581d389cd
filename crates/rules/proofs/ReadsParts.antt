-- Reading one part after the other reads the parts of a rule.
use Rattle.std.proofs.Common.{◌≡◌, ℕ, suc, ◌+◌, ◌-◌, ◌<◌, ◌≤◌, List, [], ◌∷◌, ◌++◌, Ok, Err, sym, refl, ap, ◌∙◌, append_assoc, append-nil, arith}
use Rattle.rules.specs.Reading.{Read, and_then, read_part, read_parts}
use Rattle.rules.specs.Rules.{Part, Rule}
use Rattle.rules.specs.declared.fault.Fault.{Fault}

-- parts that were read, and those that are still to be
abbrev pub joined : Rule → Read Rule → Read Rule
joined r s = and_then s (λ ps end. Ok (r ++ ps, end))

-- after i of n parts, r are read, and `rest` is left of the bytes
abbrev pub SoFar : (n i : ℕ) (bs : List ℕ) (r : Rule) (rest : List ℕ) → Type 0
SoFar n i bs r rest = joined r (read_parts (n - i) rest) ≡ read_parts n bs

pub none_read : (n : ℕ) (bs : List ℕ) → SoFar n 0 bs [] bs
none_read n bs = ap (λ k. joined [] (read_parts k bs)) (let k : n - 0 ≡ n = omega arith in k) ∙ with_none (read_parts n bs)
  where
    with_none : (s : Read Rule) → joined [] s ≡ s
    with_none (Ok x) = refl
    with_none (Err f) = refl

module _ (n i : ℕ) (bs : List ℕ) (r : Rule) (rest : List ℕ) (h : SoFar n i bs r rest) where
  pub all_read : n ≤ i → read_parts n bs ≡ Ok (r, rest)
  unfolding read_parts
  all_read e = sym h ∙ ap (λ k. joined r (read_parts k rest)) (let k : n - i ≡ 0 = omega arith in k) ∙ ap (λ l. Ok (l, rest)) (append-nil r)

  module _ (l : i < n) where
    next : joined r (read_parts (suc (n - (i + 1))) rest) ≡ read_parts n bs
    next = ap (λ k. joined r (read_parts k rest)) (let k : suc (n - (i + 1)) ≡ n - i = omega arith in k) ∙ h

    pub part_wrong : (f : Fault) → read_part rest ≡ Err f → read_parts n bs ≡ Err f
    unfolding read_parts
    part_wrong f e = sym next ∙ ap (λ s. joined r (and_then s (λ p rest₁. and_then (read_parts (n - (i + 1)) rest₁) (λ ps end. Ok (p ∷ ps, end))))) e

    pub part_read : (p : Part) (end : List ℕ) → read_part rest ≡ Ok (p, end) → SoFar n (i + 1) bs (r ++ p ∷ []) end
    unfolding read_parts
    part_read p end e =
        sym (moved (read_parts (n - (i + 1)) end))
        ∙ sym (ap (λ s. joined r (and_then s (λ q rest₁. and_then (read_parts (n - (i + 1)) rest₁) (λ ps e₁. Ok (q ∷ ps, e₁))))) e) ∙ next
      where
        moved : (s : Read Rule) → joined r (and_then s (λ ps e₁. Ok (p ∷ ps, e₁))) ≡ joined (r ++ p ∷ []) s
        moved (Ok x) = ap (λ q. Ok (q, x.1)) (sym (append_assoc r (p ∷ []) x.0))
        moved (Err f) = refl
