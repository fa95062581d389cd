-- What is spelled by the numbers that lie in memory is the spelling of the rule, where that is one that there is and each frame in use has chosen one of its candidates.
use Rattle.std.proofs.Common.{◌≡◌, ℕ, zero, suc, ◌+◌, ◌-◌, ◌/◌, ◌%◌, ◌<◌, true, ltb, leb, List, [], ◌∷◌, ◌++◌, length, get_or, take, drop, sym, refl, ap, ◌∙◌, ap₂, append_assoc, append-nil, arith, length-append}
use Rattle.std.proofs.lemmas.Bool.{and_parts, ltb-true, ltb-false}
use Rattle.rules.specs.Lists.{every, flat}
use Rattle.rules.specs.Rules.{Rule, Part, bytes, cut, a_part, a_rule}
use Rattle.rules.specs.Order.{part_spelled, rule_spelled}
use Rattle.rules.proofs.Tests.{pick_both, every_append}
use Rattle.candidates.specs.Problem.{View, wanted_in, literals_in, count_in}
use Rattle.candidates.specs.RowTable.{place_in}
use Rattle.candidates.specs.Spelled.{candidate_spelled}
use Rattle.candidates.proofs.CandidateSpelled.{spelled_literal, spelled_cut}
use Rattle.candidates.proofs.SpelledAsParts.{literal_are, cut_are}
use Rattle.search.specs.Steps.{Held, no_frame}
use Rattle.search.specs.ByExamples.{part_in, part_of_frame, parts_in, rule_in}
use Rattle.search.specs.Spelled.{frames_spelled, spelled_in}
use Rattle.search.specs.declared.frame.Frame.{Frame}

flat_push : (r : Rule) (p : Part) → flat part_spelled (r ++ p ∷ []) ≡ flat part_spelled r ++ part_spelled p
flat_push [] p = append-nil (part_spelled p)
flat_push (q ∷ r) p = ap (λ l. part_spelled q ++ l) (flat_push r p) ∙ sym (append_assoc (part_spelled q) (flat part_spelled r) (part_spelled p))

module _ (v : View) where
  candidate_right : (s : List ℕ) (i : ℕ) → i < count_in v s → a_part (part_in v s i) ≡ true → candidate_spelled v s i ≡ part_spelled (part_in v s i)
  candidate_right s i h =
      pick_both (ltb i (literals_in v s)) literal (cut (place_in v.table (k / v.rows)) (place_in v.table (k % v.rows))) (λ p. a_part p ≡ true → candidate_spelled v s i ≡ part_spelled p)
      (λ t a. spelled_literal v s i (ltb-true i (literals_in v s) t) ∙ literal_are _ a)
      (λ t a. let past = ltb-false i (literals_in v s) t in spelled_cut v s i past (omega arith) ∙ cut_are v (k / v.rows) (k % v.rows) a)
    where
      k : ℕ
      k = i - literals_in v s

      literal : Part
      literal = bytes (take (i + 1) (drop (get_or s 0 0) (wanted_in v 0)))

  -- the first d frames have chosen one of their candidates
  abbrev pub ChosenWithin : ℕ → List Frame → Type 0
  ChosenWithin d fs = (j : ℕ) → j < d → (get_or fs j no_frame).index - 1 < count_in v (get_or fs j no_frame).state

  parts_many : (d : ℕ) (fs : List Frame) → length (parts_in v d fs) ≡ d
  unfolding parts_in
  parts_many zero fs = refl
  parts_many (suc d) fs = let l = length-append (parts_in v d fs) (part_of_frame v (get_or fs d no_frame) ∷ []) in let ih = parts_many d fs in omega arith

  parts_right : (d : ℕ) (fs : List Frame) → ChosenWithin d fs → every a_part (parts_in v d fs) ≡ true → frames_spelled v d fs ≡ flat part_spelled (parts_in v d fs)
  unfolding parts_in frames_spelled
  parts_right zero fs within valid = refl
  parts_right (suc d) fs within valid =
      let f = get_or fs d no_frame in
      let p = part_of_frame v f in
      let both = and_parts (every a_part (parts_in v d fs)) (every a_part (p ∷ [])) (sym (every_append a_part (parts_in v d fs) (p ∷ [])) ∙ valid) in
      ap₂ (λ l m. l ++ m) (parts_right d fs (λ j h. within j (omega arith)) both.0) (candidate_right f.state (f.index - 1) (within d (omega arith)) (and_parts (a_part p) true both.1).0)
      ∙ sym (flat_push (parts_in v d fs) p)

  pub spelled_rule : (x : Held) → a_rule (rule_in v x) ≡ true → ChosenWithin x.depth x.frames → spelled_in v x ≡ rule_spelled (rule_in v x)
  spelled_rule x valid within =
      ap₂ (λ n l. n ∷ l) (sym (parts_many x.depth x.frames)) (parts_right x.depth x.frames within (and_parts (leb (length (rule_in v x)) 8) (every a_part (rule_in v x)) valid).1)
