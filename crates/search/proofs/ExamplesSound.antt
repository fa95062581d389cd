-- What the search by examples goes by is sound, if the memory holds the examples; and the rules that its automaton accepts are those that do them.
use Rattle.std.proofs.Common.{◌≡◌, ℕ, ◌+◌, ◌*◌, ◌≤◌, true, ◌&&◌, List, [], ◌∷◌, length, sym, refl, ap, ◌∙◌}
use Rattle.rules.specs.Rules.{Part, Rule, a_part}
use Rattle.rules.specs.Examples.{Example, does}
use Rattle.candidates.specs.Moves.{goes, moved, leads, fit, start}
use Rattle.candidates.specs.Rows.{small_examples}
use Rattle.candidates.specs.Problem.{View}
use Rattle.candidates.specs.Laid.{Laid, rows_of}
use Rattle.candidates.proofs.LeadsDoes.{does_leads}
use Rattle.candidates.proofs.StaysFit.{stays_fit}
use Rattle.candidates.proofs.CandidatesFew.{candidates_few}
use Rattle.candidates.proofs.CandidatesValid.{candidates_valid}
use Rattle.candidates.proofs.CandidatesOrdered.{candidates_ordered}
use Rattle.candidates.proofs.CandidatesSound.{fit_start, stood_for}
use Rattle.candidates.proofs.ViewAgrees.{lower_agrees}
use Rattle.search.specs.Automaton.{Sound, StandsFor, accepted}
use Rattle.search.specs.ByExamples.{automaton_of, guided_by}

-- the automaton reads a rule as the definitions over examples do
pub accepted_leads : (es : List Example) (s : List ℕ) (q : Rule) → accepted (automaton_of es) s q ≡ leads es s q
unfolding accepted leads
accepted_leads es s [] = refl
accepted_leads es s (p ∷ q) = ap (λ b. goes es p s && b) (accepted_leads es (moved es p s) q)

pub accepted_does : (es : List Example) (q : Rule) → length es ≤ 8 → accepted (automaton_of es) start q ≡ does es q
accepted_does es q h = accepted_leads es start q ∙ sym (does_leads es q h)

module _ (x : Example) (rest : List Example) (asked : List (List ℕ)) (v : View) (small : small_examples (x ∷ rest) ≡ true) (laid : Laid (x ∷ rest) asked v) where
  stands : (s : List ℕ) (p : Part) → a_part p ≡ true → goes (x ∷ rest) p s ≡ true → (i : ℕ) × StandsFor (guided_by (x ∷ rest) v) s i p
  stands s p a g =
      let c = stood_for x rest asked v laid s p a g in
      (c.0, record { there = c.1.below; goes = c.1.goes_too; leads = c.1.same_move; as_good = c.1.no_later })

  pub examples_sound : Sound (guided_by (x ∷ rest) v) (fit (x ∷ rest)) (64 + v.rows * v.rows)
  examples_sound =
      record {
        fit_start = fit_start (x ∷ rest) small;
        fit_after = λ p s f g. stays_fit (x ∷ rest) p s f g;
        few = λ s f. candidates_few x rest (rows_of v) s small;
        valid = λ s i f h. candidates_valid x rest asked (rows_of v) s i small laid.good h;
        ordered = λ s i j f h k. candidates_ordered (x ∷ rest) asked (rows_of v) s i j laid.good h k;
        complete = λ s p f a g. stands s p a g;
        lower = λ k s q f a l h t. lower_agrees (x ∷ rest) asked v laid s k q h l a (sym (accepted_leads (x ∷ rest) s q) ∙ t);
      }
