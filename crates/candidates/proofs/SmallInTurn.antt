-- Up to eight examples are small if each is.
use Rattle.std.proofs.Common.{◌≡◌, ◌≤◌, Bool, ◌&&◌, leb, List, [], ◌∷◌, length, sym, refl, ap, ◌∙◌}
use Rattle.std.specs.List.{list_all}
use Rattle.std.proofs.lemmas.Bool.{le-leb}
use Rattle.rules.specs.Lists.{every}
use Rattle.rules.proofs.EachElement.{each_length}
use Rattle.candidates.specs.declared.example.Example.{Example}
use Rattle.candidates.specs.Rows.{small_example, small_examples}
use Rattle.candidates.specs.Values.{the_example, the_examples}

all_of_them : (es : List Example) → small_examples (the_examples es) ≡ (leb (length es) 8 && every small_example (the_examples es))
all_of_them es = ap (λ n. leb n 8 && every small_example (the_examples es)) (each_length the_example es)

all_every : (es : List Example) → list_all (λ e. small_example (the_example e)) es ≡ every small_example (the_examples es)
all_every [] = refl
all_every (e ∷ es) = ap (λ b. small_example (the_example e) && b) (all_every es)

pub few_small : (es : List Example) (b : Bool) → length es ≤ 8 → b ≡ list_all (λ e. small_example (the_example e)) es → b ≡ small_examples (the_examples es)
few_small es b h e = e ∙ all_every es ∙ sym (all_of_them es ∙ ap (λ b. b && every small_example (the_examples es)) (le-leb (length es) 8 h))
