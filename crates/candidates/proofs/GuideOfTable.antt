-- The guide over a table's costs is no more than what is needed, where for each place a row lies like it and costs no more.
use Rattle.std.proofs.Common.{◌≡◌, ℕ, ◌+◌, ◌*◌, ◌<◌, ◌≤◌, Bool, true, leb, List, [], ◌∷◌, length, get_or, drop, replicate, sym, ap, subst, arith}
use lib.ListN.{length-replicate}
use Rattle.std.proofs.lemmas.Bool.{and_parts, leb-true}
use Rattle.rules.specs.Lists.{every}
use Rattle.rules.specs.Places.{Place, spot}
use Rattle.rules.specs.Rules.{Rule, place_cost}
use Rattle.rules.specs.Examples.{Example}
use Rattle.rules.proofs.PlacesWithin.{places_within}
use Rattle.candidates.specs.Weights.{weight}
use Rattle.candidates.specs.Moves.{leads, uses}
use Rattle.candidates.specs.Rows.{given_of}
use Rattle.candidates.specs.RowTable.{row_number}
use Rattle.candidates.specs.Guide.{least_costs, all_costs, guide_number}
use Rattle.candidates.proofs.GuideInMemory.{GuideOf, guide_of_sound}
use Rattle.candidates.proofs.GuidesLaid.{GuideLaid}
use Rattle.candidates.proofs.GuideSound.{LeastCosts}
use Rattle.candidates.proofs.LeastCosts.{length_least_costs, least_costs_low, costs_of}

-- row i of n lies at x in given text e, and costs no more than p
pub record CheapRow (t : List ℕ) (n e x : ℕ) (p : Place) (i : ℕ) : Type 0 where
  pub below : i < n
  pub at : row_number t i (6 + e) ≡ x
  pub cheap : row_number t i 5 ≤ place_cost p

-- for each place that passes the test there is such a row
abbrev pub RowsCheap : List ℕ → ℕ → List Example → (Place → Bool) → ℕ → Type 0
RowsCheap t n es U e = (p : Place) (x : ℕ) → U p ≡ true → spot (given_of es e) p ≡ x ∷ [] → (i : ℕ) × CheapRow t n e x p i

spot_within : (t : List ℕ) (p : Place) (x : ℕ) → spot t p ≡ x ∷ [] → x ≤ length t
spot_within t p x e = leb-true x (length t) (and_parts (leb x (length t)) true (subst (λ l. every (λ k. leb k (length t)) l ≡ true) e (places_within t p))).0

rows_least : (t : List ℕ) (n : ℕ) (es : List Example) (U : Place → Bool) (e : ℕ) → length (given_of es e) ≤ 64 → RowsCheap t n es U e →
    LeastCosts (least_costs t e n (replicate 65 255)) (given_of es e) U
rows_least t n es U e few rows p x u at =
    let row = rows p x u at in
    let i : ℕ = row.0 in
    let inside = spot_within (given_of es e) p x at in
    let size = length-replicate {A = ℕ} 65 255 in
    let low = least_costs_low t e n (replicate 65 255) i row.1.below (omega (arith, row.1.at)) in
    let here = ap (λ z. get_or (least_costs t e n (replicate 65 255)) z 0) row.1.at in
    omega (arith, row.1.cheap)

table_guide : (t : List ℕ) (n : ℕ) (es : List Example) (U : Place → Bool) (ns : List ℕ) (e : ℕ) → e < 8 → length (given_of es e) ≤ 64 → RowsCheap t n es U e → GuideLaid (all_costs t n) es ns e → GuideOf es U ns e
table_guide t n es U ns e below few rows laid =
    let is = costs_of t n e below in
    record {
      costs = get_or (all_costs t n) e [];
      room = (let l = length_least_costs t e n (replicate 65 255) in let s = length-replicate {A = ℕ} 65 255 in let m = ap length is in omega arith);
      least = subst (λ cs. LeastCosts cs (given_of es e) U) (sym is) (rows_least t n es U e few rows);
      before = laid.0;
      laid = laid.1;
    }

pub table_guide_sound :
    (t : List ℕ) (n : ℕ) (es : List Example) (U : Place → Bool) (ns : List ℕ) (e : ℕ) → e < length es → e < 8 →
    length (given_of es e) ≤ 64 → RowsCheap t n es U e → GuideLaid (all_costs t n) es ns e →
    (q : Rule) (s : List ℕ) (k : ℕ) → k ≤ 8 → length q ≤ k → uses U q ≡ true → leads es s q ≡ true → guide_number (drop (585 * e) ns) (get_or s e 0) k ≤ weight q
table_guide_sound t n es U ns e h below few rows laid q s k = guide_of_sound es U ns e (table_guide t n es U ns e below few rows laid) h q s k
