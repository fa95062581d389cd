-- The guide as it lies in memory is no more than what an example needs.
use Rattle.std.proofs.Common.{◌≡◌, ℕ, zero, suc, ◌+◌, ◌*◌, ◌<◌, ◌≤◌, Bool, true, List, [], ◌∷◌, ◌++◌, length, get_or, take, drop, sym, ap, ◌∙◌, append_assoc, arith, length-append, take-append-drop, length-take, length-take-le, get_or-take, get_or-append-add}
use Rattle.std.proofs.lemmas.List.{get_or_append_left}
use Rattle.rules.specs.Places.{Place}
use Rattle.rules.specs.Rules.{Rule, made, makes}
use Rattle.rules.specs.Examples.{Example}
use Rattle.candidates.specs.Weights.{weight}
use Rattle.candidates.specs.Moves.{leads, uses}
use Rattle.candidates.specs.Rows.{given_of, wanted_of}
use Rattle.candidates.specs.Guide.{columns, laid_columns, guide_number}
use Rattle.candidates.proofs.ColumnsLaid.{Nines, columns_nines, together, length_columns_together}
use Rattle.candidates.proofs.GuideFalls.{length_columns, columns_past}
use Rattle.candidates.proofs.GuideSound.{LeastCosts, guide_sound}
use Rattle.candidates.proofs.LeadsDoes.{leads_makes, leads_within}
use Rattle.candidates.proofs.StaysFit.{within_at}

-- number k of column j
together_at : (cols : List (List ℕ)) (rest : List ℕ) (j k : ℕ) → Nines cols → j < length cols → k < 9 → get_or (together cols ++ rest) (9 * j + k) 0 ≡ get_or (get_or cols j []) k 0
together_at [] rest j k e h l = absurd (omega arith)
together_at (c ∷ cols) rest zero k e h l =
    ap (λ n. get_or ((c ++ together cols) ++ rest) n 0) (omega arith) ∙ ap (λ xs. get_or xs k 0) (append_assoc c (together cols) rest)
    ∙ get_or_append_left c (together cols ++ rest) 0 k (omega (arith, e.0))
together_at (c ∷ cols) rest (suc j) k e h l =
    ap (λ n. get_or ((c ++ together cols) ++ rest) n 0) (omega (arith, e.0)) ∙ ap (λ xs. get_or xs (length c + (9 * j + k)) 0) (append_assoc c (together cols) rest)
    ∙ get_or-append-add c (together cols ++ rest) (9 * j + k) 0 ∙ together_at cols rest j k e.1 (omega arith) l

-- the columns from j on are those of what is wanted from j on
columns_from : (cs t w : List ℕ) (j : ℕ) → j ≤ length w → get_or (columns cs t w) j [] ≡ get_or (columns cs t (drop j w)) 0 []
columns_from cs t w j h =
    ap (λ l. get_or (columns cs t l) j []) (sym (take-append-drop j w)) ∙ ap (λ n. get_or (columns cs t (take j w ++ drop j w)) n []) (sym (length-take-le j w h))
    ∙ columns_past cs t (take j w) (drop j w)

pub guide_number_is : (cs t w ns : List ℕ) (j k : ℕ) → j ≤ length w → k ≤ 8 → guide_number (laid_columns (columns cs t w) ns) j k ≡ get_or (get_or (columns cs t (drop j w)) 0 []) k 0
guide_number_is cs t w ns j k h l =
    let n = length_columns cs t w in
    together_at (columns cs t w) (drop (9 * length (columns cs t w)) ns) j k (columns_nines cs t w) (omega arith) (omega arith) ∙ ap (λ c. get_or c k 0) (columns_from cs t w j h)

guide_number_sound :
    (cs t : List ℕ) (U : Place → Bool) → length t < length cs → LeastCosts cs t U → (q : Rule) (w ns : List ℕ) (j k : ℕ) → k ≤ 8 → length q ≤ k → uses U q ≡ true →
    j ≤ length w → makes q t ≡ made (drop j w) → guide_number (laid_columns (columns cs t w) ns) j k ≤ weight q
guide_number_sound cs t U room least q w ns j k h l u within e =
    let low = guide_sound cs t U room least q (drop j w) k h l u e in
    let is = guide_number_is cs t w ns j k within h in
    omega arith

-- the 585 numbers of example e are its guide, over these costs
pub record GuideOf (es : List Example) (U : Place → Bool) (ns : List ℕ) (e : ℕ) : Type 0 where
  pub costs : List ℕ
  pub room : length (given_of es e) < length costs
  pub least : LeastCosts costs (given_of es e) U
  pub before : List ℕ
  pub laid : take 585 (drop (585 * e) ns) ≡ laid_columns (columns costs (given_of es e) (wanted_of es e)) before

-- a number of the first 585
guide_number_front : (cs t w before xs : List ℕ) (j k : ℕ) → j ≤ length w → k ≤ 8 → take 585 xs ≡ laid_columns (columns cs t w) before →
    guide_number xs j k ≡ guide_number (laid_columns (columns cs t w) before) j k
guide_number_front cs t w before xs j k h l e =
    let n = length_columns_together cs t w in
    let m = length-append (together (columns cs t w)) (drop (9 * length (columns cs t w)) before) in
    let size = ap length e in
    let most = length-take 585 xs in
    sym (get_or-take 585 xs (9 * j + k) 0 (omega arith)) ∙ ap (λ x. guide_number x j k) e

-- what is said at a state is no more than any rule weighs that leads from there to the end
pub guide_of_sound :
    (es : List Example) (U : Place → Bool) (ns : List ℕ) (e : ℕ) → GuideOf es U ns e → e < length es →
    (q : Rule) (s : List ℕ) (k : ℕ) → k ≤ 8 → length q ≤ k → uses U q ≡ true → leads es s q ≡ true → guide_number (drop (585 * e) ns) (get_or s e 0) k ≤ weight q
guide_of_sound es U ns e g few q s k h l u on =
    let j : ℕ = get_or s e 0 in
    let inside_e = within_at es s e (leads_within es s q on) few in
    let low = guide_number_sound g.costs (given_of es e) U g.room g.least q (wanted_of es e) g.before j k h l u inside_e (leads_makes es s q e on few) in
    let is = guide_number_front g.costs (given_of es e) (wanted_of es e) g.before (drop (585 * e) ns) j k inside_e h g.laid in
    omega arith
