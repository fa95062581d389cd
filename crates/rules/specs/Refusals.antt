-- Bytes that spell no rule, each with what is told of them. Assumes nothing: these are definitions.
use Rattle.std.specs.Prelude.{◌≡◌, ℕ, List, [], ◌∷◌, ◌++◌, replicate, Err}
use Rattle.rules.specs.Reading.{read_rule}
use Rattle.rules.specs.declared.fault.Fault.{Fault}
use Rattle.rules.specs.declared.fault.Fault.TheVariants.{PartCount, LiteralLength, PlaceNumber, NthZero, NoKind, KindNumber, Tag, EndsEarly, LeftOver}

-- the bytes spell no rule, for this reason
abbrev pub RefusedAs : List ℕ → Fault → Type 0
RefusedAs bs f = read_rule bs ≡ Err f

-- a cut from a place that is spelled so, to the end
abbrev pub cut_from : List ℕ → List ℕ
cut_from place = 1 ∷ 1 ∷ place ++ 1 ∷ 0 ∷ []

-- Nine parts; literals of 0 and of 65 bytes; places 65 from the beginning and from the end; nth places with the number 65 and 0, with the kinds 6 and 512,
-- with anything on both sides, with the direction 2; a part and a place of no known sort; bytes after the end; no end.
abbrev pub WorkedRefusals : Type 0
WorkedRefusals =
    RefusedAs (9 ∷ []) (PartCount 9) × RefusedAs (1 ∷ 0 ∷ 0 ∷ []) (LiteralLength 0) × RefusedAs (1 ∷ 0 ∷ 65 ∷ replicate 65 120) (LiteralLength 65)
    × RefusedAs (cut_from (0 ∷ 65 ∷ [])) (PlaceNumber 65)
    × RefusedAs (cut_from (1 ∷ 65 ∷ [])) (PlaceNumber 65)
    × RefusedAs (cut_from (2 ∷ 0 ∷ 0 ∷ 0 ∷ 2 ∷ 65 ∷ 0 ∷ [])) (PlaceNumber 65)
    × RefusedAs (cut_from (2 ∷ 0 ∷ 0 ∷ 0 ∷ 2 ∷ 0 ∷ 0 ∷ [])) NthZero
    × RefusedAs (cut_from (2 ∷ 0 ∷ 6 ∷ 0 ∷ 2 ∷ 1 ∷ 0 ∷ [])) (KindNumber 6)
    × RefusedAs (cut_from (2 ∷ 0 ∷ 0 ∷ 2 ∷ 0 ∷ 1 ∷ 0 ∷ [])) (KindNumber 512)
    × RefusedAs (cut_from (2 ∷ 0 ∷ 0 ∷ 0 ∷ 0 ∷ 1 ∷ 0 ∷ [])) NoKind
    × RefusedAs (cut_from (2 ∷ 0 ∷ 0 ∷ 0 ∷ 2 ∷ 1 ∷ 2 ∷ [])) (Tag 2)
    × RefusedAs (1 ∷ 2 ∷ []) (Tag 2)
    × RefusedAs (cut_from (3 ∷ [])) (Tag 3)
    × RefusedAs (0 ∷ 7 ∷ 7 ∷ []) (LeftOver 2)
    × RefusedAs [] EndsEarly
    × RefusedAs (1 ∷ 0 ∷ 2 ∷ 120 ∷ []) EndsEarly
