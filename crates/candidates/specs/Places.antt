-- The places that are there in a text, in the order of their spelling. Assumes nothing: these are definitions.
use Rattle.std.specs.Prelude.{ℕ, ◌+◌, Bool, true, false, ◌&&◌, List, [], ◌∷◌, ◌++◌, length, ◌==◌}
use Rattle.rules.specs.Lists.{pick, or, any, each, those, flat, up_to}
use Rattle.rules.specs.Places.{Place, from_first, from_last, nth_of, of_kind, all_of}
use Rattle.rules.specs.Rules.{a_kind}
use Rattle.candidates.specs.Weights.{smaller}

-- the text has a byte of the kind; anything stands in every text
abbrev pub stands_in : List ℕ → ℕ → Bool
stands_in t k = or (k == 0) (any (λ c. of_kind k c) t)

-- the kinds that stand in the text, by their numbers
unfoldable pub kinds_in : List ℕ → List ℕ
kinds_in t = those (λ k. a_kind k && stands_in t k) (up_to 512)

-- the (n + 1)th place between two kinds, from the beginning and from the end
abbrev pub both_ways : ℕ → ℕ → ℕ → List Place
both_ways l r n = nth_of l r (n + 1) false ∷ nth_of l r (n + 1) true ∷ []

-- the places between two kinds that are there in the text; none if both are anything
unfoldable pub places_between : List ℕ → ℕ → ℕ → List Place
places_between t l r = pick (l + r == 0) [] (flat (both_ways l r) (up_to (smaller (length (all_of t l r)) 64)))

-- the places before which there is an l
unfoldable pub places_behind : List ℕ → List ℕ → ℕ → List Place
places_behind t rs l = flat (λ r. places_between t l r) rs

-- the places between any two of some kinds
abbrev pub places_among : List ℕ → List ℕ → List Place
places_among t ks = flat (λ l. places_behind t ks l) ks

-- the places counted in bytes, from the beginning and from the end
abbrev pub counted : List Place
counted = each (λ n. from_first n) (up_to 65) ++ each (λ n. from_last n) (up_to 65)

-- all of them; those counted in bytes may be missing
unfoldable pub places_in : List ℕ → List Place
places_in t = each (λ n. from_first n) (up_to 65) ++ (each (λ n. from_last n) (up_to 65) ++ flat (λ l. places_behind t (kinds_in t) l) (kinds_in t))
