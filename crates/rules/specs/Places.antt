-- Places in a text: what stands before and behind them, and where they are. Assumes nothing: these are definitions.
use Rattle.std.specs.Prelude.{ℕ, suc, ◌+◌, ◌-◌, Bool, true, not, ◌&&◌, List, [], ◌∷◌, length, take, drop, ◌==◌, nat_le, nat_lt, slice_index}
use Rattle.rules.specs.Lists.{pick, or, those, between, up_to, backwards}

-- Kinds are numbers: 0 anything, 1 a run of digits, 2 of letters, 3 of capitals, 4 of small letters, 5 of blanks; 256 + c the sign c, any byte.
-- The byte c is of the kind k. No byte is of the kind "anything".
abbrev pub of_kind : ℕ → ℕ → Bool
of_kind k c =
    pick (k == 1) (between 48 57 c) (pick (k == 2) (or (between 65 90 c) (between 97 122 c)) (pick (k == 3) (between 65 90 c)
    (pick (k == 4) (between 97 122 c) (pick (k == 5) (c == 32) (k == 256 + c)))))

-- the text has a byte at p, and it is of the kind k
abbrev pub there : List ℕ → ℕ → ℕ → Bool
there t k p = nat_lt p (length t) && of_kind k (slice_index t p)

-- before p stands a k: anything, the sign, or a run that ends at p
abbrev pub before_is : List ℕ → ℕ → ℕ → Bool
before_is t k p = pick (k == 0) true (nat_le 1 p && (there t k (p - 1) && or (nat_le 256 k) (not (there t k p))))

-- behind p stands a k: anything, the sign, or a run that begins at p
abbrev pub behind_is : List ℕ → ℕ → ℕ → Bool
behind_is t k p = pick (k == 0) true (there t k p && or (nat_le 256 k) (or (p == 0) (not (there t k (p - 1)))))

-- n bytes from the beginning; n bytes from the end; the nth place, counted from 1, before which there is an l and behind which there is an r,
-- from the beginning or, if back, from the end
pub data Place : Type 0 where
  from_first : ℕ → Place
  from_last : ℕ → Place
  nth_of : (l r n : ℕ) → (back : Bool) → Place

-- all places before which there is an l and behind which there is an r, from the beginning
abbrev pub all_of : List ℕ → ℕ → ℕ → List ℕ
all_of t l r = those (λ p. before_is t l p && behind_is t r p) (up_to (suc (length t)))

-- the nth of a list, counted from 1, alone in a list; or none
abbrev pub nth : List ℕ → ℕ → List ℕ
nth ps n = pick (n == 0) [] (take 1 (drop (n - 1) ps))

-- where a place is in a text: one position, or none
unfoldable pub spot : List ℕ → Place → List ℕ
spot t (from_first n) = pick (nat_le n (length t)) (n ∷ []) []
spot t (from_last n) = pick (nat_le n (length t)) ((length t - n) ∷ []) []
spot t (nth_of l r n back) = nth (pick back (backwards (all_of t l r)) (all_of t l r)) n
