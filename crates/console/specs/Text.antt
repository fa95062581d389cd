-- Rules as text: what is printed of a rule. Assumes nothing: these are definitions.
use Rattle.std.specs.Prelude.{ℕ, ◌+◌, ◌-◌, ◌/◌, ◌%◌, Bool, true, false, not, ◌&&◌, List, [], ◌∷◌, ◌++◌, codes, ◌==◌, nat_lt}
use Rattle.std.specs.Str.{chars, encode_utf8_all, all_scalars}
use Rattle.rules.specs.Lists.{pick, or, flat, same, between}
use Rattle.rules.specs.Places.{Place, from_first, from_last, nth_of}
use Rattle.rules.specs.Rules.{Part, bytes, cut, Rule}

-- WHAT STANDS IN QUOTES
-- the bytes are UTF-8 as a whole
abbrev pub utf8 : List ℕ → Bool
utf8 bs = all_scalars (chars bs) && same (encode_utf8_all (chars bs)) bs

-- a hexadecimal digit, of a number below 16
abbrev pub hex : ℕ → ℕ
hex d = pick (nat_lt d 10) (48 + d) (87 + d)

-- a quote or a backslash, which has a backslash before it
abbrev pub marked : ℕ → Bool
marked c = or (c == 34) (c == 92)

-- a byte that may stand as it is
abbrev pub plain : ℕ → Bool
plain c = between 32 255 c && (not (c == 127) && not (marked c))

-- a byte of a literal; high says whether one from 128 on stands as it is
abbrev pub shown : (high : Bool) → ℕ → List ℕ
shown high c =
    pick (marked c) (92 ∷ c ∷ []) (pick (plain c && or high (nat_lt c 128)) (c ∷ []) (92 ∷ 120 ∷ hex (c / 16) ∷ hex (c % 16) ∷ []))

-- bytes in quotes
abbrev pub quoted : List ℕ → List ℕ
quoted bs = 34 ∷ flat (shown (utf8 bs)) bs ++ 34 ∷ []

-- NUMBERS
-- a number up to 64
abbrev pub number_text : ℕ → List ℕ
number_text n = pick (nat_lt n 10) ((48 + n) ∷ []) ((48 + n / 10) ∷ (48 + n % 10) ∷ [])

-- what makes the second of 2, and so on
abbrev pub ordinal_end : ℕ → List ℕ
ordinal_end n =
    pick (n / 10 == 1) (codes "th") (pick (n % 10 == 1) (codes "st") (pick (n % 10 == 2) (codes "nd") (pick (n % 10 == 3) (codes "rd") (codes "th"))))

-- what stands between the number of bytes and where they are counted from
abbrev pub count_end : ℕ → List ℕ
count_end n = codes " byte" ++ pick (n == 1) [] (codes "s") ++ codes " from the "

-- PLACES
-- that a run of the kind k ends, or begins; of what is no run nothing
abbrev pub run_text : (ends : Bool) → (k : ℕ) → List ℕ
run_text ends k =
    pick (k == 1) (pick ends (codes "digits end") (codes "digits begin"))
    (pick (k == 2) (pick ends (codes "a run of letters ends") (codes "a run of letters begins"))
    (pick (k == 3) (pick ends (codes "capitals end") (codes "capitals begin"))
    (pick (k == 4) (pick ends (codes "small letters end") (codes "small letters begin"))
    (pick (k == 5) (pick ends (codes "blanks end") (codes "blanks begin")) []))))

-- that there is something of the kind k: a run that ends, or begins, or a sign
abbrev pub kind_text : (ends : Bool) → (k : ℕ) → List ℕ
kind_text ends k = pick (nat_lt k 256) (run_text ends k) (codes "there's a " ++ quoted ((k - 256) ∷ []))

-- what is before the place, what is behind it, or both
abbrev pub sides_text : (l r : ℕ) → List ℕ
sides_text l r =
    pick (l == 0) (codes "behind which " ++ kind_text false r)
    (codes "before which " ++ kind_text true l ++ pick (r == 0) [] (codes ", and behind which " ++ kind_text false r))

-- which of the places it is
abbrev pub nth_text : (n : ℕ) → (back : Bool) → List ℕ
nth_text n back =
    pick (n == 1) (pick back (codes "last place ") (codes "first place "))
    (number_text n ++ ordinal_end n ++ pick back (codes " last place ") (codes " place "))

-- so many bytes from an edge of the text, or the edge itself
abbrev pub count_text : ℕ → List ℕ
count_text n = pick (n == 0) (codes "the ") (number_text n ++ count_end n)

-- a place
abbrev pub place_text : Place → List ℕ
place_text (from_first n) = count_text n ++ codes "beginning"
place_text (from_last n) = count_text n ++ codes "end"
place_text (nth_of l r n back) = codes "the " ++ nth_text n back ++ sides_text l r

-- PARTS AND RULES
-- what stands between the places of a cut: with a comma after an nth place
abbrev pub to_text : Place → List ℕ
to_text (from_first n) = codes " to "
to_text (from_last n) = codes " to "
to_text (nth_of l r n back) = codes ", to "

-- a part
abbrev pub part_text : Part → List ℕ
part_text (bytes b) = quoted b
part_text (cut p q) = codes "from " ++ place_text p ++ to_text p ++ place_text q

-- a part that is not the first
abbrev pub later_text : Part → List ℕ
later_text p = codes "; " ++ part_text p

-- a rule: its parts, with "; " between them
abbrev pub rule_text : Rule → List ℕ
rule_text [] = codes "no parts"
rule_text (p ∷ ps) = part_text p ++ flat later_text ps
