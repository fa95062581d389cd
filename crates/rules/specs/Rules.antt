-- Rules that make a text of a text: what they make, what they cost, and which there are. Assumes nothing: these are definitions.
use Rattle.std.specs.Prelude.{ℕ, ◌+◌, ◌-◌, ◌*◌, Bool, true, false, ◌&&◌, List, [], ◌∷◌, ◌++◌, length, take, drop, ◌==◌, nat_le, nat_lt, slice_index}
use Rattle.rules.specs.Lists.{pick, or, every, none_of, same, between}
use Rattle.rules.specs.Places.{Place, from_first, from_last, nth_of, spot}

-- some bytes, or what is cut from the text from one place to another
pub data Part : Type 0 where
  bytes : List ℕ → Part
  cut : Place → Place → Part

-- parts, whose bytes stand one after the other
abbrev pub Rule : Type 0
Rule = List Part

-- what is made of a text: bytes, perhaps none; or nothing
pub data Made : Type 0 where
  nothing : Made
  made : List ℕ → Made

-- WHAT IT MAKES
-- the text from the one position to the other; nothing if one is missing, or the second is before the first
abbrev pub from_to : List ℕ → List ℕ → List ℕ → Made
from_to t ps qs =
    pick (or (none_of ps) (none_of qs)) nothing (pick (nat_le (slice_index ps 0) (slice_index qs 0)) (made (take (slice_index qs 0 - slice_index ps 0) (drop (slice_index ps 0) t))) nothing)

unfoldable pub part_of : List ℕ → Part → Made
part_of t (bytes b) = made b
part_of t (cut p q) = from_to t (spot t p) (spot t q)

-- one after the other; nothing if either is nothing
unfoldable pub with_made : Made → Made → Made
with_made nothing n = nothing
with_made (made a) nothing = nothing
with_made (made a) (made b) = made (a ++ b)

unfoldable pub makes : Rule → List ℕ → Made
makes [] t = made []
makes (p ∷ ps) t = with_made (part_of t p) (makes ps t)

-- this is made: bytes, and these
unfoldable pub is_made : Made → List ℕ → Bool
is_made nothing w = false
is_made (made t) w = same t w

-- the same is made: the same bytes, or nothing twice; nothing is not the same as no bytes
unfoldable pub same_made : Made → Made → Bool
same_made nothing nothing = true
same_made nothing (made b) = false
same_made (made a) nothing = false
same_made (made a) (made b) = same a b

-- WHAT IT COSTS
abbrev pub kind_cost : ℕ → ℕ
kind_cost k = pick (k == 0) 0 1

unfoldable pub place_cost : Place → ℕ
place_cost (from_first n) = pick (n == 0) 2 8
place_cost (from_last n) = pick (n == 0) 2 8
place_cost (nth_of l r n back) = 3 + n + kind_cost l + kind_cost r

unfoldable pub part_cost : Part → ℕ
part_cost (bytes b) = 4 + 4 * length b
part_cost (cut p q) = 6 + place_cost p + place_cost q

unfoldable pub cost : Rule → ℕ
cost [] = 0
cost (p ∷ ps) = 1 + part_cost p + cost ps

-- WHICH RULES THERE ARE
abbrev pub a_kind : ℕ → Bool
a_kind k = or (nat_le k 5) (between 256 511 k)

-- numbers up to 64; of an nth place at least 1, and not both kinds "anything"
unfoldable pub a_place : Place → Bool
a_place (from_first n) = nat_le n 64
a_place (from_last n) = nat_le n 64
a_place (nth_of l r n back) = (a_kind l && a_kind r) && (nat_le 1 n && (nat_le n 64 && nat_le 1 (l + r)))

-- 1 to 64 bytes
unfoldable pub a_part : Part → Bool
a_part (bytes b) = nat_le 1 (length b) && (nat_le (length b) 64 && every (λ c. nat_lt c 256) b)
a_part (cut p q) = a_place p && a_place q

-- up to eight parts
abbrev pub a_rule : Rule → Bool
a_rule r = nat_le (length r) 8 && every a_part r
