-- A state is how far each wanted text has been made, and a part moves it on. Assumes nothing: these are definitions.
use Rattle.std.specs.Prelude.{ℕ, ◌+◌, Bool, true, false, ◌&&◌, List, [], ◌∷◌, length, take, drop, ◌==◌, nat_le}
use Rattle.rules.specs.Places.{Place}
use Rattle.rules.specs.Rules.{Part, bytes, cut, Rule, part_of, is_made}
use Rattle.rules.specs.Promises.{made_length}
use Rattle.rules.specs.Examples.{Example}

-- the part makes what stands next in the wanted text, from position j on
abbrev pub goes_on : Example → Part → ℕ → Bool
goes_on e p j = is_made (part_of e.given p) (take (made_length (part_of e.given p)) (drop j e.wanted))

-- A state has one number for each example, and may have more, which stay as they are.
-- the part makes what stands next in each wanted text
unfoldable pub goes : List Example → Part → List ℕ → Bool
goes [] p s = true
goes (e ∷ es) p [] = false
goes (e ∷ es) p (j ∷ js) = goes_on e p j && goes es p js

-- each position moved on by what the part makes
unfoldable pub moved : List Example → Part → List ℕ → List ℕ
moved [] p s = s
moved (e ∷ es) p [] = []
moved (e ∷ es) p (j ∷ js) = (j + made_length (part_of e.given p)) ∷ moved es p js

-- every wanted text has been made
unfoldable pub at_end : List Example → List ℕ → Bool
at_end [] s = true
at_end (e ∷ es) [] = false
at_end (e ∷ es) (j ∷ js) = j == length e.wanted && at_end es js

-- the parts lead from a state to the end
unfoldable pub leads : List Example → List ℕ → Rule → Bool
leads es s [] = at_end es s
leads es s (p ∷ ps) = goes es p s && leads es (moved es p s) ps

-- no position is past the end of its wanted text
unfoldable pub within : List Example → List ℕ → Bool
within [] s = true
within (e ∷ es) [] = false
within (e ∷ es) (j ∷ js) = nat_le j (length e.wanted) && within es js

-- a state has nine numbers: one for each of up to eight examples, and one more
abbrev pub fit : List Example → List ℕ → Bool
fit es s = length s == 9 && within es s

abbrev pub start : List ℕ
start = 0 ∷ 0 ∷ 0 ∷ 0 ∷ 0 ∷ 0 ∷ 0 ∷ 0 ∷ 0 ∷ []

-- every place that the rule cuts at passes the test
unfoldable pub uses : (Place → Bool) → Rule → Bool
uses f [] = true
uses f (bytes b ∷ q) = uses f q
uses f (cut x y ∷ q) = (f x && f y) && uses f q
