-- What a rule makes of a line that is not too long has room in 512 bytes, and stands in front of them.
use Rattle.std.proofs.Common.{◌≡◌, ℕ, ◌+◌, ◌<◌, ◌≤◌, true, List, length, take, drop, Some, None, Ok, Err, Option, MatchOption, sym, refl, ap, ◌∙◌, subst, subst₂, arith}
use Rattle.std.specs.Result.{IsOk}
use Rattle.std.proofs.lemmas.List.{take_at}
use Rattle.std.proofs.lemmas.Bool.{le-leb, lt-leb}
use Rattle.rules.specs.Answers.{made_told, made_left, written}
use Rattle.rules.specs.Lists.{pick}
use Rattle.rules.specs.Promises.{made_length}
use Rattle.rules.specs.Rules.{Rule, Made, nothing, made, makes, a_rule}
use Rattle.rules.proofs.MadeIsShort.{made_short}
use Rattle.console.specs.Rows.{made_of}

told_room : (m : Made) (room : ℕ) → made_length m ≤ room → IsOk (made_told m room)
unfolding made_length
told_room nothing room h = refl
told_room (made bs) room h = rw (le-leb (length bs) room h) refl

pub made_has_room : (r : Rule) (line : List ℕ) → a_rule r ≡ true → length line ≤ 64 → IsOk (made_told (makes r line) 512)
made_has_room r line rule short = told_room (makes r line) 512 (made_short r line rule short)

-- a line that is too long, and one that is not
pub of_a_long_line : (r : Rule) (line : List ℕ) → 64 < length line → made_of r line ≡ nothing
of_a_long_line r line h = ap (λ x. pick x (makes r line) nothing) (lt-leb (length line) 64 h)

pub of_a_line : (r : Rule) (line : List ℕ) → length line ≤ 64 → made_of r line ≡ makes r line
of_a_line r line h = ap (λ x. pick x (makes r line) nothing) (le-leb (length line) 64 h)

-- what is made stands at the front of what was lent, where there is room for it
pub in_front : (m : Made) (room after : List ℕ) (o : Option ℕ) → made_length m ≤ length room → Ok o ≡ made_told m (length room) → after ≡ made_left m room → MatchOption o (m ≡ nothing) (λ n. (n ≤ length room) × (m ≡ made (take n after)))
unfolding made_length
in_front nothing room after o h told left = subst (λ x. MatchOption x (nothing ≡ nothing) (λ n. (n ≤ length room) × (nothing ≡ made (take n after)))) (let e : None ≡ o = cc in e) refl
in_front (made bs) room after o h told left =
    let fits = le-leb (length bs) (length room) h in
    let is : Ok o ≡ Ok (Some (length bs)) = told ∙ ap (λ x. pick x (Ok (Some (length bs))) (Err (record {}))) fits in
    let front : take (length bs) after ≡ bs = ap (take (length bs)) (left ∙ ap (λ x. pick x (written room 0 bs) room) fits) ∙ take_at bs (drop (0 + length bs) room) (length bs) refl in
    subst (λ x. MatchOption x (made bs ≡ nothing) (λ n. (n ≤ length room) × (made bs ≡ made (take n after)))) (let e : Some (length bs) ≡ o = cc in e) (h, ap (λ l. made l) (sym front))

-- the same of a line that is not too long
module _ (r : Rule) (line room : List ℕ) (rule : a_rule r ≡ true) (short : length line ≤ 64) (long : length room ≡ 512) where
  enough : made_length (makes r line) ≤ length room
  enough = let h = made_short r line rule short in omega arith

  pub line_in_front : (after : List ℕ) (o : Option ℕ) → Ok o ≡ made_told (makes r line) (length room) → after ≡ made_left (makes r line) room → MatchOption o (made_of r line ≡ nothing) (λ n. (n ≤ 512) × (made_of r line ≡ made (take n after)))
  line_in_front after o told left =
      subst₂ (λ k m. MatchOption o (m ≡ nothing) (λ n. (n ≤ k) × (m ≡ made (take n after)))) long (sym (of_a_line r line short)) (in_front (makes r line) room after o enough told left)
