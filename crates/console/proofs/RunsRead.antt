-- A run is read by a loop over the kinds: of those that are left the first is it, or those behind it are left.
use Rattle.std.proofs.Common.{◌≡◌, ℕ, ◌+◌, ◌<◌, ◌≤◌, Bool, List, length, get_or, drop, Some, None, sym, ap, ◌∙◌}
use Rattle.std.proofs.lemmas.List.{at_drop_more, at_drop_all}
use Rattle.rules.specs.Lists.{each}
use Rattle.rules.specs.Values.{kind_number}
use Rattle.rules.specs.declared.kind.Kind.{Kind}
use Rattle.console.specs.declared.expected.Expected.TheVariants.{Kind as some_kind}
use Rattle.console.specs.Text.{run_text}
use Rattle.console.specs.Reading.{Read, read, failed, strip, after, read_run}

module _ (ends : Bool) (kinds : List Kind) (i : ℕ) (t : List ℕ) where
  abbrev left : ℕ → Read ℕ
  left j = read_run ends (each kind_number (drop j kinds)) t

  first_left : (d : Kind) (word : List ℕ) → i < length kinds → word ≡ run_text ends (kind_number (get_or kinds i d)) → left i ≡ after (strip word t) (read (kind_number (get_or kinds i d))) (left (i + 1))
  unfolding read_run
  first_left d word h e =
      ap (λ ks. read_run ends ks t) (at_drop_more (each kind_number) kinds i d h) ∙ ap (λ w. after (strip w t) (read (kind_number (get_or kinds i d))) (left (i + 1))) (sym e)

  pub run_found : (d : Kind) (word rest : List ℕ) → i < length kinds → word ≡ run_text ends (kind_number (get_or kinds i d)) → strip word t ≡ Some rest → left i ≡ read (kind_number (get_or kinds i d)) rest
  run_found d word rest h e s = first_left d word h e ∙ ap (λ o. after o (read (kind_number (get_or kinds i d))) (left (i + 1))) s

  pub run_not_found : (d : Kind) (word : List ℕ) → i < length kinds → word ≡ run_text ends (kind_number (get_or kinds i d)) → strip word t ≡ None → left i ≡ left (i + 1)
  run_not_found d word h e s = first_left d word h e ∙ ap (λ o. after o (read (kind_number (get_or kinds i d))) (left (i + 1))) s

  pub run_none : length kinds ≤ i → left i ≡ failed (length t) some_kind
  unfolding read_run
  run_none h = ap (λ ks. read_run ends ks t) (at_drop_all (each kind_number) kinds i h)
