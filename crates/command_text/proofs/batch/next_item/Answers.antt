-- A name that is neither, and the words of an item.
use Rattle.std.proofs.Common.{◌≡◌, Bool, true, false, not, refl, ap, sym, ◌∙◌, option_copied}
use Rattle.std.specs.Prelude.{codes}
use Rattle.std.specs.Str.{bytes_eq}
use Rattle.command_text.specs.Words.{words}
use Rattle.command_text.proofs.BatchReading.{other_name, item_begins}
use Rattle.command_text.proofs.batch.next_item.Goals as goal
use Rattle.command_text.proofs.batch.next_item.Goals.{else-not-puts-via-then-not-puts+else-ne, else-not-puts-via-else-not-puts}

untrue : (a b : Bool) → a ≡ not b → a ≡ true → b ≡ false
untrue a true e is = let no_way : true ≡ false = sym is ∙ e in absurd cc
untrue a false e is = refl

truly : (a b : Bool) → a ≡ not b → a ≡ false → b ≡ true
truly a true e is = refl
truly a false e is = let no_way : false ≡ true = sym is ∙ e in absurd cc

pub returns-then-ne : goal.returns-then-ne
returns-then-ne c =
    other_name (words c.args.bytes.now) c.in_ok-name.name.now (words c.in_ok-name.after_name.now) c.in_ok-key.key.now (words c.in_ok-key.after_key.now) c.in_ok-name.ensures c.in_ok-key.ensures
    (sym (c.eq-puts.ensures ∙ ap (bytes_eq c.in_ok-name.name.now) c.as_slice.ensures) ∙ c.if-not-puts.true)
    (untrue c.ne.result (bytes_eq c.in_ok-name.name.now (codes "remove")) (c.ne.ensures ∙ ap (λ r. not (bytes_eq c.in_ok-name.name.now r)) c.as_slice-then-not-puts.ensures) c.if-ne.true)

pub returns : goal.returns
returns c =
    item_begins (words c.args.bytes.now) c.in_ok-name.name.now (words c.in_ok-name.after_name.now) c.in_ok-key.key.now (words c.in_ok-key.after_key.now) c.in_ok-name.ensures c.in_ok-key.ensures
    c.eq-puts.result c.value_word.result.0.now (words c.value_word.result.1.now) (option_copied c.in_ok-behind.behind) (c.eq-puts.ensures ∙ ap (bytes_eq c.in_ok-name.name.now) c.as_slice.ensures)
    (elim c.else-not-puts.branch [
      | else-not-puts-via-then-not-puts+else-ne w ↦ λ other. truly w.ne.result (bytes_eq c.in_ok-name.name.now (codes "remove")) (w.ne.ensures ∙ ap (λ r. not (bytes_eq c.in_ok-name.name.now r)) w.as_slice-then-not-puts.ensures) w.if-ne.false
      | else-not-puts-via-else-not-puts w ↦ λ other. let no_way : true ≡ false = sym w.if-not-puts.false ∙ other in absurd cc
    ])
    c.value_word.ensures c.in_ok-behind.ensures
