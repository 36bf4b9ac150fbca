-- What a command does to an open cursor.
use Rattle.std.proofs.Common.{◌≡◌, Bool, true, false, cond, [], ◌∷◌, Option, Some, None, is_some, refl, sym, ◌∙◌, ap, subst, nat_lt}
use mathlib.Core.Bool.{true≢false}
use Rattle.std.specs.List.{flat_map}
use Rattle.std.specs.Option.{option_map}
use Rattle.std.specs.declared.cmp.Ordering.{Ordering}
use Rattle.std.specs.declared.cmp.Ordering.TheVariants.{Equal, Less, Greater}
use Rattle.std.specs.Ordering.{is_eq, eq_by_cmp}
use Rattle.std.specs.Cmp.{IsTotalOrder, tied_itself}
use Rattle.std.specs.Cmp.Lexicographic.{nat_list_cmp_total}
use Rattle.std.specs.FinMap.{get, insert, remove, contains_key, len, get-insert, get-remove, slice_cmp-IsAntisymmetric, nat_cmp-IsAntisymmetric}
use Rattle.key_slot.specs.Record.{Bytes, Record, key_cmp}
use Rattle.map_model.specs.Store.{Map}
use Rattle.map_model.specs.Cursors.{Cursor, Cursors, after_open, most_cursors, Way, onward, back}
use Rattle.cursor_set.proofs.Stepped.{behind, moved_if}
use Rattle.cursor_set.specs.SetAnswers.{moved}
use Rattle.header_gate.specs.declared.layout.Layout.{Layout}
use Rattle.command_text.specs.CursorLines.{next_line}
use Rattle.command_text.specs.Session.{Session, session_step}
use Rattle.command_text.specs.declared.command.Command.{Command}
use Rattle.command_text.specs.declared.command.Command.TheVariants as command
use Rattle.cursor_set.specs.Lives.{way_by, gift_line, gifts_if, gifts_by, IsOpen}
use Rattle.cursor_set.specs.Ways.{step_of}
use Rattle.cursor_set.proofs.Lives.{Moves, stays, gives}

order : IsTotalOrder key_cmp
order = nat_list_cmp_total

same_key : (x y : Bytes) → eq_by_cmp key_cmp x y ≡ true → x ≡ y
same_key x y tie = slice_cmp-IsAntisymmetric nat_cmp-IsAntisymmetric x y (equal_of (key_cmp x y) tie)
  where
    equal_of : (o : Ordering) → is_eq o ≡ true → o ≡ Equal
    equal_of Less e = absurd (true≢false (sym e))
    equal_of Equal e = refl
    equal_of Greater e = absurd (true≢false (sym e))

tied : (x : Bytes) → eq_by_cmp key_cmp x x ≡ true
tied x = ap is_eq (tied_itself order x)

not_turned : (x y : Bytes) → eq_by_cmp key_cmp x y ≡ false → eq_by_cmp key_cmp y x ≡ false
not_turned x y ne = by_tie (eq_by_cmp key_cmp y x) refl
  where
    by_tie : (b : Bool) → eq_by_cmp key_cmp y x ≡ b → eq_by_cmp key_cmp y x ≡ false
    by_tie false e = e
    by_tie true e = absurd (true≢false (sym (tied x) ∙ ap (λ (z : Bytes). eq_by_cmp key_cmp x z) (sym (same_key y x e)) ∙ ne))

pub inserted : (c : Cursors) (n : Bytes) (k : Cursor) → get (insert c n k) n ≡ Some k
inserted c n k = get-insert order c n k n ∙ ap (λ (b : Bool). cond b (Some k) (get c n)) (tied n)

removed : (c : Cursors) (n : Bytes) → get (remove c n) n ≡ None
removed c n = get-remove order c n n ∙ ap (λ (b : Bool). cond b None (get c n)) (tied n)

module _ (name : Bytes) (m : Map) (c : Cursors) (k : Cursor) (is : get c name ≡ Some k) where
  here : contains_key c name ≡ true
  here = ap is_some is

  -- an opening leaves it
  open_leaves : (other : Bytes) (low high : Option Bytes) → get (after_open c other low high) name ≡ Some k
  open_leaves other low high = by_used (contains_key c other) refl
    where
      fresh : Cursor
      fresh = record { low = low; high = high; past = None }

      by_tie : (b : Bool) → eq_by_cmp key_cmp name other ≡ b → contains_key c other ≡ false → cond b (Some fresh) (get c name) ≡ Some k
      by_tie false tie unused = is
      by_tie true tie unused = absurd (true≢false (sym here ∙ ap (contains_key c) (same_key name other tie) ∙ unused))

      by_room : (b : Bool) → contains_key c other ≡ false → get (cond b (insert c other fresh) c) name ≡ Some k
      by_room false unused = is
      by_room true unused = get-insert order c other fresh name ∙ by_tie (eq_by_cmp key_cmp name other) refl unused

      by_used : (b : Bool) → contains_key c other ≡ b → get (cond b c (cond (nat_lt (len c) most_cursors) (insert c other fresh) c)) name ≡ Some k
      by_used true used = is
      by_used false unused = by_room (nat_lt (len c) most_cursors) unused

  -- a step of another leaves it
  step_leaves : (gives_of : Cursor → Option Record) (other : Bytes) → eq_by_cmp key_cmp name other ≡ false → get (moved_if gives_of c other (get c other)) name ≡ Some k
  step_leaves gives_of other ne = by_cursor (get c other)
    where
      by_step : (j : Cursor) (o : Option Record) → get (moved c other j o) name ≡ Some k
      by_step j (Some r) = get-insert order c other (behind r j) name ∙ ap (λ (b : Bool). cond b (Some (behind r j)) (get c name)) ne ∙ is
      by_step j None = get-remove order c other name ∙ ap (λ (b : Bool). cond b None (get c name)) ne ∙ is

      by_cursor : (o : Option Cursor) → get (moved_if gives_of c other o) name ≡ Some k
      by_cursor None = is
      by_cursor (Some j) = by_step j (gives_of j)

  -- so does a closing of another
  close_leaves : (other : Bytes) → contains_key (remove c other) name ≡ true → get (remove c other) name ≡ Some k
  close_leaves other still = by_tie (eq_by_cmp key_cmp name other) refl
    where
      by_tie : (b : Bool) → eq_by_cmp key_cmp name other ≡ b → get (remove c other) name ≡ Some k
      by_tie false ne = get-remove order c other name ∙ ap (λ (b : Bool). cond b None (get c name)) ne ∙ is
      by_tie true tie = absurd (true≢false (sym still ∙ ap is_some (get-remove order c other name ∙ ap (λ (b : Bool). cond b None (get c name)) tie)))

  -- its own step gives a record, where it stays open
  own_step : (way : Way) → contains_key (moved_if (step_of way m) c name (get c name)) name ≡ true
      → Moves (Some way) m k (flat_map (gift_line way m) (next_line (option_map (step_of way m) (get c name)) ∷ [])) (get (moved_if (step_of way m) c name (get c name)) name)
  own_step way still = by_step (step_of way m k) refl
    where
      after : (o : Option Record) → step_of way m k ≡ o → get (moved_if (step_of way m) c name (get c name)) name ≡ get (moved c name k o) name
      after o step = ap (λ (d : Cursors). get d name) (ap (moved_if (step_of way m) c name) is ∙ ap (moved c name k) step)

      by_step : (o : Option Record) → step_of way m k ≡ o → Moves (Some way) m k (flat_map (gift_line way m) (next_line (option_map (step_of way m) (get c name)) ∷ [])) (get (moved_if (step_of way m) c name (get c name)) name)
      by_step None step = absurd (true≢false (sym still ∙ ap is_some (after None step ∙ removed c name)))
      by_step (Some r) step =
          let told : option_map (step_of way m) (get c name) ≡ Some (Some r) = ap (option_map (step_of way m)) is ∙ ap (λ (o : Option Record). Some o) step in
          gives way r refl step (ap (λ (o : Option (Option Record)). flat_map (gift_line way m) (next_line o ∷ [])) told) (after (Some r) step ∙ inserted c name (behind r k))

  step_moves : (way : Way) (other : Bytes) → contains_key (moved_if (step_of way m) c other (get c other)) name ≡ true
      → Moves (cond (eq_by_cmp key_cmp other name) (Some way) None) m k (gifts_if (cond (eq_by_cmp key_cmp other name) (Some way) None) m (next_line (option_map (step_of way m) (get c other)) ∷ [])) (get (moved_if (step_of way m) c other (get c other)) name)
  step_moves way other still = by_tie (eq_by_cmp key_cmp other name) refl
    where
      by_tie : (b : Bool) → eq_by_cmp key_cmp other name ≡ b → Moves (cond b (Some way) None) m k (gifts_if (cond b (Some way) None) m (next_line (option_map (step_of way m) (get c other)) ∷ [])) (get (moved_if (step_of way m) c other (get c other)) name)
      by_tie false ne = stays refl (step_leaves (step_of way m) other (not_turned other name ne))
      by_tie true tie =
          subst (λ (o : Bytes). contains_key (moved_if (step_of way m) c o (get c o)) name ≡ true → Moves (Some way) m k (flat_map (gift_line way m) (next_line (option_map (step_of way m) (get c o)) ∷ [])) (get (moved_if (step_of way m) c o (get c o)) name))
          (sym (same_key other name tie)) (own_step way) still

-- a command leaves an open cursor, or has it step
pub moves_of : (name : Bytes) (l : Layout) (s : Session) (c : Command) (k : Cursor) → get s.cursors name ≡ Some k → IsOpen name (session_step l s c) → Moves (way_by name c) s.store.map k (gifts_by name l s c) (get (session_step l s c).cursors name)
moves_of name l s (command.Open other low high) k is still = stays refl (open_leaves name s.store.map s.cursors k is other low high)
moves_of name l s (command.Next other) k is still = step_moves name s.store.map s.cursors k is onward other still
moves_of name l s (command.Prev other) k is still = step_moves name s.store.map s.cursors k is back other still
moves_of name l s (command.Close other) k is still = stays refl (close_leaves name s.store.map s.cursors k is other still)
moves_of name l s c k is still = stays refl is
