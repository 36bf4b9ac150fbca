-- From a cursor's opening to its end.
use Rattle.std.proofs.Common.{◌≡◌, Bool, true, false, cond, List, [], ◌∷◌, T, Option, Some, None, refl, sym, ◌∙◌, ap, nat_lt}
use Rattle.std.specs.Option.{option_map}
use Rattle.std.specs.FinMap.{get, insert, contains_key, len, is_sorted}
use Rattle.key_slot.specs.Record.{Bytes, Record, IsAscending}
use Rattle.map_model.specs.Scan.{is_within}
use Rattle.map_model.specs.Cursors.{Cursor, Cursors, after_open, most_cursors, Way, onward, back}
use Rattle.cursor_set.specs.Ways.{is_beyond, order_of, step_command, step_of, IsDescending, NoneBeyond}
use Rattle.cursor_set.proofs.Ahead.{step_none}
use Rattle.header_gate.specs.declared.layout.Layout.{Layout}
use Rattle.command_text.specs.CursorLines.{open_line, next_line}
use Rattle.command_text.specs.Session.{Session, session_answers}
use Rattle.command_text.specs.declared.command.Command.{Command}
use Rattle.command_text.specs.declared.reply.Reply.TheVariants as reply
use Rattle.cursor_set.specs.Lives.{InEach, AreNearest, Each, HasKey, StaysOpen, StepsOnly, Ends, at_end, given, last_given, opened, records_of, times}
use Rattle.cursor_set.proofs.Lives.{all_found, all_in_order, all_within, cursor_then, given_once, gifts_go, gifts_nearest}
use Rattle.cursor_set.proofs.Moving.{inserted, moves_of}

-- where an opening is answered so, there was room
room_of : (c : Cursors) (name : Bytes) → open_line c name ∷ [] ≡ reply.Opened ∷ [] → (contains_key c name ≡ false) × (nat_lt (len c) most_cursors ≡ true)
room_of c name is = by_tests (contains_key c name) (nat_lt (len c) most_cursors) is
  where
    by_tests : (b d : Bool) → cond b reply.CursorOpen (cond d reply.Opened reply.NoRoom) ∷ [] ≡ reply.Opened ∷ [] → (b ≡ false) × (d ≡ true)
    by_tests true d e = absurd (cc)
    by_tests false true e = (refl, refl)
    by_tests false false e = absurd (cc)

-- the cursor that is opened
abbrev pub fresh : Option Bytes → Option Bytes → Cursor
fresh low high = record { low = low; high = high; past = None }

opened_there : (c : Cursors) (name : Bytes) (low high : Option Bytes) → (contains_key c name ≡ false) × (nat_lt (len c) most_cursors ≡ true) → get (after_open c name low high) name ≡ Some (fresh low high)
opened_there c name low high room = (λ i. get (cond (room.0 i) c (cond (room.1 i) (insert c name (fresh low high)) c)) name) ∙ inserted c name (fresh low high)

-- where it says its end, it gives no record
none_given : (gives : Cursor → Option Record) (c : Cursors) (name : Bytes) (j : Cursor) → get c name ≡ Some j → next_line (option_map gives (get c name)) ∷ [] ≡ reply.CursorEnd ∷ [] → gives j ≡ None
none_given gives c name j is said = by_step (gives j) (ap (λ (o : Option Cursor). next_line (option_map gives o) ∷ []) (sym is) ∙ said)
  where
    by_step : (o : Option Record) → next_line (Some o) ∷ [] ≡ reply.CursorEnd ∷ [] → o ≡ None
    by_step None e = refl
    by_step (Some r) e = cc

none_step : (way : Way) (l : Layout) (x : Session) (name : Bytes) (j : Cursor) → get x.cursors name ≡ Some j → session_answers l x (step_command way name) ≡ reply.CursorEnd ∷ [] → step_of way x.store.map j ≡ None
none_step onward l x name j is said = none_given (step_of onward x.store.map) x.cursors name j is said
none_step back l x name j is said = none_given (step_of back x.store.map) x.cursors name j is said

module _ (name : Bytes) (low high : Option Bytes) (l : Layout) (s : Session) (cs : List Command) (stay : StaysOpen name low high l s cs) where
  there : get (opened name low high l s).cursors name ≡ Some (fresh low high)
  there = opened_there s.cursors name low high (room_of s.cursors name stay.opens)

  pub gifts_are : AreNearest low high None (given name low high l s cs)
  gifts_are = gifts_nearest name l (moves_of name l) (opened name low high l s) cs (fresh low high) there stay.stays

  pub gifts_within : Each (λ g. is_within low high g.row.0 ≡ true) (given name low high l s cs)
  gifts_within = all_within low high None (given name low high l s cs) gifts_are

  pub gifts_found : Each (λ g. get g.map g.row.0 ≡ Some g.row.1) (given name low high l s cs)
  gifts_found = all_found low high None (given name low high l s cs) gifts_are

  in_order : (way : Way) → StepsOnly way name cs → T (is_sorted (order_of way) (records_of (given name low high l s cs)))
  in_order way only = all_in_order way low high None (given name low high l s cs) gifts_are (gifts_go way name l (opened name low high l s) cs only)

  pub gifts_ascend : StepsOnly onward name cs → IsAscending (records_of (given name low high l s cs))
  gifts_ascend only = in_order onward only

  pub gifts_descend : StepsOnly back name cs → IsDescending (records_of (given name low high l s cs))
  gifts_descend only = in_order back only

module _ (way : Way) (name : Bytes) (low high : Option Bytes) (l : Layout) (s : Session) (cs : List Command) (stay : StaysOpen name low high l s cs) where
  pub gifts_end : Ends way name low high l s cs → NoneBeyond way low high (last_given None (given name low high l s cs)) (at_end name low high l s cs).store.map
  gifts_end ends =
      let j = record (fresh low high) { past = last_given None (given name low high l s cs) } in
      let at = cursor_then name l (moves_of name l) (opened name low high l s) cs (fresh low high) (there name low high l s cs stay) stay.stays in
      step_none (at_end name low high l s cs).store.map j way (none_step way l (at_end name low high l s cs) name j at ends)

  pub gift_once : StepsOnly way name cs → Ends way name low high l s cs → (key : Bytes) → is_within low high key ≡ true → InEach (HasKey key) l (opened name low high l s) cs → times key (records_of (given name low high l s cs)) ≡ 1
  gift_once only ends key within keeps =
      given_once name l (moves_of name l) way (opened name low high l s) cs (fresh low high) key (there name low high l s cs stay) stay.stays only
      (λ j at. step_none (at_end name low high l s cs).store.map j way (none_step way l (at_end name low high l s cs) name j at ends))
      keeps within (all_ahead way key)
    where
      all_ahead : (w : Way) (q : Bytes) → is_beyond w None q ≡ true
      all_ahead onward q = refl
      all_ahead back q = refl
