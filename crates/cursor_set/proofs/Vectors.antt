-- The definitions at worked values.
use Rattle.std.proofs.Common.{◌≡◌, ℕ, Bool, true, false, cond, List, [], ◌∷◌, ◌++◌, map, Option, Some, None, option_map, nat_lt, refl, ap}
use Rattle.std.specs.Option.{option_to_list}
use Rattle.std.specs.List.{range_with_len}
use Rattle.std.specs.FinMap.{put, contains_key, entries, get, len}
use Rattle.key_slot.specs.Record.{Bytes, Record, key_cmp}
use Rattle.key_slot.specs.Ordered.{without}
use Rattle.map_model.specs.Cursors.{Cursors, Way, onward, back, record_ahead, step_in, most_cursors}
use Rattle.map_model.specs.Store.{Map}
use Rattle.command_text.specs.CursorLines.{open_line, next_line}
use Rattle.command_text.specs.declared.reply.Reply.TheVariants as reply
use Rattle.std.specs.Prelude.{codes}

abbrev a : Bytes
a = codes "a"

abbrev a0 : Bytes
a0 = codes "a0"

abbrev b : Bytes
b = codes "b"

abbrev bb : Bytes
bb = codes "bb"

abbrev c : Bytes
c = codes "c"

abbrev d : Bytes
d = codes "d"

abbrev bare : Bytes → Record
bare key = (key, [])

-- what a cursor with these bounds gives behind a key
abbrev gives : Way → Option Bytes → Option Bytes → Option Bytes → List Record → Option Record
gives way low past high records = record_ahead way (record { low = low; high = high; past = past }) records

-- A cursor without bounds over a, b, c and d. It gives a; b is removed and bb put, and it gives bb; a0 is put behind it, and it
-- gives c, d, and its end.
abbrev at_first : List Record
at_first = map bare (a ∷ b ∷ c ∷ d ∷ [])

abbrev then_bb : List Record
then_bb = put key_cmp bb [] (without key_cmp b at_first)

abbrev then_a0 : List Record
then_a0 = put key_cmp a0 [] then_bb

pub gives_a : gives onward None None None at_first ≡ Some (bare a)
gives_a = refl

pub gives_bb : gives onward None (Some a) None then_bb ≡ Some (bare bb)
gives_bb = refl

pub gives_c : gives onward None (Some bb) None then_a0 ≡ Some (bare c)
gives_c = refl

pub gives_d : gives onward None (Some c) None then_a0 ≡ Some (bare d)
gives_d = refl

pub gives_end : gives onward None (Some d) None then_a0 ≡ None
gives_end = refl

-- bounds: the lower one is included, the upper one isn't
pub gives_from_b : gives onward (Some b) None (Some d) at_first ≡ Some (bare b)
gives_from_b = refl

pub gives_below_d : gives onward (Some b) (Some c) (Some d) at_first ≡ None
gives_below_d = refl

-- Going back, a cursor without bounds begins behind d, and gives d and c. On it goes to d, and back to c; b is removed, and it
-- gives a, and its end.
pub back_gives_d : gives back None None None at_first ≡ Some (bare d)
back_gives_d = refl

pub back_gives_c : gives back None (Some d) None at_first ≡ Some (bare c)
back_gives_c = refl

pub then_gives_d : gives onward None (Some c) None at_first ≡ Some (bare d)
then_gives_d = refl

pub back_gives_a : gives back None (Some c) None (without key_cmp b at_first) ≡ Some (bare a)
back_gives_a = refl

pub back_gives_end : gives back None (Some a) None (without key_cmp b at_first) ≡ None
back_gives_end = refl

-- bounds: the upper one isn't included, the lower one is; the last key may lie beyond a bound
pub back_gives_below_d : gives back (Some b) None (Some d) at_first ≡ Some (bare c)
back_gives_below_d = refl

pub back_gives_from_b : gives back (Some b) (Some c) (Some d) at_first ≡ Some (bare b)
back_gives_from_b = refl

pub back_gives_none_below_b : gives back (Some b) (Some b) (Some d) at_first ≡ None
back_gives_none_below_b = refl

pub back_gives_below_high : gives back None (Some (codes "e")) (Some d) at_first ≡ Some (bare c)
back_gives_below_high = refl

-- A cursor over a to e gives a; a batch removes b, puts cc and removes e, and it gives c, cc, d, and its end.
abbrev to_e : List Record
to_e = map bare (a ∷ b ∷ c ∷ d ∷ codes "e" ∷ [])

abbrev then_batch : List Record
then_batch = without key_cmp (codes "e") (put key_cmp (codes "cc") [] (without key_cmp b to_e))

pub batch_gives_c : gives onward None (Some a) None then_batch ≡ Some (bare c)
batch_gives_c = refl

pub batch_gives_cc : gives onward None (Some c) None then_batch ≡ Some (bare (codes "cc"))
batch_gives_cc = refl

pub batch_gives_d : gives onward None (Some (codes "cc")) None then_batch ≡ Some (bare d)
batch_gives_d = refl

pub batch_gives_end : gives onward None (Some d) None then_batch ≡ None
batch_gives_end = refl

-- A cursor over keys 1 to 65, which goes on once behind each of the puts of 66 to 127, gives 1 to 62.
abbrev keyed : ℕ → Record
keyed n = (n ∷ [], [])

abbrev walk : List ℕ → Option Bytes → List Record → List Record
walk [] past records = []
walk (n ∷ ns) past records =
    let more = put key_cmp (n ∷ []) [] records in
    let next = gives onward None past None more in
    option_to_list next ++ walk ns (option_map (λ (r : Record). r.0) next) more

pub gives_62 : walk (range_with_len 66 62) None (map keyed (range_with_len 1 65)) ≡ map keyed (range_with_len 1 62)
gives_62 = refl

-- A cursor over keys 10 to 14, which goes back once behind each of the puts of 1 to 5, gives 14 to 10.
abbrev walk_back : List ℕ → Option Bytes → List Record → List Record
walk_back [] past records = []
walk_back (n ∷ ns) past records =
    let more = put key_cmp (n ∷ []) [] records in
    let prev = gives back None past None more in
    option_to_list prev ++ walk_back ns (option_map (λ (r : Record). r.0) prev) more

pub gives_back : walk_back (range_with_len 1 5) None (map keyed (range_with_len 10 5)) ≡ map keyed (14 ∷ 13 ∷ 12 ∷ 11 ∷ 10 ∷ [])
gives_back = refl

-- What is answered.
module _ (cs : Cursors) (name : Bytes) where
  -- a seventeenth cursor
  pub no_room : contains_key cs name ≡ false → len cs ≡ 16 → open_line cs name ≡ reply.NoRoom
  no_room absent full = λ i. cond (absent i) reply.CursorOpen (cond (nat_lt (full i) most_cursors) reply.Opened reply.NoRoom)

  -- a name that is used
  pub taken : contains_key cs name ≡ true → open_line cs name ≡ reply.CursorOpen
  taken there = ap (λ (t : Bool). cond t reply.CursorOpen (cond (nat_lt (len cs) most_cursors) reply.Opened reply.NoRoom)) there

  -- behind its end there is no cursor
  pub no_cursor : (way : Way) (m : Map) → get cs name ≡ None → next_line (step_in way m cs name) ≡ reply.NoCursor
  no_cursor way m none = ap (λ k. next_line (option_map (λ j. record_ahead way j (entries m)) k)) none
