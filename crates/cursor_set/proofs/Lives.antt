-- What a cursor gives while it stays open.
use Rattle.std.proofs.Common.{◌≡◌, suc, Bool, true, false, cond, List, [], ◌∷◌, ◌++◌, T, Option, Some, None, refl, sym, ◌∙◌, ap, subst, length, IfSome}
use mathlib.Core.Bool.{true≢false}
use Rattle.std.specs.declared.cmp.Ordering.TheVariants.{Less}
use Rattle.std.specs.Cmp.{tied_itself}
use Rattle.std.specs.List.{flat_map}
use Rattle.std.specs.Ordering.{is_lt, eq_by_cmp}
use Rattle.std.specs.FinMap.{get, is_sorted}
use Rattle.std.specs.FinMap.Entries.{below_all, where_key}
use Rattle.key_slot.specs.Record.{Bytes, Record, key_cmp}
use Rattle.key_slot.proofs.Truth.{both, passes, first, second, passed}
use Rattle.map_model.specs.Scan.{is_within}
use Rattle.map_model.specs.Store.{Map}
use Rattle.map_model.specs.Cursors.{Cursor, Way}
use Rattle.cursor_set.specs.Ways.{is_beyond, order_of, step_of, NoneBeyond}
use Rattle.header_gate.specs.declared.layout.Layout.{Layout}
use Rattle.command_text.specs.Session.{Session, session_answers, session_step, session_after}
use Rattle.command_text.specs.declared.command.Command.{Command}
use Rattle.command_text.specs.declared.reply.Reply.{Reply}
use Rattle.command_text.specs.declared.reply.Reply.TheVariants as reply
use Rattle.cursor_set.specs.Lives.{InEach, Gift, records_of, way_by, gift_line, gifts_if, gifts_by, gifts, Each, AreNearest, last_given, times, StepsOnly, IsOpen, HasKey}
use Rattle.cursor_set.proofs.Stepped.{behind}
use Rattle.cursor_set.proofs.Ahead.{step_nearest, order_total, beyond_less, beyond_other, equal_of, less_of, same_key}

-- what a command does to a cursor that stays open: nothing, or the cursor steps, and gives a record
pub data Moves (way : Option Way) (m : Map) (k : Cursor) (gifts : List Gift) (after : Option Cursor) : Type 0 where
  stays : gifts ≡ [] → after ≡ Some k → Moves way m k gifts after
  gives : (w : Way) (r : Record) → way ≡ Some w → step_of w m k ≡ Some r → gifts ≡ record { way = w; map = m; row = r } ∷ [] → after ≡ Some (behind r k) → Moves way m k gifts after

-- Gifts that are the nearest, one after another.

pub all_within : (low high past : Option Bytes) (gs : List Gift) → AreNearest low high past gs → Each (λ g. is_within low high g.row.0 ≡ true) gs
all_within low high past [] are = tt
all_within low high past (g ∷ gs) are = (are.0.within, all_within low high (Some g.row.0) gs are.1)

pub all_found : (low high past : Option Bytes) (gs : List Gift) → AreNearest low high past gs → Each (λ g. get g.map g.row.0 ≡ Some g.row.1) gs
all_found low high past [] are = tt
all_found low high past (g ∷ gs) are = (are.0.there, all_found low high (Some g.row.0) gs are.1)

-- In one way.
module _ (way : Way) where
  abbrev AllGo : List Gift → Type 0
  AllGo gs = Each (λ g. g.way ≡ way) gs

  lt_on : (x y z : Bytes) → order_of way x y ≡ Less → is_lt (order_of way y z) ≡ true → is_lt (order_of way x z) ≡ true
  lt_on x y z xy yz = ap is_lt ((order_total way).trans x y z xy (less_of _ yz))

  -- those behind a key that another lies beyond lie beyond it too
  below_on : (x y : Bytes) (rs : List Record) → order_of way x y ≡ Less → T (below_all (order_of way) y rs) → T (below_all (order_of way) x rs)
  below_on x y [] xy above = tt
  below_on x y (r ∷ rs) xy above =
      both (is_lt (order_of way x r.0)) (below_all (order_of way) x rs)
      (passes _ (lt_on x y r.0 xy (passed _ (first (is_lt (order_of way y r.0)) (below_all (order_of way) y rs) above))))
      (below_on x y rs xy (second (is_lt (order_of way y r.0)) (below_all (order_of way) y rs) above))

  -- gifts lie beyond the key before the first
  pub all_beyond : (low high : Option Bytes) (key : Bytes) (gs : List Gift) → AreNearest low high (Some key) gs → AllGo gs → T (below_all (order_of way) key (records_of gs))
  all_beyond low high key [] are go = tt
  all_beyond low high key (g ∷ gs) are go =
      let lt = beyond_less way key g.row.0 (subst (λ (w : Way). is_beyond w (Some key) g.row.0 ≡ true) go.0 are.0.beyond) in
      both (is_lt (order_of way key g.row.0)) (below_all (order_of way) key (records_of gs)) (passes _ (ap is_lt lt))
      (below_on key g.row.0 (records_of gs) lt (all_beyond low high g.row.0 gs are.1 go.1))

  -- and are in order
  pub all_in_order : (low high past : Option Bytes) (gs : List Gift) → AreNearest low high past gs → AllGo gs → T (is_sorted (order_of way) (records_of gs))
  all_in_order low high past [] are go = tt
  all_in_order low high past (g ∷ gs) are go =
      both (below_all (order_of way) g.row.0 (records_of gs)) (is_sorted (order_of way) (records_of gs)) (all_beyond low high g.row.0 gs are.1 go.1) (all_in_order low high (Some g.row.0) gs are.1 go.1)

  -- a key isn't among those that lie beyond it
  not_among : (key q : Bytes) (rs : List Record) → T (below_all (order_of way) key rs) → eq_by_cmp key_cmp key q ≡ true → times q rs ≡ 0
  not_among key q [] above tie = refl
  not_among key q (r ∷ rs) above tie =
      ap (λ (b : Bool). length (cond b (r ∷ among rs) (among rs))) (apart (eq_by_cmp key_cmp r.0 q) refl)
      ∙ not_among key q rs (second (is_lt (order_of way key r.0)) (below_all (order_of way) key rs) above) tie
    where
      among : List Record → List Record
      among es = where_key key_cmp (λ x. eq_by_cmp key_cmp x q) es

      apart : (b : Bool) → eq_by_cmp key_cmp r.0 q ≡ b → eq_by_cmp key_cmp r.0 q ≡ false
      apart false e = e
      apart true e =
          let lt : order_of way key r.0 ≡ Less = less_of _ (passed _ (first (is_lt (order_of way key r.0)) (below_all (order_of way) key rs) above)) in
          let left = same_key key q (equal_of _ tie) in
          let right = same_key r.0 q (equal_of _ e) in
          absurd (true≢false (sym (ap is_lt lt) ∙ (λ i. is_lt (order_of way (left i) (right i))) ∙ ap is_lt (tied_itself (order_total way) q)))

  -- commands that have a cursor step in this way alone
  lines_go : (w : Way) (m : Map) (lines : List Reply) (rest : List Gift) → w ≡ way → AllGo rest → AllGo (flat_map (gift_line w m) lines ++ rest)
  lines_go w m [] rest same go = go
  lines_go w m (reply.Row row ∷ lines) rest same go = (same, lines_go w m lines rest same go)
  lines_go w m (other ∷ lines) rest same go = lines_go w m lines rest same go

  steps_go : (o : Option Way) (m : Map) (lines : List Reply) (rest : List Gift) → IfSome o (λ w. w ≡ way) → AllGo rest → AllGo (gifts_if o m lines ++ rest)
  steps_go None m lines rest only go = go
  steps_go (Some w) m lines rest only go = lines_go w m lines rest only go

  pub gifts_go : (name : Bytes) (l : Layout) (s : Session) (cs : List Command) → StepsOnly way name cs → AllGo (gifts name l s cs)
  gifts_go name l s [] only = tt
  gifts_go name l s (c ∷ cs) only = steps_go (way_by name c) s.store.map (session_answers l s c) (gifts name l (session_step l s c) cs) only.0 (gifts_go name l (session_step l s c) cs only.1)

-- States that commands lead through.
module _ (name : Bytes) (l : Layout) where
  at_start : (P : Session → Type 0) (s : Session) (cs : List Command) → InEach P l s cs → P s
  at_start P s [] h = h
  at_start P s (c ∷ cs) h = h.0

  module _ (moves : (s : Session) (c : Command) (k : Cursor) → get s.cursors name ≡ Some k → IsOpen name (session_step l s c) → Moves (way_by name c) s.store.map k (gifts_by name l s c) (get (session_step l s c).cursors name)) where
    -- what it gives while it stays open
    pub gifts_nearest : (s : Session) (cs : List Command) (k : Cursor) → get s.cursors name ≡ Some k → InEach (IsOpen name) l s cs → AreNearest k.low k.high k.past (gifts name l s cs)
    gifts_nearest s [] k is stay = tt
    gifts_nearest s (c ∷ cs) k is stay = by_move (moves s c k is (at_start (IsOpen name) (session_step l s c) cs stay.1)) (λ (j : Cursor) (at : get (session_step l s c).cursors name ≡ Some j). gifts_nearest (session_step l s c) cs j at stay.1)
      where
        rest : List Gift
        rest = gifts name l (session_step l s c) cs

        by_move : Moves (way_by name c) s.store.map k (gifts_by name l s c) (get (session_step l s c).cursors name) → ((j : Cursor) → get (session_step l s c).cursors name ≡ Some j → AreNearest j.low j.high j.past rest) → AreNearest k.low k.high k.past (gifts_by name l s c ++ rest)
        by_move (stays none at) more = subst (λ (gs : List Gift). AreNearest k.low k.high k.past (gs ++ rest)) (sym none) (more k at)
        by_move (gives w r way next one at) more = subst (λ (gs : List Gift). AreNearest k.low k.high k.past (gs ++ rest)) (sym one) (step_nearest s.store.map k w r next, more (behind r k) at)

    -- where it then stands
    pub cursor_then : (s : Session) (cs : List Command) (k : Cursor) → get s.cursors name ≡ Some k → InEach (IsOpen name) l s cs → get (session_after l s cs).cursors name ≡ Some (record k { past = last_given k.past (gifts name l s cs) })
    cursor_then s [] k is stay = is
    cursor_then s (c ∷ cs) k is stay = by_move (moves s c k is (at_start (IsOpen name) (session_step l s c) cs stay.1)) (λ (j : Cursor) (at : get (session_step l s c).cursors name ≡ Some j). cursor_then (session_step l s c) cs j at stay.1)
      where
        rest : List Gift
        rest = gifts name l (session_step l s c) cs

        by_move : Moves (way_by name c) s.store.map k (gifts_by name l s c) (get (session_step l s c).cursors name)
            → ((j : Cursor) → get (session_step l s c).cursors name ≡ Some j → get (session_after l (session_step l s c) cs).cursors name ≡ Some (record j { past = last_given j.past rest }))
            → get (session_after l (session_step l s c) cs).cursors name ≡ Some (record k { past = last_given k.past (gifts_by name l s c ++ rest) })
        by_move (stays none at) more = more k at ∙ ap (λ (gs : List Gift). Some (record k { past = last_given k.past (gs ++ rest) })) (sym none)
        by_move (gives w r way next one at) more = more (behind r k) at ∙ ap (λ (gs : List Gift). Some (record k { past = last_given k.past (gs ++ rest) })) (sym one)

    -- where it steps in one way and comes to its end, a key that lies beyond its own and is in each map is given once
    pub given_once : (way : Way) (s : Session) (cs : List Command) (k : Cursor) (q : Bytes) → get s.cursors name ≡ Some k → InEach (IsOpen name) l s cs → StepsOnly way name cs
        → ((j : Cursor) → get (session_after l s cs).cursors name ≡ Some j → NoneBeyond way j.low j.high j.past (session_after l s cs).store.map)
        → InEach (HasKey q) l s cs → is_within k.low k.high q ≡ true → is_beyond way k.past q ≡ true → times q (records_of (gifts name l s cs)) ≡ 1
    given_once way s [] k q is stay only ends keeps within beyond = absurd (true≢false (sym beyond ∙ ends k is q keeps within))
    given_once way s (c ∷ cs) k q is stay only ends keeps within beyond =
        by_move (moves s c k is (at_start (IsOpen name) (session_step l s c) cs stay.1))
        (λ (j : Cursor) (at : get (session_step l s c).cursors name ≡ Some j). gifts_nearest (session_step l s c) cs j at stay.1)
        (λ (j : Cursor) (at : get (session_step l s c).cursors name ≡ Some j) (inside : is_within j.low j.high q ≡ true) (lies : is_beyond way j.past q ≡ true). given_once way (session_step l s c) cs j q at stay.1 only.1 ends keeps.1 inside lies)
      where
        rest : List Gift
        rest = gifts name l (session_step l s c) cs

        by_move : Moves (way_by name c) s.store.map k (gifts_by name l s c) (get (session_step l s c).cursors name)
            → ((j : Cursor) → get (session_step l s c).cursors name ≡ Some j → AreNearest j.low j.high j.past rest)
            → ((j : Cursor) → get (session_step l s c).cursors name ≡ Some j → is_within j.low j.high q ≡ true → is_beyond way j.past q ≡ true → times q (records_of rest) ≡ 1)
            → times q (records_of (gifts_by name l s c ++ rest)) ≡ 1
        by_move (stays none at) are once = ap (λ (gs : List Gift). times q (records_of (gs ++ rest))) none ∙ once k at within beyond
        by_move (gives w r way_is next one at) are once = ap (λ (gs : List Gift). times q (records_of (gs ++ rest))) one ∙ by_tie (eq_by_cmp key_cmp r.0 q) refl
          where
            same : w ≡ way
            same = subst (λ (o : Option Way). IfSome o (λ v. v ≡ way)) way_is only.0

            above : T (below_all (order_of way) r.0 (records_of rest))
            above = all_beyond way k.low k.high r.0 rest (are (behind r k) at) (gifts_go way name l (session_step l s c) cs only.1)

            nearest : is_lt (order_of way q r.0) ≡ false
            nearest = subst (λ (v : Way). is_lt (order_of v q r.0) ≡ false) same ((step_nearest s.store.map k w r next).nearest q keeps.0 within (subst (λ (v : Way). is_beyond v k.past q ≡ true) (sym same) beyond))

            by_tie : (b : Bool) → eq_by_cmp key_cmp r.0 q ≡ b → length (cond b (r ∷ where_key key_cmp (λ x. eq_by_cmp key_cmp x q) (records_of rest)) (where_key key_cmp (λ x. eq_by_cmp key_cmp x q) (records_of rest))) ≡ 1
            by_tie true tie = ap suc (not_among way r.0 q (records_of rest) above tie)
            by_tie false tie = once (behind r k) at within (beyond_other way r.0 q nearest tie)
