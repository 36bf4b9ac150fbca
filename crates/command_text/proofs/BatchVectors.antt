-- What whole batches are answered, and what a session is charged for one, as they are known from outside.
use Rattle.std.proofs.Common.{◌≡◌, ℕ, suc, ◌+◌, Bool, false, cond, nat_lt, List, [], ◌∷◌, Some, None, Option, is_none, is_some, map, length, refl, ap, ◌∙◌}
use Rattle.std.specs.Prelude.{codes}
use Rattle.std.specs.FinMap.{empty, contains_key, insert, len, get-empty, get-insert, len-empty, len-insert}
use Rattle.std.specs.Cmp.Lexicographic.{nat_list_cmp_total}
use Rattle.std.specs.Option.{option_map}
use Rattle.percent_encoding.specs.Percent.{percent_decode}
use Rattle.key_slot.specs.Format.{narrow}
use Rattle.key_slot.specs.Record.{Bytes, key_cmp}
use Rattle.density_rule.specs.Bounds.{upper_of}
use Rattle.density_rule.specs.Marks.{Marks, no_marks}
use Rattle.header_gate.specs.declared.layout.Layout.{Layout}
use Rattle.map_model.specs.Array.{Array, spread, spread_over, segment_for}
use Rattle.map_model.specs.ArrayState.{ArrayState}
use Rattle.map_model.specs.ArrayUpdates.{broken_for, ready_for, array_after}
use Rattle.map_model.specs.Charges.{charge_after}
use Rattle.map_model.specs.Items.{first_full, is_full}
use Rattle.map_model.specs.ItemWords.{no_items, count_items, charge_after_items}
use Rattle.map_model.specs.Store.{Map, State, Update, bind, unbind, effect_by, effect_map, effect_height}
use Rattle.map_model.specs.After.{map_after, height_after}
use Rattle.map_model.proofs.ItemEffects.{accepts_by}
use Rattle.map_model.proofs.Resuming.{meets_full, removal_fits}
use Rattle.cost_ledger.specs.Ledger.{LedgerView, empty_ledger, noted, cost_of}
use Rattle.command_text.specs.Answers.{map_answers, batch_or_full}
use Rattle.command_text.specs.Script.{commands_of}
use Rattle.command_text.specs.Session.{session_from, ledger_step, session_step, session_answers}
use Rattle.command_text.specs.declared.command.Command.TheVariants.{Batch, Cost}
use Rattle.command_text.specs.declared.reply.Reply.TheVariants as reply

-- 16 items, the most that a batch may have
batch_of_16 : commands_of narrow (codes "batch put a ; put b ; put c ; put d ; put e ; put f ; put g ; put h ; put i ; put j ; put k ; put l ; put m ; put n ; put o ; put p")
    ≡ Batch (map (λ (c : ℕ). bind (c ∷ []) []) (codes "abcdefghijklmnop")) ∷ []
unfolding percent_decode
batch_of_16 = refl

-- a file of this version for one segment
abbrev of_version : ℕ → Layout
of_version v = record { hmax = 0; journal = 4; version = v; format = 1 }

-- at version 1 no batch is made, whatever its items are
no_batch : (s : State) (items : List Update) → map_answers (of_version 1) s (Batch items) ≡ reply.NoBatch ∷ []
no_batch s items = refl

abbrev put_x : Update
put_x = bind (codes "x") []

abbrev put_y : Update
put_y = bind (codes "y") []

-- with 63 records there is room for one of two new keys
module _ (m : Map) (no_x : contains_key m (codes "x") ≡ false) (no_y : contains_key m (codes "y") ≡ false) (count : len m ≡ 63) where
  with_x : map_after 0 m put_x ≡ insert m (codes "x") []
  with_x = (λ t. effect_map (effect_by (no_x t) (nat_lt (count t) (upper_of 0)) put_x) m put_x)

  room_for_x : meets_full 0 m put_x ≡ false
  room_for_x = (λ t. is_full (effect_by (no_x t) (nat_lt (count t) (upper_of 0)) put_x))

  still_no_y : contains_key (map_after 0 m put_x) (codes "y") ≡ false
  still_no_y = ap (λ (n : Map). contains_key n (codes "y")) with_x ∙ ap is_some (get-insert nat_list_cmp_total m (codes "x") [] (codes "y")) ∙ no_y

  then_64 : len (map_after 0 m put_x) ≡ 64
  then_64 = ap len with_x ∙ len-insert nat_list_cmp_total m (codes "x") [] ∙ (λ t. cond (no_x t) (count t) (count t + 1))

  second_is_full : first_full 0 m (put_x ∷ put_y ∷ []) ≡ Some 1
  second_is_full = (λ t. cond (room_for_x t) (Some 0) (option_map (λ i. suc i) (cond (is_full (effect_by (still_no_y t) (nat_lt (then_64 t) (upper_of 0)) put_y)) (Some 0) None)))

  full_batch : map_answers (of_version 2) (record { map = m; height = 0 }) (Batch (put_x ∷ put_y ∷ [])) ≡ reply.Full 64 ∷ []
  full_batch = ap (λ (i : Option ℕ). batch_or_full 64 (count_items 0 m (put_x ∷ put_y ∷ []) no_items) i ∷ []) second_is_full

  -- and its items are in no ledger
  no_update : (array : Array) (marks : Marks) (ledger : LedgerView) → ledger_step (of_version 2) (record { map = m; height = 0; array = array; marks = marks }) (Batch (put_x ∷ put_y ∷ [])) ledger ≡ noted 0 0 ledger
  no_update array marks ledger =
      ap (λ (b : Bool). let made = cond b (put_x ∷ put_y ∷ []) [] in noted (length made) (charge_after_items 0 (record { map = m; height = 0; array = array; marks = marks }) made) ledger)
      (accepts_by 2 0 m (put_x ∷ put_y ∷ []) ∙ ap (λ (i : Option ℕ). is_none i) second_is_full)

-- An empty store, and a batch of two puts and of a removal that finds nothing.

abbrev nothing : Map
nothing = empty

abbrev fresh : ArrayState
fresh = record { map = nothing; height = 0; array = [] ∷ []; marks = no_marks 0 }

abbrev put_a : Update
put_a = bind (codes "a") (codes "1")

abbrev put_b : Update
put_b = bind (codes "b") []

abbrev remove_c : Update
remove_c = unbind (codes "c")

abbrev items : List Update
items = put_a ∷ put_b ∷ remove_c ∷ []

none : len nothing ≡ 0
none = len-empty key_cmp Bytes

no_key : (key : Bytes) → contains_key nothing key ≡ false
no_key key = ap is_some (get-empty key_cmp key)

with_a : map_after 0 nothing put_a ≡ insert nothing (codes "a") (codes "1")
with_a = (λ t. effect_map (effect_by (no_key (codes "a") t) (nat_lt (none t) (upper_of 0)) put_a) nothing put_a)

one : len (map_after 0 nothing put_a) ≡ 1
one = ap len with_a ∙ len-insert nat_list_cmp_total nothing (codes "a") (codes "1") ∙ (λ t. cond (no_key (codes "a") t) (none t) (none t + 1))

still_no_b : contains_key (map_after 0 nothing put_a) (codes "b") ≡ false
still_no_b = ap (λ (m : Map). contains_key m (codes "b")) with_a ∙ ap is_some (get-insert nat_list_cmp_total nothing (codes "a") (codes "1") (codes "b")) ∙ no_key (codes "b")

admitted : first_full 0 nothing items ≡ None
admitted =
    let third = map_after 0 (map_after 0 nothing put_a) put_b in
    (λ t. cond (is_full (effect_by (no_key (codes "a") t) (nat_lt (none t) (upper_of 0)) put_a)) (Some 0)
    (option_map (λ i. suc i) (cond (is_full (effect_by (still_no_b t) (nat_lt (one t) (upper_of 0)) put_b)) (Some 0)
    (option_map (λ i. suc i) (cond (removal_fits (codes "c") (contains_key third (codes "c")) (nat_lt (len third) (upper_of 0)) t) (Some 0) None)))))

low : height_after 0 0 nothing put_a ≡ 0
low = (λ t. effect_height (effect_by (no_key (codes "a") t) (nat_lt (none t) (upper_of 0)) put_a) 0 (none t))

still_low : height_after 0 (height_after 0 0 nothing put_a) (map_after 0 nothing put_a) put_b ≡ 0
still_low = (λ t. effect_height (effect_by (still_no_b t) (nat_lt (one t) (upper_of 0)) put_b) (low t) (one t))

charges : charge_after_items 0 fresh items ≡ 4
unfolding charge_after array_after ready_for broken_for spread spread_over segment_for
charges =
    let first = array_after 0 0 ([] ∷ []) put_a in
    (λ t. charge_after 0 0 ([] ∷ []) put_a + (charge_after 0 (low t) first put_b + (charge_after 0 (still_low t) (array_after 0 (low t) first put_b) remove_c + 0)))

-- three updates of which two are charged, in a session that begins with the empty store
session_cost : session_answers (of_version 2) (session_step (of_version 2) (session_from fresh) (Batch items)) Cost ≡ reply.Cost (record { updates = 3; charge = 4; bound = 1574 }) ∷ []
session_cost =
    ap (λ (b : Bool). let made = cond b items [] in reply.Cost (cost_of (noted (length made) (charge_after_items 0 fresh made) (empty_ledger 0))) ∷ [])
    (accepts_by 2 0 nothing items ∙ ap (λ (i : Option ℕ). is_none i) admitted)
    ∙ ap (λ (n : ℕ). reply.Cost (cost_of (noted 3 n (empty_ledger 0))) ∷ []) charges
