-- What commands note in the ledger of a session, and what their updates write.
use Rattle.std.proofs.Common.{◌≡◌, ℕ, zero, suc, ◌+◌, ◌*◌, ◌≤◌, Bool, true, false, cond, List, [], ◌∷◌, length, take, Option, Some, None, refl, sym, ap, subst, ◌∙◌, arith}
use Rattle.std.specs.Prelude.{◌&&◌, is_none, is_some}
use Rattle.std.specs.FinMap.{len}
use Rattle.std.proofs.Math.Nat.{mul-le-mul_left}
use Rattle.std.proofs.Math.Pow.{pow_mono}
use Rattle.header_gate.specs.Header.{layout_in}
use Rattle.header_gate.specs.Places.{height_limit}
use Rattle.header_gate.specs.declared.layout.Layout.{Layout}
use Rattle.map_model.specs.ArrayState.{ArrayState, plain, next_state, next_states}
use Rattle.map_model.specs.Image.{height_of, map_of}
use Rattle.map_model.specs.Items.{state_after_items}
use Rattle.map_model.specs.ItemWords.{ItemCounts, charge_after_items}
use Rattle.map_model.specs.Store.{State, Update, IsWithin}
use Rattle.map_model.proofs.Resuming.{items_within, plain_items}
use Rattle.map_model.proofs.SessionLaws.{holds_of}
use Rattle.cost_ledger.specs.Ledger.{noted}
use Rattle.command_text.specs.Answers.{batch_or_full}
use Rattle.command_text.specs.CursorLines.{cursors_after}
use Rattle.command_text.specs.Session.{Session, session_step}
use Rattle.command_text.specs.Updates.{updates_made}
use Rattle.command_text.specs.declared.command.Command.{Command}
use Rattle.command_text.specs.declared.reply.Reply.TheVariants as reply
use Rattle.pma_store.specs.declared.answers.Batch as store
use Rattle.pma_store.specs.declared.answers.Batch.TheVariants as batch
use Rattle.pma_store.specs.StoreAnswers.{state_in}
use Rattle.pma_store.specs.Batching.{done_by, intent_cost_in, IsRefusal}
use Rattle.pma_store.specs.Changing.{most_written}
use Rattle.pma_store.specs.Costing.{updates_cost}
use Rattle.pma_store.specs.StoreView.{StoreView, Stands}
use Rattle.pma_engine.specs.CommandCosts.{intents_cost}
use Rattle.pma_engine.specs.Replies.{batch_reply, lines_of, IsQuiet}

-- The ledger.

plus_none : (n : ℕ) → n ≡ n + 0
plus_none n = omega arith

-- a session behind updates
abbrev stepped : Layout → Session → List Update → Session
stepped l x us = record { store = next_states (height_limit l) x.store us; cursors = x.cursors; ledger = noted (length us) (charge_after_items (height_limit l) x.store us) x.ledger }

-- a command that makes no update leaves the session, but for the cursors
pub no_step : (l : Layout) (x : Session) (c : Command) → updates_made l x.store.map c ≡ [] → record x { cursors = cursors_after x.store.map x.cursors c } ≡ session_step l x c
no_step l x c none =
    (λ i. record { store = x.store; cursors = cursors_after x.store.map x.cursors c; ledger = record { start = x.ledger.start; updates = plus_none x.ledger.updates i; charge = plus_none x.ledger.charge i } })
    ∙ sym (ap (stepped l (record x { cursors = cursors_after x.store.map x.cursors c })) none)

-- Batches.

-- the reply to a batch is the defined one
pub batch_choice : (most charge : ℕ) (counts : ItemCounts) (o : Option ℕ) (b : Bool) →
    batch_reply (cond b (cond (is_some o) (batch.Full most) (done_by counts charge)) batch.NoBatch) ≡ cond b (batch_or_full most counts o) reply.NoBatch
batch_choice most charge counts None true = refl
batch_choice most charge counts (Some i) true = refl
batch_choice most charge counts None false = refl
batch_choice most charge counts (Some i) false = refl

-- by which the intent is counted
pub intent_choice : (most charge : ℕ) (counts : ItemCounts) (o : Option ℕ) (b : Bool) →
    intent_cost_in (cond b (cond (is_some o) (batch.Full most) (done_by counts charge)) batch.NoBatch) ≡ intents_cost (cond (b && is_none o) 1 0)
intent_choice most charge counts None true = refl
intent_choice most charge counts (Some i) true = refl
intent_choice most charge counts None false = refl
intent_choice most charge counts (Some i) false = refl

-- the state behind it is that behind the updates that it makes
pub state_choice : (hmax : ℕ) (s : ArrayState) (items : List Update) (b : Bool) → cond b (next_states hmax s items) s ≡ next_states hmax s (cond b items [])
state_choice hmax s items true = refl
state_choice hmax s items false = refl

-- a batch that tells of no change is refused
pub quiet_batch : (done : store.Batch) (P : Type 0) → (IsRefusal done → P) → IsQuiet (lines_of (Some (batch_reply done))) → P
quiet_batch (batch.Done stored replaced removed absent charge) P refused quiet = absurd (true_false quiet)
  where
    true_false : true ≡ false → ⊥
    true_false e = cc
quiet_batch (batch.Full most) P refused quiet = refused tt
quiet_batch batch.NoBatch P refused quiet = refused tt

-- What updates write.

-- fewer updates write no more
pub fewer_cost : (l : Layout) (s : ArrayState) (us : List Update) (n : ℕ) → updates_cost l s (take n us) ≤ updates_cost l s us
fewer_cost l s us zero = omega arith
fewer_cost l s [] (suc n) = omega arith
fewer_cost l s (u ∷ us) (suc n) = omega (arith, fewer_cost l (next_state (height_limit l) s u) us n)

-- the height of a store is within its limit, and stays so through updates
module _ (s : StoreView) (image : List ℕ) (stands : Stands s image) where
  own_layout : layout_in image ≡ s.place.layout
  own_layout = stands.balanced.stands.settled.layout_is

  within_limit : (us : List Update) → (next_states (height_limit s.place.layout) (state_in s image) us).height ≤ height_limit s.place.layout
  within_limit us =
      let hmax = height_limit s.place.layout in
      let holds = holds_of image (map_of image) (height_of image) stands.balanced.stands.settled.represents in
      let within = subst (λ (l : Layout). IsWithin (height_limit l) (height_of image) (len (map_of image))) own_layout holds.within in
      let same : (next_states hmax (state_in s image) us).height ≡ (state_after_items hmax (plain (state_in s image)) us).height = ap (λ (t : State). t.height) (plain_items hmax (state_in s image) us) in
      omega (arith, same, (items_within hmax (plain (state_in s image)) us within).height_is)

  -- so what one update may write behind them is the most of one
  pub most_behind : (us : List Update) → most_written s.place.layout (next_states (height_limit s.place.layout) (state_in s image) us).height ≤ most_written s.place.layout (height_limit s.place.layout)
  most_behind us =
      let low = mul-le-mul_left (65568 * s.place.layout.format + 24) (pow_mono {i = (next_states (height_limit s.place.layout) (state_in s image) us).height} {j = height_limit s.place.layout} (within_limit us)) in
      omega (arith, low)

  -- and at the store's own height
  pub most_here : most_written s.place.layout s.tally.height ≤ most_written s.place.layout (height_limit s.place.layout)
  most_here = subst (λ (h : ℕ). most_written s.place.layout h ≤ most_written s.place.layout (height_limit s.place.layout)) stands.balanced.stands.height_is (most_behind [])
