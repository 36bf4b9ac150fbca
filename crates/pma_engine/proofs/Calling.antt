-- How many calls an opening makes behind the closing of an index.
use Rattle.std.proofs.Common.{◌≡◌, inl, inr, ℕ, ◌+◌, ◌*◌, ◌^◌, ◌≤◌, nat_lt, cond, List, length, take, ap, refl, false, sym, subst, ◌∙◌, arith}
use Rattle.std.specs.FinMap.{len}
use Rattle.station.specs.Bytes.{Same, Touched}
use Rattle.station.specs.Steps.{Steps}
use Rattle.station.specs.View.{View, Told, attached_by}
use Rattle.station.proofs.Composition.{told_on, weaken}
use Rattle.density_rule.specs.Repair.{repair_window}
use Rattle.header_gate.specs.Header.{layout_in}
use Rattle.header_gate.specs.Places.{height_limit, page_size, segment_size}
use Rattle.header_gate.specs.declared.layout.TheConstants.{INTENT_VERSION}
use Rattle.batch_intent.specs.declared.places.TheConstants.{INTENT_SIZE}
use Rattle.map_model.specs.Array.{counts_of}
use Rattle.map_model.specs.Image.{height_of}
use Rattle.map_model.specs.ArrayState.{opened_state}
use Rattle.redo_journal.specs.Neighbours.{run_count}
use Rattle.segment_frames.specs.Lists.{most_segments}
use Rattle.index_file.specs.Clean.{IsCleanPlace}
use Rattle.batch_intent.specs.Means.{waiting}
use Rattle.recovery.specs.OpeningCosts as costs
use Rattle.recovery.specs.OpeningCosts.{back_calls, mending_calls, asked_opening, opening_calls, opening_reads}
use Rattle.recovery.specs.Intents.{may_meet}
use Rattle.pma_store.specs.BatchCalls.{IsForItems}
use Rattle.pma_store.specs.Opens.{AreForPending, CallsOpening, IsAllAtRest, opened_tally}
use Rattle.pma_engine.specs.RunOpening.{reopening_calls, sync_calls}
use Rattle.pma_store.proofs.OpeningCalls.{items_seen}
use Rattle.pma_engine.proofs.Alike.{array_same, first_same, has_same, height_same, layout_same, live_table_same, map_same, names_same, waiting_same, rests}

module _ (old new : List ℕ) (touched : Touched IsCleanPlace old new) where
  -- a file has as many segments and the same intent once its index is closed
  back_same : back_calls new ≡ back_calls old
  back_same t =
      costs.bare_calls (layout_same old new touched t) + costs.region_calls (layout_same old new touched t) (height_same old new touched t)
      + cond (has_same old new touched t) (2 + cond (may_meet (height_limit (layout_same old new touched t)) (len (map_same old new touched t)) (waiting_same old new touched t)) (2 ^ height_same old new touched t) 0) 1

  -- and asks for the same calls
  pub asked_same : asked_opening new ≡ asked_opening old
  asked_same t =
      3
      + (cond (names_same old new touched t) (6 + run_count (live_table_same old new touched t)) 0 + back_same t
      + mending_calls (most_segments (layout_same old new touched t)) (repair_window (height_same old new touched t) (counts_of (array_same old new touched t))))

  pub most_same : opening_calls (layout_in new) (height_of new) ≡ opening_calls (layout_in old) (height_of old)
  most_same t = opening_calls (layout_same old new touched t) (height_same old new touched t)

  -- and for the same bytes
  reads_same : opening_reads new ≡ opening_reads old
  reads_same t =
      page_size
      + (costs.bare_reads (layout_same old new touched t) + segment_size (layout_same old new touched t) * 2 ^ height_same old new touched t
      + cond (nat_lt (layout_same old new touched t).version INTENT_VERSION) 0 (cond (has_same old new touched t)
      (1 + INTENT_SIZE + cond (may_meet (height_limit (layout_same old new touched t)) (len (map_same old new touched t)) (waiting_same old new touched t)) (segment_size (layout_same old new touched t) * 2 ^ height_same old new touched t) 0) 1))

  -- with the same counts
  tally_same : opened_tally new ≡ opened_tally old
  tally_same t = let x = first_same old new touched t in record { hmax = height_limit (layout_same old new touched t); height = x.height; counts = counts_of x.array; marks = x.marks }

-- its items are made in the same state
for_same : (a c : View) → (Told a → Told c) → Touched IsCleanPlace a.held c.held → (calls : ℕ) → AreForPending c calls → AreForPending a calls
for_same a c on touched calls is = record {
  begun = is.begun;
  some = omega (arith, is.some, ap length (waiting_same a.held c.held touched));
  last = is.last;
  are_for = items_seen a c (layout_in a.held) (opened_state a.held) (opened_tally a.held) is.last (take is.begun (waiting a.held)) calls on
      (subst (λ (x : Type 0). x) (λ t. IsForItems (layout_same a.held c.held touched t) c (first_same a.held c.held touched t) (tally_same a.held c.held touched t) (take is.begun (waiting_same a.held c.held touched t)) is.last calls) is.are_for);
}

-- so the opening behind makes as many calls as that of the file itself
pub region_calls : (closing : ℕ) (a c b : View) → Steps (Touched IsCleanPlace) a c → c.calls ≤ a.calls + closing → (Told c → IsAllAtRest c.held → b.calls ≤ c.calls + (3 + back_calls c.held)) → Told a → IsAllAtRest a.held → b.calls ≤ a.calls + (closing + 3 + back_calls a.held)
region_calls closing a c b steps few opens told rest =
    let touched = steps.held told in
    omega (arith, few, opens (told_on steps.frame told) (rests a.held c.held touched rest), back_same a.held c.held touched)

-- and reads as many bytes, with those of the closing
pub region_bytes : (a c b : View) → Steps (Touched IsCleanPlace) a c → c.travel.read ≤ a.travel.read + page_size → (Told c → IsAllAtRest c.held → b.travel.read ≤ c.travel.read + opening_reads c.held) → Told a → IsAllAtRest a.held → b.travel.read ≤ a.travel.read + (page_size + opening_reads a.held)
region_bytes a c b steps few opens told rest =
    let touched = steps.held told in
    omega (arith, few, opens (told_on steps.frame told) (rests a.held c.held touched rest), reads_same a.held c.held touched)

-- what is made before it is added
pub opening_behind : (closing before behind : ℕ) (a c b : View) → Steps (Touched IsCleanPlace) a c → c.calls ≤ a.calls + closing → Told a → behind ≡ before → CallsOpening behind c b → CallsOpening (closing + before) a b
opening_behind closing before behind a c b steps few told same (inl most) = inl (omega (arith, few, same, most))
opening_behind closing before behind a c b steps few told same (inr some) =
    let touched = steps.held told in
    inr (some.0, sym (has_same a.held c.held touched) ∙ some.1, for_same a c (λ told. told_on steps.frame told) touched some.0 some.2, omega (arith, few, same, some.3))

-- calls that are made behind it
pub opening_more : (back more : ℕ) (a b d : View) → d.calls ≤ b.calls + more → CallsOpening back a b → CallsOpening (back + more) a d
opening_more back more a b d few (inl most) = inl (omega (arith, few, most))
opening_more back more a b d few (inr some) = inr (some.0, some.1, some.2, omega (arith, few, some.3))

-- an opening behind the attaching of its file
pub opening_attached : (a c b : View) → Steps Same (attached_by false a) c → c.calls ≤ a.calls + 1 → Told a
    → (Told c → CallsOpening (4 + opening_calls (layout_in c.held) (height_of c.held) + sync_calls (layout_in c.held)) c b) → CallsOpening (reopening_calls a.held) (attached_by false a) b
opening_attached a c b steps one told behind =
    let same : c.held ≡ a.held = steps.held told in
    subst (λ (n : ℕ). CallsOpening n (attached_by false a) b) {x = 1 + (4 + opening_calls (layout_in a.held) (height_of a.held) + sync_calls (layout_in a.held))} (omega arith)
    (opening_behind 1 (4 + opening_calls (layout_in a.held) (height_of a.held) + sync_calls (layout_in a.held)) (4 + opening_calls (layout_in c.held) (height_of c.held) + sync_calls (layout_in c.held)) (attached_by false a) c b
    (weaken steps (λ d i left is. subst (Touched IsCleanPlace d) (sym is) (record { size = refl; rest = λ k out. refl }))) one told
    (ap (λ (x : List ℕ). 4 + opening_calls (layout_in x) (height_of x) + sync_calls (layout_in x)) same) (behind (ap (λ f. f.tells_held) steps.frame.fixed ∙ told)))
