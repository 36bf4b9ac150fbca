-- The leaving of an index in the file of a store over whose live region no page is to be laid.
use Rattle.std.proofs.Common.{◌≡◌, ◌⊎◌, inl, inr, ℕ, ◌+◌, ◌*◌, ◌^◌, ◌%◌, ◌≤◌, ◌&&◌, nat_le, false, List, refl, sym, ◌∙◌, ap, subst, arith}
use Rattle.std.specs.Prelude.{◌==◌}
use Rattle.station.specs.Bytes.{byte}
use Rattle.station.specs.View.{View, Told, EachHeld, NothingPending, Rose}
use Rattle.station.specs.Steps.{Steps}
use Rattle.station.proofs.Composition.{no_steps, weaken}
use Rattle.header_gate.specs.declared.layout.Layout.{Layout}
use Rattle.header_gate.specs.declared.layout.TheConstants.{INDEXED, INTENT_VERSION}
use Rattle.header_gate.specs.Header.{layout_in}
use Rattle.header_gate.specs.InPlace.{IsBare}
use Rattle.map_model.specs.ArrayState.{ArrayState}
use Rattle.map_model.specs.Image.{Represents, array_in}
use Rattle.map_model.specs.Store.{Map}
use Rattle.batch_intent.specs.Means.{Means, has_waiting}
use Rattle.batch_intent.proofs.Meanings.{means_idle, in_layout}
use Rattle.index_file.specs.Clean.{IsLeft, IsShut, Leaves}
use Rattle.index_file.specs.Leaving.{IsReady}
use Rattle.index_file.proofs.CleanLaws.{clean_shut}
use Rattle.index_file.proofs.Kept as kept
use Rattle.command_text.specs.Session.{Session}
use Rattle.command_text.specs.declared.command.Command.{Command}
use Rattle.pma_store.specs.StoreView.{StoreView, Stands, IsOpenOn}
use Rattle.pma_store.proofs.Moments.{idle_even}
use Rattle.pma_engine.specs.Closing.{LeavesIndex}
use Rattle.pma_engine.specs.Serving.{IsAtState}
use Rattle.pma_engine.specs.Headline.{ExactHeadline}
use Rattle.pma_engine.specs.declared.status.TheConstants.{DONE, DISK_FAULT}
use Rattle.index_file.specs.IndexReading.{area_calls}
use Rattle.pma_engine.proofs.Closing.{leaving_called, leaving_some}
use Rattle.pma_engine.proofs.Upgrading.{represents_idle}

-- The leaving itself.

-- a file without room for an index
pub leaves_none : (s : StoreView) (a : View) → NothingPending a → EachHeld IsShut a → (INDEXED ≤ s.place.layout.version → ⊥) → LeavesIndex DONE s a a
leaves_none s a nothing shut other = record {
  status_is = inl refl;
  steps = weaken (no_steps a) (λ d i may same. subst (Leaves s.place.layout d) (sym same) (record { touched = record { size = refl; rest = λ k out. refl }; clean = clean_shut d (shut d may) }));
  left = λ e told is. absurd (other is);
  settled = λ e. nothing;
  cost = omega arith;
  unread = refl;
  calls = omega arith;
  disk = λ e. absurd (omega (arith, e));
}

-- one whose index may be left
pub ready_of : (s : StoreView) (a : View) → IsOpenOn s a → EachHeld (IsBare s.place.layout) a → EachHeld IsShut a → INDEXED ≤ s.place.layout.version → EachHeld (IsReady s.place.layout s.place.region s.tally s.index) a
ready_of s a open_yet bare shut is image may =
    let stands = open_yet.on.stands image may in
    let version : INDEXED ≤ (layout_in image).version = omega (arith, is, ap (λ (l : Layout). l.version) stands.balanced.stands.settled.layout_is) in
    record {
      stands = stands.balanced;
      index_is = stands.index;
      bare = bare image may;
      intent_even = idle_even image (omega (arith, version)) (open_yet.no_intent image may);
      clean_even = shut image may (version, stands.balanced.stands.settled.represents.header.version);
    }

pub leaves_by : (status : ℕ) (s : StoreView) (a b : View) → INDEXED ≤ s.place.layout.version → (status ≡ DONE) ⊎ (status ≡ DISK_FAULT) → Steps (Leaves s.place.layout) a b → (status ≡ DONE → Told a → IsLeft b.held) → (status ≡ DONE → Told a → byte b.held 704 ≡ 1)
    → (status ≡ DONE → NothingPending b) → b.travel.written ≤ a.travel.written + (68 * 2 ^ s.tally.height + 1) → b.travel.read ≡ a.travel.read → b.calls ≤ a.calls + (area_calls s.tally.height + 3) → (status ≡ DISK_FAULT → Rose a.disk_faults b.disk_faults) → LeavesIndex status s a b
leaves_by status s a b is status_is steps left opened settled cost unread calls disk = record {
  status_is = status_is;
  steps = steps;
  left = λ e told version. (left e told, ap (λ (k : ℕ). k % 2) (opened e told));
  settled = settled;
  cost = omega (arith, cost, leaving_some s.place.layout s.tally.height is);
  unread = unread;
  calls = omega (arith, calls, leaving_called s.place.layout s.tally.height is);
  disk = disk;
}

-- What it keeps of the file.

module _ (s : StoreView) (old new : List ℕ) (stands : Stands s old) (idle : has_waiting old ≡ false) (bare_old : IsBare s.place.layout old) (leaves : Leaves s.place.layout old new) where
  module _ (m : Map) (height : ℕ) (is : Represents old m height) where
    layout_is : layout_in old ≡ s.place.layout
    layout_is = stands.balanced.stands.settled.layout_is

    bare : IsBare (layout_in old) old
    bare = subst (λ (l : Layout). IsBare l old) (sym layout_is) bare_old

    represents : Represents new m height
    represents = kept.still_represents s.place.layout old new m height is bare layout_is leaves.touched

    layout_kept : layout_in new ≡ layout_in old
    layout_kept = kept.layout_same s.place.layout old new m height is bare layout_is leaves.touched

    array_same : array_in new height ≡ array_in old height
    array_same = kept.array_same s.place.layout old new m height is bare layout_is leaves.touched

    still_idle : has_waiting new ≡ false
    still_idle = (λ t. nat_le INTENT_VERSION ((layout_kept t).version) && (kept.intent_same s.place.layout old new m height is bare layout_is leaves.touched t == 1)) ∙ idle

  -- the map that it means
  pub map_left : (l : Layout) (m : Map) → Means l old m → Means l new m
  map_left l m means =
      let h = means.height in
      let is = represents_idle old m means idle in
      in_layout new m (layout_kept m h is ∙ means.layout_is) (means_idle new m h (represents m h is) (still_idle m h is))

  -- and its state
  pub state_left : (l : Layout) (x : ArrayState) → IsAtState l x old → IsAtState l x new
  state_left l x at = record {
    layout_is = layout_kept x.map x.height at.has.represents ∙ at.layout_is;
    has = record { represents = represents x.map x.height at.has.represents; array_is = array_same x.map x.height at.has.represents ∙ at.has.array_is };
    balanced = at.balanced;
  }

-- a pair of a script goes on, where the image means what it meant
pub headline_left : (l : Layout) (x : Session) (cs : List Command) (before old new said : List ℕ) → ((m : Map) → Means l old m → Means l new m) → ExactHeadline l x cs before old said → ExactHeadline l x cs before new said
headline_left l x cs before old new said moved here = record {
  new = here.new;
  rest = here.rest;
  said_is = here.said_is;
  front = here.front;
  stands = elim here.stands [ inl is ↦ inl (moved _ is) | inr is ↦ inr (moved _ is) ];
}
