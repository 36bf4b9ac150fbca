-- What an opening leaves of a file, whose intent it applies.
use Rattle.std.specs.Prelude.{◌≡◌, ◌⊎◌, ℕ, ◌^◌, ◌+◌, ◌≤◌, true, false, List, length, take, Some}
use Rattle.station.specs.Bytes.{Touched}
use Rattle.station.specs.View.{View}
use Rattle.batch_intent.specs.Means.{Means, has_waiting, opening_reason, waiting}
use Rattle.header_gate.specs.declared.layout.Layout.{Layout}
use Rattle.header_gate.specs.declared.reason.Reason.{Reason}
use Rattle.header_gate.specs.Header.{layout_in}
use Rattle.header_gate.specs.Places.{height_limit}
use Rattle.header_gate.specs.Recovered.{recovered}
use Rattle.map_model.specs.Array.{counts_of}
use Rattle.map_model.specs.ArrayState.{opened_state}
use Rattle.map_model.specs.Store.{Map}
use Rattle.recovery.specs.OpeningCosts.{opening_cost}
use Rattle.recovery.specs.Restores.{IsAtRest, Opens}
use Rattle.recovery.specs.declared.fault.OpenFault.{OpenFault}
use Rattle.recovery.specs.declared.fault.OpenFault.TheVariants.{Memory, Failed, NotStore, Damaged}
use Rattle.segment.specs.declared.fault.StoreFault.TheVariants as store
use Rattle.window_tally.specs.TallyView.{TallyView}
use Rattle.pma_store.specs.BatchCalls.{IsForItems}
use Rattle.pma_store.specs.Costing.{WritesSome, most_of}
use Rattle.pma_store.specs.ItemsMade.{IsItemPlace}
use Rattle.pma_store.specs.Looking.{TellsOther}

-- What an opening leaves of a file, at every moment and at the return.
pub record OpensMeant (old new : List ℕ) : Type 0 where
  -- Of a file that means a map: the image has its layout and means the same map.
  pub means : (l : Layout) (m : Map) → Means l old m → Means l new m
  -- If something is wrong with the old one or its intent, it recovers to what the old one recovered to.
  pub recovers : (r : Reason) → opening_reason old ≡ Some r → recovered (layout_in old) new ≡ recovered (layout_in old) old
  -- No byte differs but those of an update's places and of the intent's gate.
  pub touched : Touched (IsItemPlace (layout_in old)) old new
  -- If no intent is to be applied, it represents what the old one represented, and no byte differs but those of the journal's
  -- gate, journal and regions.
  pub idle : has_waiting old ≡ false → Opens old new

-- Nothing is to be done to the file: no page is to be replayed over its live region, every window is within its bounds, and no intent
-- is to be applied.
pub record IsAllAtRest (image : List ℕ) : Type 0 where
  pub rest : IsAtRest image
  pub no_intent : has_waiting image ≡ false

-- What an opening writes at most.
pub record WritesOpening (image : List ℕ) (before after : ℕ) : Type 0 where
  -- If no intent is to be applied, at most `4096 * J + 1` bytes for a replay with a journal of J pages, and `(4 * 2^H - 2) *
  -- (16392 * F + 6)` for a repair, by the greatest height H of the layout and slots of format F, whatever is answered.
  pub back : has_waiting image ≡ false → after ≤ before + opening_cost (layout_in image)
  -- Over any file, whatever is answered, these, one byte for the intent's gate, and the cost of some first items, each in the
  -- state before it.
  pub items : WritesSome (layout_in image) (opened_state image) (waiting image) (before + opening_cost (layout_in image) + 1) after

-- what it writes at most in a file with this layout, whatever is told: as many items as an intent has, and one byte for its gate
abbrev pub most_opening : Layout → ℕ
most_opening l = opening_cost l + (most_of l 16 + 1)

-- the tally of a store as an opening makes it of an image, before the items: the counts of its array, and no mark
abbrev pub opened_tally : List ℕ → TallyView
opened_tally image = record { hmax = height_limit (layout_in image); height = (opened_state image).height; counts = counts_of (opened_state image).array; marks = (opened_state image).marks }

-- That many calls are those of some first items of those that are to be applied, from the state on that an opening makes
-- of the file.
pub record AreForPending (a : View) (calls : ℕ) : Type 0 where
  pub begun : ℕ
  pub some : begun ≤ length (waiting a.held)
  pub last : TallyView
  pub are_for : IsForItems (layout_in a.held) a (opened_state a.held) (opened_tally a.held) (take begun (waiting a.held)) last calls

-- An opening makes that many calls at most; where items are to be applied, besides those of the items and two for the intent's gate.
abbrev pub CallsOpening : ℕ → View → View → Type 0
CallsOpening back a b = (b.calls ≤ a.calls + back) ⊎ ((items : ℕ) × (has_waiting a.held ≡ true) × AreForPending a items × (b.calls ≤ a.calls + back + items + 2))

-- damage names a segment that a file may have, and a slot that a segment has; where it is another count, the two numbers differ
abbrev pub TellsOtherCount : OpenFault → Type 0
TellsOtherCount (Damaged segment why) = TellsOther (2 ^ 16) (store.Damaged segment why)
TellsOtherCount Memory = Unit {0}
TellsOtherCount Failed = Unit {0}
TellsOtherCount (NotStore reason) = Unit {0}
