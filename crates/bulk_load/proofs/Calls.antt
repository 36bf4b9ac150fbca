-- Calls one after another that write into the region that isn't live alone.
use Rattle.std.proofs.Common.{arith, ◌≡◌, ℕ, List, sym, ap, subst, ◌∙◌}
use Rattle.station.specs.Bytes.{Same}
use Rattle.station.specs.View.{View, Fixed, EachHeld}
use Rattle.station.specs.Steps.{Steps}
use Rattle.station.proofs.Composition.{no_steps, weaken, andthen, each_on}
use Rattle.redo_journal.specs.declared.place.Place.{Place}
use Rattle.redo_journal.specs.Commit.{IsAt}
use Rattle.redo_journal.specs.Frames.{Batch}
use Rattle.map_model.specs.Regions.{Spares}
use Rattle.resize_region.proofs.FreeRuns.{free_same, free_on}
use Rattle.bulk_load.specs.Packing.{CanFill}

pub at_kept : (place : Place) (old new : List ℕ) → IsAt place old → Spares place.layout place.region old new → IsAt place new
at_kept place old new is spares = record { size = spares.touched.size ∙ is.size; region_is = spares.live_is }

module _ (place : Place) {a b : View} (live : EachHeld (IsAt place) a) where
  pub same_spares : Steps Same a b → Steps (Spares place.layout place.region) a b
  same_spares steps = weaken steps (λ d i left same. subst (Spares place.layout place.region d) (sym same) (subst (λ (region : ℕ). Spares place.layout region d d) (live d left).region_is (free_same place.layout d)))

  pub live_on : Steps (Spares place.layout place.region) a b → EachHeld (IsAt place) b
  live_on steps = each_on (IsAt place) (IsAt place) steps live (λ d i is step. at_kept place d i is step)

pub none_spares : (place : Place) (a : View) → EachHeld (IsAt place) a → Steps (Spares place.layout place.region) a a
none_spares place a live = same_spares place live (no_steps a)

pub spares_on : (place : Place) {a b c : View} → Steps (Spares place.layout place.region) a b → Steps (Spares place.layout place.region) b c → Steps (Spares place.layout place.region) a c
spares_on place one two = andthen one two (λ d i left step. step) (λ d e i left first mid second. free_on place.layout place.region d e i first second)

-- what was asked for the first call holds for the next one
pub fill_on : (place : Place) (f g : Batch) {a b : View} → CanFill place f a → g.journal ≡ f.journal → Steps (Spares place.layout place.region) a b → CanFill place g b
fill_on place f g can same steps = record {
  layout = can.layout;
  region = can.region;
  reach = omega (arith, can.reach, ap (λ (x : Fixed). x.reach) steps.frame.fixed);
  journal = same ∙ can.journal;
  live = live_on place can.live steps;
}

pub fill_same : (place : Place) (f g : Batch) {a b : View} → CanFill place f a → g.journal ≡ f.journal → Steps Same a b → CanFill place g b
fill_same place f g can same steps = fill_on place f g can same (same_spares place can.live steps)
