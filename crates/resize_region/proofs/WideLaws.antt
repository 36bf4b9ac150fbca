-- A layout in slots of format 2: the same file, of which a region has half as many segments.
use Rattle.std.proofs.Common.{◌≡◌, ℕ, ◌≤◌, List, refl, sym, ◌∙◌, arith}
use Rattle.key_slot.specs.Format.{narrow, wide}
use Rattle.key_slot.specs.Record.{Record}
use Rattle.key_slot.specs.Segment.{FitsSegment}
use Rattle.segment.proofs.Filling.{all_wider}
use Rattle.header_gate.specs.declared.layout.Layout.{Layout}
use Rattle.header_gate.specs.Places.{IsLayout, file_length, area_size, journal_shift}
use Rattle.map_model.specs.Regions.{Spares}
use Rattle.redo_journal.specs.declared.place.Place.{Place}
use Rattle.redo_journal.specs.Commit.{IsAt}
use Rattle.resize_region.specs.Upgraded.{widened, in_wide}

pub wide_layout : (l : Layout) → IsLayout l → 1 ≤ l.hmax → IsLayout (widened l)
wide_layout l is some = record {
  hmax = is.hmax;
  least = is.least;
  most = is.most;
  format = record { least = omega arith; most = omega arith; room = omega (arith, some) };
  first = is.first;
  last = is.last;
}

pub wide_length : (l : Layout) → file_length (widened l) ≡ file_length l
unfolding area_size journal_shift
wide_length l = refl

pub wide_at : (place : Place) (image : List ℕ) → IsAt place image → IsAt (in_wide place) image
wide_at place image is = record { size = is.size ∙ sym (wide_length place.layout); region_is = is.region_is }

-- what differs beside the live parts does so at either format
pub wide_spares : (l : Layout) (region : ℕ) (old new : List ℕ) → Spares (widened l) region old new → Spares l region old new
unfolding journal_shift
wide_spares l region old new spares = record { live_is = spares.live_is; touched = spares.touched }

-- what fits a segment of format 1 fits one of format 2
pub wide_fits : (rows : List Record) → FitsSegment narrow rows → FitsSegment wide rows
wide_fits rows fits = record { most = fits.most; records = all_wider rows fits.records; ascending = fits.ascending }
