-- What an opening writes at most, whatever is told.
use Rattle.std.proofs.Common.{◌≡◌, ℕ, ◌+◌, ◌-◌, ◌*◌, ◌^◌, ◌≤◌, sym, subst, arith}
use Rattle.std.proofs.Math.Pow.{pow_mono}
use Rattle.header_gate.specs.declared.layout.Layout.{Layout}
use Rattle.header_gate.specs.declared.layout.TheConstants.{GREATEST_HEIGHT}
use Rattle.header_gate.specs.Places.{IsFormat, IsLayout, height_limit}
use Rattle.header_gate.proofs.PagedSegments.{each_format}
use Rattle.key_slot.proofs.SegmentLaws.{times_up}
use Rattle.recovery.specs.OpeningCosts.{opening_cost, greatest_layout}
use Rattle.pma_store.specs.Changing.{most_written}
use Rattle.pma_store.specs.Costing.{most_of}
use Rattle.pma_store.specs.Opens.{most_opening}

-- the updates of no layout write more than those of the greatest
most_slots : (hmax format : ℕ) → hmax ≤ GREATEST_HEIGHT → IsFormat hmax format → (65568 * format + 24) * 2 ^ (hmax + 1 - format) ≤ 65592 * 2 ^ GREATEST_HEIGHT
most_slots hmax format low is = each_format (λ f. (65568 * f + 24) * 2 ^ (hmax + 1 - f) ≤ 65592 * 2 ^ GREATEST_HEIGHT) hmax format is
    (times_up 65592 (2 ^ (hmax + 1 - 1)) (2 ^ 16) (pow_mono {i = hmax + 1 - 1} {j = 16} (omega (arith, low))))
    (λ some. omega (arith, times_up 131160 (2 ^ (hmax + 1 - 2)) (2 ^ 15) (pow_mono {i = hmax + 1 - 2} {j = 15} (omega (arith, low)))))

most_items : (l : Layout) → IsLayout l → most_of l 16 ≤ most_of greatest_layout 16
most_items l is = omega (arith, most_slots l.hmax l.format is.hmax is.format)

pub opening_within : (l : Layout) → IsLayout l → (before mid after items : ℕ) → items ≤ 16 → mid ≤ before + opening_cost greatest_layout → after ≤ mid + (most_of l items + 1) → after ≤ before + most_opening greatest_layout
opening_within l is before mid after items few one two = omega (arith, one, two, times_up (most_written l (height_limit l)) items 16 few, most_items l is)

pub opening_written : (l m : Layout) → m ≡ l → (before mid after items : ℕ) → items ≤ 16 → mid ≤ before + opening_cost l → after ≤ mid + (most_of l items + 1) → after ≤ before + most_opening m
opening_written l m e before mid after items few one two = subst (λ (x : Layout). after ≤ before + most_opening x) (sym e) (omega (arith, one, two, times_up (most_written l (height_limit l)) items 16 few))
