-- What is read is validated where it lies. A fault leaves zeros, which are a segment without records.
use Rattle.std.proofs.Common.{◌≡◌, ◌≤◌, ◌+◌, ◌-◌, ◌*◌, ◌++◌, ℕ, List, length, take, drop, sym, ap, subst, ◌∙◌, arith}
use Rattle.std.proofs.lemmas.List.{length-drop, length-take-le, take-append-le, drop-append-le}
use Rattle.station.specs.Bytes.{Filled}
use Rattle.header_gate.specs.declared.layout.Layout.{Layout}
use Rattle.header_gate.specs.Places.{segment_place, segment_size}
use Rattle.key_slot.specs.Format.{format_of}
use Rattle.key_slot.specs.Record.{Bytes}
use Rattle.key_slot.specs.Segment.{IsSegment, segment_of}
use Rattle.segment.specs.Viewed.{IsValidated}
use Rattle.range_scan.specs.PageView.{pages_of}
use Rattle.range_scan.specs.Running.{pages_in}
use Rattle.range_scan.proofs.Held.{nothing_fits, none_validated, none_rows, none_is}
use Rattle.range_scan.proofs.Pages.{format_is, read_as}
use Rattle.range_scan.proofs.Runs.{behind_filled, first_filled, length-pages_of, pages_filled, pages_front, size_less}
use Rattle.range_scan.proofs.segment_buffer.SegmentBuffer.load.Goals as goal
use Rattle.range_scan.proofs.segment_buffer.SegmentBuffer.load.Goals.{After-clear_bytes, After-read_into}

-- A buffer of which the first bytes were read, and the first segment validated.
module _ (layout : Layout) (size count len : ℕ) (new rest : Bytes) (size_is : size ≡ segment_size layout) (some : 1 ≤ count) (whole : length new ≡ segment_size layout * count) (validated : IsValidated len (take (segment_size layout) new)) where
  within : segment_size layout ≤ length new
  within = omega (arith, whole, size_less (segment_size layout) count (omega (arith, some)))

  own_size : length (take (segment_size layout) new) ≡ segment_size layout
  own_size = length-take-le (segment_size layout) new within

  front : take size (new ++ rest) ≡ take (segment_size layout) new
  front = ap (λ (n : ℕ). take n (new ++ rest)) size_is ∙ take-append-le (segment_size layout) new rest within

  there : IsSegment layout.format (segment_of (format_of (take size (new ++ rest))) (take size (new ++ rest))) (take (segment_size layout) new)
  there = subst (λ (b : Bytes). IsSegment layout.format (segment_of (format_of b) b) (take (segment_size layout) new)) (sym front) (read_as layout.format (segment_of (format_of (take (segment_size layout) new)) (take (segment_size layout) new)) (take (segment_size layout) new) own_size validated.sound)

  kept_format : format_of (take size (new ++ rest)) ≡ layout.format
  kept_format = ap format_of front ∙ format_is layout.format (take (segment_size layout) new) own_size

  behind : (region i : ℕ) (file : List ℕ) → Filled (segment_place layout region i) file new → pages_of size (count - 1) (drop (0 + size) (new ++ rest)) ≡ pages_in layout region file (i + 1) (count - 1)
  behind region i file filled =
      (λ t. pages_of (size_is t) (count - 1) (drop (0 + size_is t) (new ++ rest)))
      ∙ ap (λ (k : ℕ). pages_of (segment_size layout) (count - 1) (drop k (new ++ rest))) {x = 0 + segment_size layout} {y = segment_size layout} (omega arith)
      ∙ ap (pages_of (segment_size layout) (count - 1)) (drop-append-le (segment_size layout) new rest within)
      ∙ pages_front (segment_size layout) (count - 1) (drop (segment_size layout) new) rest fewer
      ∙ pages_filled layout region (i + 1) (count - 1) file (drop (segment_size layout) new) (behind_filled layout region i file new filled) fewer
    where
      fewer : segment_size layout * (count - 1) ≤ length (drop (segment_size layout) new)
      fewer = omega (arith, whole, size_less (segment_size layout) count (omega (arith, some)), length-drop (segment_size layout) new)

-- all that was read
all_read : (g : _) (c : After-read_into g) → length c.read_into.new.bytes ≡ segment_size c.args.layout.now * c.args.count
all_read g c = omega (arith, c.read_into.auto.bytes, ap (λ (n : ℕ). n * c.args.count) c.segment_bytes-size.ensures, c.self.told, c.requires.run.room)

pub returns-in-Ok-clause-segment : goal.returns-in-Ok-clause-segment
returns-in-Ok-clause-segment g c told =
    let here = (goal.at.returns-in-Ok-clause-segment g c).After-read_into in
    let layout = c.args.layout.now in
    let page = first_filled layout c.args.region c.args.segment _ c.read_into.new.bytes (c.in-Ok.ensures.filled told) (within layout c.segment_bytes-size.result c.args.count c.in-Ok.len c.read_into.new.bytes (drop (c.segment_bytes-size.result * c.args.count) c.self.inside.bytes) c.segment_bytes-size.ensures c.requires.run.some (all_read g here) c.in-Ok.ensures.validated) in
    subst (IsSegment layout.format (segment_of (format_of (take c.segment_bytes-size.result (c.read_into.new.bytes ++ drop (c.segment_bytes-size.result * c.args.count) c.self.inside.bytes))) (take c.segment_bytes-size.result (c.read_into.new.bytes ++ drop (c.segment_bytes-size.result * c.args.count) c.self.inside.bytes)))) page (there layout c.segment_bytes-size.result c.args.count c.in-Ok.len c.read_into.new.bytes (drop (c.segment_bytes-size.result * c.args.count) c.self.inside.bytes) c.segment_bytes-size.ensures c.requires.run.some (all_read g here) c.in-Ok.ensures.validated)

pub returns-in-Ok-clause-along : goal.returns-in-Ok-clause-along
returns-in-Ok-clause-along g c told =
    let here = (goal.at.returns-in-Ok-clause-along g c).After-read_into in
    behind c.args.layout.now c.segment_bytes-size.result c.args.count c.in-Ok.len c.read_into.new.bytes (drop (c.segment_bytes-size.result * c.args.count) c.self.inside.bytes) c.segment_bytes-size.ensures c.requires.run.some (all_read g here) c.in-Ok.ensures.validated c.args.region c.args.segment _ (c.in-Ok.ensures.filled told)

pub returns-in-Ok-clause-reading : goal.returns-in-Ok-clause-reading
returns-in-Ok-clause-reading g c =
    let here = (goal.at.returns-in-Ok-clause-reading g c).After-read_into in
    let layout = c.args.layout.now in
    record {
      fits = (there layout c.segment_bytes-size.result c.args.count c.in-Ok.len c.read_into.new.bytes (drop (c.segment_bytes-size.result * c.args.count) c.self.inside.bytes) c.segment_bytes-size.ensures c.requires.run.some (all_read g here) c.in-Ok.ensures.validated).fits;
      format_is = kept_format layout c.segment_bytes-size.result c.args.count c.in-Ok.len c.read_into.new.bytes (drop (c.segment_bytes-size.result * c.args.count) c.self.inside.bytes) c.segment_bytes-size.ensures c.requires.run.some (all_read g here) c.in-Ok.ensures.validated;
      none = tt;
      others = omega (arith, c.requires.run.some, length-pages_of c.segment_bytes-size.result (c.args.count - 1) (drop (0 + c.segment_bytes-size.result) (c.read_into.new.bytes ++ drop (c.segment_bytes-size.result * c.args.count) c.self.inside.bytes)));
      steps = c.read_into.ensures.steps;
      reads = c.read_into.ensures.reads;
      calls = c.read_into.ensures.calls;
    }

-- the bytes of the segments are among those of the page
room : (g : _) (c : After-clear_bytes g) → c.segment_bytes-size.result + c.segment_bytes-size.result * (c.args.count - 1) ≤ length c.clear_bytes.new.bytes
room g c = omega (arith, c.clear_bytes.auto.bytes, c.read_into.auto.bytes, size_less c.segment_bytes-size.result c.args.count (omega (arith, c.requires.run.some)), ap (λ (n : ℕ). n * c.args.count) c.segment_bytes-size.ensures, c.self.told, c.requires.run.room)

pub invariant_of-self-in-Err : goal.invariant_of-self-in-Err
invariant_of-self-in-Err g c =
    let size = room g (goal.at.invariant_of-self-in-Err g c).After-clear_bytes in
    (omega (arith, size), none_validated c.args.layout.now c.requires.layout.format c.clear_bytes.new.bytes c.segment_bytes-size.result _ c.clear_bytes.ensures (omega (arith, size, c.clear_bytes.auto.bytes)) c.segment_bytes-size.ensures)

pub returns-in-Err-clause-reading : goal.returns-in-Err-clause-reading
returns-in-Err-clause-reading g c =
    let size = room g (goal.at.returns-in-Err-clause-reading g c).After-clear_bytes in
    let none = none_rows c.args.layout.now c.requires.layout.format c.clear_bytes.new.bytes c.segment_bytes-size.result _ c.clear_bytes.ensures (omega (arith, size, c.clear_bytes.auto.bytes)) c.segment_bytes-size.ensures in
    record {
      fits = nothing_fits c.args.layout.now.format _ none;
      format_is = none_is c.args.layout.now c.requires.layout.format c.clear_bytes.new.bytes c.segment_bytes-size.result _ c.clear_bytes.ensures (omega (arith, size, c.clear_bytes.auto.bytes)) c.segment_bytes-size.ensures;
      none = none;
      others = omega (arith, c.requires.run.some, length-pages_of c.segment_bytes-size.result (c.args.count - 1) (drop (0 + c.segment_bytes-size.result) c.clear_bytes.new.bytes));
      steps = c.read_into.ensures.steps;
      reads = c.read_into.ensures.reads;
      calls = c.read_into.ensures.calls;
    }
