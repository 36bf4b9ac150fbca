-- A value that is found is that of a record which fits.
use Rattle.std.proofs.Common.{◌≡◌, ℕ, List, T, Option, Some, None, Bor, ap, subst, sym, ◌∙◌, arith}
use Rattle.std.proofs.Math.Pow.{pow_mono}
use Rattle.header_gate.specs.Places.{height_limit}
use Rattle.std.specs.Prelude.{IfSome, IfNone}
use Rattle.std.specs.List.{list_all}
use Rattle.key_slot.specs.Record.{Bytes, Record, is_record}
use Rattle.key_slot.specs.Segment.{segment_of}
use Rattle.segment.specs.Rows.{value_of}
use Rattle.segment.specs.Validated.{damage_of}
use Rattle.station.specs.View.{Told}
use Rattle.range_scan.specs.RegionReading.{page_in}
use Rattle.range_scan.proofs.Held.{found_fits}
use Rattle.range_scan.proofs.segment_buffer.SegmentBuffer.get.Goals as goal

fits : (f : ℕ) (rows : List Record) (key : Bytes) (found : Option (Bor (List ℕ))) → T (list_all (is_record f) rows) → IfSome found (λ value. value_of key rows ≡ Some value.now) → IfSome found (λ value. T (is_record f (key, value.now)))
fits f rows key (Some value) all is = found_fits f rows key value.now all is
fits f rows key None all is = tt

some : {P : Type 0} (rows page : List Record) (key : Bytes) (found : Option (Bor (List ℕ))) → (P → rows ≡ page) → IfSome found (λ value. value_of key rows ≡ Some value.now) → IfSome found (λ value. P → value_of key page ≡ Some value.now)
some rows page key (Some value) same is = λ told. ap (value_of key) (sym (same told)) ∙ is
some rows page key None same is = tt

none : {P : Type 0} (rows page : List Record) (key : Bytes) (found : Option (Bor (List ℕ))) → (P → rows ≡ page) → IfNone found (value_of key rows ≡ None) → IfNone found (P → value_of key page ≡ None)
none rows page key (Some value) same is = tt
none rows page key None same is = λ told. ap (value_of key) (sym (same told)) ∙ is

pub read-requires-clause-segment : goal.read-requires-clause-segment
read-requires-clause-segment g c =
    omega (arith, c.requires.segment, pow_mono {i = c.args.region.now.tally.now.height} {j = height_limit c.args.region.now.layout.now} c.requires.height)

pub returns : goal.returns
returns g c =
    let a = g.S.Station.view c.args.station.now in
    let layout = c.args.region.now.layout.now in
    let page = segment_of layout.format (page_in layout c.args.region.now.number a.held c.args.segment) in
    let same : Told a → c.rows.result ≡ page = λ told. c.rows.ensures ∙ c.in_ok-read.ensures.rows told in
    record {
      some = some c.rows.result page c.args.key.now c.value.result same c.value.ensures.some;
      none = none c.rows.result page c.args.key.now c.value.result same c.value.ensures.none;
      fits = fits layout.format c.rows.result c.args.key.now c.value.result (subst (λ (rows : List Record). T (list_all (is_record layout.format) rows)) (sym c.rows.ensures) c.read.ensures.fits.records) c.value.ensures.some;
      sound = λ told. subst (λ (n : ℕ). damage_of layout.format (page_in layout c.args.region.now.number a.held c.args.segment) n ≡ None)
          c.kept_count-kept.ensures.count (c.in_ok-read.ensures.sound told);
      damaged = tt;
      steps = c.read.ensures.steps;
      reads = c.read.ensures.reads;
      calls = c.read.ensures.calls;
    }
