use Rattle.std.proofs.Common.{arith, ◌≡◌, inl, inr, refl, ℕ, ◌+◌, ◌-◌, ◌*◌, ◌^◌, ◌≤◌, List, length, sym, ap, subst, ◌∙◌}
use Rattle.std.proofs.lemmas.Result.{err_from_is_err_and}
use Rattle.key_slot.specs.Segment.{IsSegment}
use Rattle.header_gate.specs.Places.{height_limit, segment_size}
use Rattle.redo_journal.specs.Frames.{Batch}
use Rattle.resize_region.specs.Spare.{spare_bytes}
use Rattle.resize_region.specs.Shares.{places}
use Rattle.resize_region.proofs.OldRowLaws.{never_failed, failed_is}
use Rattle.bulk_load.specs.Packing.{packed_at}
use Rattle.bulk_load.proofs.PackLaws.{few_segments}
use Rattle.bulk_load.proofs.PackedLaws as laws
use Rattle.segment_frames.proofs.PartLaws.{parts_more}
use Rattle.bulk_load.specs.Spreading.{TriesParts, used_by}
use Rattle.bulk_load.proofs.packed.read_packed.Goals as goal
use Rattle.bulk_load.proofs.packed.read_packed.Goals.{After-min-count, After-read_spare}

-- the segments that are read
inside : (g : _) (c : After-min-count g) → c.args.packed.now.unread ≤ 2 ^ height_limit c.args.place.now.layout
inside g c = omega (arith, c.requires.packed.few, c.requires.packed.within, c.requires.fits)

some : (g : _) (c : After-min-count g) → 1 ≤ c.min-count.result
some g c = laws.read_some c.args.place.now.layout.format c.args.records c.args.frames.now c.args.frames.now c.args.packed.now c.min-count.result c.requires.packed c.requires.none c.requires.some c.min-count.ensures

pub read_spare-requires-clause-room : goal.read_spare-requires-clause-room
read_spare-requires-clause-room g c = omega (arith, c.min-count.ensures, c.requires.packed.room)

pub read_spare-requires-clause-some : goal.read_spare-requires-clause-some
read_spare-requires-clause-some g c = some g (goal.at.read_spare-requires-clause-some g c).After-min-count

pub read_spare-requires-clause-inside : goal.read_spare-requires-clause-inside
read_spare-requires-clause-inside g c = omega (arith, c.min-count.ensures, inside g (goal.at.read_spare-requires-clause-inside g c).After-min-count)

pub validate_packed-requires-clause-format : goal.validate_packed-requires-clause-format
validate_packed-requires-clause-format g c = c.requires.packed.shares.held.known

pub validate_packed-requires-clause-within : goal.validate_packed-requires-clause-within
validate_packed-requires-clause-within g c = omega (arith, c.min-count.ensures, c.requires.packed.room, ap (λ (b : Batch). places c.args.place.now.layout.format b) c.read_spare.ensures.rest)

pub validate_packed-requires-clause-small : goal.validate_packed-requires-clause-small
validate_packed-requires-clause-small g c = omega (arith, c.min-count.ensures, inside g (goal.at.validate_packed-requires-clause-small g c).After-min-count, few_segments c.args.place.now.layout c.requires.can.layout)

-- their bytes
whole : (g : _) (c : After-read_spare g) → (g.S.Station.view c.read_spare.new.station).travel.read + segment_size c.args.place.now.layout * (c.args.packed.now.unread - c.min-count.result) ≤ (g.S.Station.view c.args.station.now).travel.read + segment_size c.args.place.now.layout * c.args.packed.now.unread
whole g c =
    let size = segment_size c.args.place.now.layout in
    let rest = c.args.packed.now.unread - c.min-count.result in
    let all : c.args.packed.now.unread ≡ c.min-count.result + rest = omega (arith, c.min-count.ensures) in
    let split : size * (c.min-count.result + rest) ≡ size * c.min-count.result + size * rest = omega arith in
    omega (arith, c.read_spare.ensures.read_bytes, ap (λ (n : ℕ). size * n) all, split)

bytes : (g : _) (c : After-read_spare g) → (g.S.Station.view c.read_spare.new.station).travel.read ≤ (g.S.Station.view c.args.station.now).travel.read + segment_size c.args.place.now.layout * c.args.packed.now.unread
bytes g c = omega (arith, whole g c)

pub returns-in_err-read_spare-clause-reads : goal.returns-in_err-read_spare-clause-reads
returns-in_err-read_spare-clause-reads g c =
    let p = err_from_is_err_and c.from_residual.result c.from_residual.ensures.1 in
    rw (p.1, p.2) (record {
      packed = tt;
      are = tt;
      room = refl;
      unread = omega arith;
      rest = c.read_spare.ensures.rest;
      steps = c.read_spare.ensures.steps;
      unwritten = c.read_spare.ensures.unwritten;
      read = tt;
      most_read = bytes g (goal.at.returns-in_err-read_spare-clause-reads g c).After-read_spare;
      damaged = λ told rows are. c.in_err-read_spare.ensures.fault;
      cause = inl c.in_err-read_spare.ensures.fault;
      failed = c.in_err-read_spare.ensures.failed;
    })

pub returns-in_err-validate_packed-clause-reads : goal.returns-in_err-validate_packed-clause-reads
returns-in_err-validate_packed-clause-reads g c =
    let p = err_from_is_err_and c.from_residual-in_err-validate_packed.result c.from_residual-in_err-validate_packed.ensures.1 in
    let format = c.args.place.now.layout.format in
    let s = c.args.packed.now in
    let bad = c.in_err-validate_packed.ensures.fault in
    let lt = bad.1 in
    rw (p.1, p.2) (record {
      packed = tt;
      are = tt;
      room = refl;
      unread = omega arith;
      rest = c.read_spare.ensures.rest;
      steps = c.read_spare.ensures.steps;
      unwritten = c.read_spare.ensures.unwritten;
      read = tt;
      most_read = bytes g (goal.at.returns-in_err-validate_packed-clause-reads g c).After-read_spare;
      damaged = λ told rows are.
          absurd (laws.read_good format c.args.records c.args.frames.now c.read_spare.new.frames s c.min-count.result c.requires.packed c.requires.none c.requires.some c.min-count.ensures c.args.place.now rows (g.S.Station.view c.args.station.now).held refl are
          (c.in_ok-read_spare.ensures.read told) bad.0 lt c.in_err-validate_packed.field-0.0 bad.2);
      cause = inr (record {
        f = bad.0;
        segment = s.unread - c.min-count.result + bad.0;
        within = omega (arith, lt, c.min-count.ensures, c.requires.packed.room, ap (λ (b : Batch). places format b) c.read_spare.ensures.rest);
        there = laws.read_there format c.args.records c.args.frames.now c.read_spare.new.frames s c.min-count.result c.requires.packed c.requires.none c.requires.some c.min-count.ensures (s.unread - c.min-count.result + bad.0) (omega (arith, lt, c.min-count.ensures));
        shows = bad.2;
      });
      failed = λ is. absurd (laws.shown_is_damage _ _ _ _ c.in_err-validate_packed.field-0.0 bad.2 (failed_is {T = Unit {0}} c.in_err-validate_packed.field-0.0 is));
    })

pub returns-clause-reads : goal.returns-clause-reads
returns-clause-reads g c =
    let format = c.args.place.now.layout.format in
    let old = c.args.frames.now in
    let new = c.read_spare.new.frames in
    let s = c.args.packed.now in
    let n = c.min-count.result in
    let few : n ≤ places format old = omega (arith, c.min-count.ensures, c.requires.packed.room) in
    let held = c.in_ok-validate_packed.ensures.held in
    let shares = laws.read_shares format old new n new.slots c.requires.packed.shares few c.read_spare.ensures.rest c.read_spare.ensures.frames c.read_spare.ensures.behind held in
    let share = laws.read_share format old new n new.slots c.requires.packed.shares few c.read_spare.ensures.rest c.read_spare.ensures.frames c.read_spare.ensures.behind held in
    let other = laws.read_other format old new n new.slots c.requires.packed.shares few c.read_spare.ensures.rest c.read_spare.ensures.frames c.read_spare.ensures.behind held in
    record {
      packed = laws.read_packed format c.args.records old new s n c.requires.packed c.requires.none c.requires.some c.min-count.ensures shares (ap (λ (b : Batch). places format b) c.read_spare.ensures.rest)
          (λ i lt. ap length (share i lt) ∙ c.in_ok-validate_packed.ensures.counts i lt) other;
      are = λ told rows are. record {
        are_rows = are.are_rows;
        count = are.count;
        unread = λ i lt. subst (λ (file : List ℕ). IsSegment format (packed_at rows i) (spare_bytes c.args.place.now i file)) (sym (c.read_spare.ensures.steps.held told)) (are.unread i (omega (arith, lt)));
        held =
            laws.read_holds format c.args.records old new s n c.requires.packed c.requires.none c.requires.some c.min-count.ensures c.args.place.now rows (g.S.Station.view c.args.station.now).held refl are (c.in_ok-read_spare.ensures.read told) share other;
      };
      room = refl;
      unread = omega arith;
      rest = c.read_spare.ensures.rest;
      steps = c.read_spare.ensures.steps;
      unwritten = c.read_spare.ensures.unwritten;
      read = whole g (goal.at.returns-clause-reads g c).After-read_spare;
      most_read = bytes g (goal.at.returns-clause-reads g c).After-read_spare;
      damaged = tt;
      cause = tt;
      failed = λ is. absurd (never_failed {T = Unit {0}} tt is);
    }

pub returns-clause-onward : goal.returns-clause-onward
returns-clause-onward g c = omega (arith, some g (goal.at.returns-clause-onward g c).After-min-count, c.min-count.ensures)

pub returns-clause-others : goal.returns-clause-others
returns-clause-others g c i le lt =
    let format = c.args.place.now.layout.format in
    let old = c.args.frames.now in
    let new = c.read_spare.new.frames in
    let n = c.min-count.result in
    let few : n ≤ places format old = omega (arith, c.min-count.ensures, c.requires.packed.room) in
    laws.read_other format old new n new.slots c.requires.packed.shares few c.read_spare.ensures.rest c.read_spare.ensures.frames c.read_spare.ensures.behind c.in_ok-validate_packed.ensures.held i (omega (arith, le, c.min-count.ensures)) lt

pub returns-clause-calls : goal.returns-clause-calls
returns-clause-calls g c made is =
    let s = c.args.packed.now in
    let is_packed = c.requires.packed in (
      made + 1,
      parts_more s.room (used_by c.args.records) (used_by c.args.records - s.unread) _ made is_packed.some is (omega (arith, is_packed.few, is_packed.within, c.requires.none, c.requires.some))
          (λ more. omega (arith, more, c.min-count.ensures, is_packed.few, is_packed.within)),
      omega (arith, c.read_spare.ensures.calls),
    )

-- Whatever came of the reading, it was one call.

tried : (g : _) (c : After-read_spare g) → TriesParts c.args.packed.now.room (used_by c.args.records) (used_by c.args.records - c.args.packed.now.unread) (g.S.Station.view c.args.station.now).calls (g.S.Station.view c.read_spare.new.station).calls
tried g c =
    let s = c.args.packed.now in
    let is_packed = c.requires.packed in (
      used_by c.args.records - (s.unread - c.min-count.result),
      (λ made is. (
        made + 1,
        parts_more s.room (used_by c.args.records) (used_by c.args.records - s.unread) (used_by c.args.records - (s.unread - c.min-count.result)) made is_packed.some is (omega (arith, is_packed.few, is_packed.within, c.requires.none, c.requires.some))
            (λ more. omega (arith, more, c.min-count.ensures, is_packed.few, is_packed.within)),
        omega (arith, c.read_spare.ensures.calls),
      )),
    )

pub returns-in_err-read_spare-clause-tried : goal.returns-in_err-read_spare-clause-tried
returns-in_err-read_spare-clause-tried g c = tried g (goal.at.returns-in_err-read_spare-clause-tried g c).After-read_spare

pub returns-in_err-validate_packed-clause-tried : goal.returns-in_err-validate_packed-clause-tried
returns-in_err-validate_packed-clause-tried g c = tried g (goal.at.returns-in_err-validate_packed-clause-tried g c).After-read_spare

pub returns-clause-tried : goal.returns-clause-tried
returns-clause-tried g c = tried g (goal.at.returns-clause-tried g c).After-read_spare
