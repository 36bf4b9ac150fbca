use Rattle.std.proofs.Common.{◌≡◌, ◌+◌, ◌^◌, inl, Bool, cond, length, Some, refl, sym, ap, subst, ◌∙◌, arith, sum, take, ℕ}
use Rattle.std.specs.Prelude.{Result}
use Rattle.std.proofs.lemmas.Result.{err_from_is_err_and}
use Rattle.station.proofs.Composition.{told_on}
use Rattle.key_slot.specs.Record.{IsAscending}
use Rattle.map_model.specs.Array.{Array}
use Rattle.map_model.specs.Image.{array_of}
use Rattle.range_scan.specs.RegionReaderView.{ReaderView}
use Rattle.window_tally.specs.TallyView.{TallyView}
use Rattle.resize_region.proofs.OldRowLaws.{own_size}
use Rattle.bulk_load.specs.declared.ahead.Ahead.{Ahead}
use Rattle.bulk_load.specs.declared.fault.LoadFault.{LoadFault}
use Rattle.bulk_load.specs.declared.run.MergeRun.{MergeRun}
use Rattle.bulk_load.specs.Ahead.{IsAbove, ReadsLive, at_hand, begins_with, left_in, hand, read_by, passed}
use Rattle.bulk_load.specs.Amid.{Goes, MeetsKey}
use Rattle.bulk_load.specs.MergeText.{above}
use Rattle.bulk_load.proofs.AheadLaws.{above_over, ascending_left, left_with}
use Rattle.bulk_load.proofs.AmidLaws.{array_on}
use Rattle.bulk_load.proofs.CopyLaws.{disk_as, disk_is, never_disk}
use Rattle.bulk_load.proofs.PassLaws.{pass_above, pass_left, pass_live, pass_reader, pass_still, pass_tally, pass_hand}
use Rattle.bulk_load.proofs.copying.meet_key.Goals as goal

pub returns-in_err-copy_below : goal.returns-in_err-copy_below
returns-in_err-copy_below g c =
    let p = err_from_is_err_and c.from_residual.result c.from_residual.ensures.1 in
    let copies = c.in_err-copy_below.ensures in
    subst (λ (x : Result Bool LoadFault). MeetsKey c.args.place.now c.args.key.now x c.args.run.now c.copy_below.new.run c.args.frames.now c.copy_below.new.frames (g.S.Station.view c.args.station.now) (g.S.Station.view c.copy_below.new.station)) (sym (rw p.2 at p.1)) (record {
      amid = tt;
      passed = tt;
      upto = tt;
      met = tt;
      taken = tt;
      packed = tt;
      left = tt;
      same = tt;
      ended = tt;
      count = tt;
      over = copies.over;
      tally = copies.tally;
      goes = tt;
      tries = copies.tries;
      faulty = copies.faulty;
      damage = copies.damage;
      failed = λ is. copies.failed (disk_as {T = Unit {0}} c.in_err-copy_below.field-0.0 (disk_is {T = Bool} c.in_err-copy_below.field-0.0 is));
    })

pub returns : goal.returns
returns g c =
    let place = c.args.place.now in
    let k = c.args.key.now in
    let old = c.args.run.now in
    let m = c.copy_below.new.run in
    let h = m.ahead in
    let new = c.pass_key.new.ahead in
    let f = c.copy_below.new.frames in
    let a = g.S.Station.view c.args.station.now in
    let b = g.S.Station.view c.copy_below.new.station in
    let copies = c.in_ok-copy_below.ensures in
    let live = copies.amid.live in
    let stops = copies.stops in
    let met = begins_with k (at_hand h) in
    let is : new ≡ cond met (record h { index = h.index + 1 }) h = c.pass_key.ensures.ahead in
    record {
      amid = record {
        can = copies.amid.can;
        live = subst (λ (x : Ahead). ReadsLive place x b) (sym is) (pass_live place h b live k stops met refl);
        taking = copies.amid.taking;
        above = subst (λ (x : Ahead). IsAbove m.taken.last x) (sym is) (pass_still place h b live k stops met refl m.taken.last copies.amid.above);
      };
      passed = subst (λ (x : Ahead). IsAbove (Some k) x) (sym is) (pass_above place h b live k stops met refl);
      upto = copies.upto;
      met = λ told.
          let segments = array_of a.held in
          let size = own_size place old.ahead.tally.now a.held (c.requires.amid.live.stands a.held (inl (told, refl))) in
          let end : h.reader.end ≡ length segments = omega (arith, live.ahead.end_is, ap (λ (t : TallyView). 2 ^ t.height) copies.tally, size) in
          c.pass_key.ensures.found ∙ sym (left_with segments h end (Some k) stops k) ∙ ap (begins_with k) (copies.left told);
      taken = copies.taken;
      packed = copies.packed;
      left = λ told.
          let segments = array_of a.held in
          let size = own_size place old.ahead.tally.now a.held (c.requires.amid.live.stands a.held (inl (told, refl))) in
          let end : h.reader.end ≡ length segments = omega (arith, live.ahead.end_is, ap (λ (t : TallyView). 2 ^ t.height) copies.tally, size) in
          let same : array_of b.held ≡ segments = array_on place old.ahead c.requires.amid.live copies.goes.steps told in
          let up = subst (λ (s : Array). IsAscending (left_in s h)) same (ascending_left place h live.ahead (array_of b.held) (live.order (told_on copies.goes.steps.frame told))) in
          ap (λ (x : Ahead). left_in segments x) is ∙ pass_left place h b live k stops segments end up met refl ∙ ap (above k) (copies.left told) ∙ above_over k (left_in segments old.ahead);
      same = ap (λ (s : MergeRun). record s { ahead = new; last = Some k; edits = s.edits + 1 }) copies.same;
      ended = copies.ended;
      count = omega (
        arith,
        copies.count,
        pass_hand place h b live k stops met refl,
        ap (λ (x : Ahead). hand x) is,
        ap (λ (x : Ahead). read_by x) is,
        ap (λ (r : ReaderView). sum (take r.next h.tally.now.counts)) (pass_reader place h b live k stops met),
        ap (λ (t : TallyView). sum (take (cond met (passed h) h).reader.next t.counts)) (pass_tally place h b live k stops met),
        ap {B = ℕ} (λ (y : Bool). cond y 1 0) c.pass_key.ensures.found,
      );
      over = tt;
      tally = ap (λ (x : Ahead). x.tally.now) is ∙ pass_tally place h b live k stops met ∙ copies.tally;
      goes = subst (λ (x : ReaderView). Goes place old.taken.written m.taken.written old.ahead.reader.next x.next c.args.frames.now f a b) (sym (ap (λ (x : Ahead). x.reader) is ∙ pass_reader place h b live k stops met)) copies.goes;
      tries = copies.tries;
      faulty = tt;
      damage = tt;
      failed = λ e. absurd (never_disk c.pass_key.result e);
    }
