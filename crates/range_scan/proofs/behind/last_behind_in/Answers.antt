use Rattle.std.proofs.Common.{◌≡◌, ◌⊎◌, ◌<◌, ◌≤◌, ◌+◌, ◌-◌, ◌^◌, ℕ, List, T, Option, None, length, take, drop, pow_pos, sym, ap, subst, inl, inr, ◌∙◌, arith}
use Rattle.std.specs.List.{last_or}
use Rattle.std.specs.FinMap.{entries}
use Rattle.std.proofs.lemmas.List.{length-take-le}
use Rattle.std.proofs.lemmas.Result.{err_from_is_err_and}
use Rattle.header_gate.specs.declared.layout.Layout.{Layout}
use Rattle.station.proofs.Composition.{same_on, told_on}
use Rattle.station.specs.View.{Told}
use Rattle.key_slot.specs.Record.{Bytes, Record, IsAscending}
use Rattle.map_model.specs.Array.{Array, rows, segment_at}
use Rattle.map_model.specs.Cursors.{back, record_ahead}
use Rattle.map_model.specs.Image.{array_of, map_of}
use Rattle.map_model.specs.Standing.{StandsWith}
use Rattle.range_scan.specs.ScanBounds.{are_below, are_behind}
use Rattle.range_scan.specs.SeekReads.{earlier, last_from}
use Rattle.range_scan.specs.Sweeping.{EndsBy}
use Rattle.range_scan.specs.Walk.{after_walk}
use Rattle.range_scan.proofs.Amid.{rows_from}
use Rattle.range_scan.proofs.Beginning.{ends_behind}
use Rattle.range_scan.proofs.BoundLaws.{within}
use Rattle.range_scan.proofs.LooksBack.{behind-append, four_there, last_behind_is, last_found, some_before}
use Rattle.range_scan.proofs.Standing.{rows_are, rows_ascend, size_of}
use Rattle.range_scan.proofs.behind.last_behind_in.Goals as goal
use Rattle.range_scan.proofs.behind.last_behind_in.Goals.{After-read_below, then-index-gt0-via-then-index-gt0, then-index-gt0-via-else-index-gt0+then-last-eq0}

pub returns-in_err-index-clause-reads : goal.returns-in_err-index-clause-reads
returns-in_err-index-clause-reads g c =
    let p = err_from_is_err_and c.from_residual.result c.from_residual.ensures.1 in
    record {
      last = c.args.last;
      count = 1;
      travel = c.read_below.ensures.reads.travel;
      some = omega arith;
      two = omega arith;
      calls = c.read_below.ensures.reads.calls;
      within = c.requires.last;
      inside = omega arith;
      own = c.requires.ends;
      needed = λ more. absurd (omega (arith, more));
      causes = let same : c.args.last + 1 - 1 ≡ c.args.last = omega arith in rw (p.1, p.2, same) c.in_err-index.ensures.reads.causes;
    }

pub returns-then-index-gt0-clause-reads : goal.returns-then-index-gt0-clause-reads
returns-then-index-gt0-clause-reads g c = record {
  last = c.args.last;
  count = 1;
  travel = c.read_below.ensures.reads.travel;
  some = omega arith;
  two = omega arith;
  calls = c.read_below.ensures.reads.calls;
  within = c.requires.last;
  inside = omega arith;
  own = c.requires.ends;
  needed = λ more. absurd (omega (arith, more));
  causes = tt;
}

-- the last record that is looked for, by what is read of a segment
found : (low past high end : Option Bytes) (layout : Layout) (region height : ℕ) (counts image : List ℕ) → StandsWith layout region height counts image → (n index : ℕ) (rs : List Record) (o : Option Record)
    → end ≡ earlier past high → n < 2 ^ height → EndsBy end (n + 1) (array_of image) → rs ≡ segment_at (array_of image) n → index ≤ length rs → T (are_below end (take index rs)) → T (are_behind end (drop index rs))
    → (n ≡ 0) ⊎ (0 < index) → o ≡ last_from low (take index rs) → o ≡ record_ahead back (record { low = low; high = high; past = past }) (entries (map_of image))
found low past high end layout region height counts image stands n index rs o is inside ends same room below behind some is_last =
    let segments = array_of image in
    let there = subst (λ (es : List Record). T (are_below end (take index es))) same below in
    let last = last_found low end segments (rows_ascend layout region height counts image stands) n index (omega (arith, inside, size_of layout region height counts image stands)) ends there (subst (λ (es : List Record). T (are_behind end (drop index es))) same behind)
    (elim some [
      | inl zeroth ↦ inl zeroth
      | inr more ↦ inr (omega (arith, more, length-take-le index (segment_at segments n) (omega (arith, room, ap length same))))
    ]) in
    is_last
    ∙ ap (λ (es : List Record). last_from low (take index es)) same
    ∙ sym last
    ∙ ap (λ (es : List Record). last_or None (within low end es)) (rows_are layout region height counts image stands)
    ∙ sym (last_behind_is low past high end (entries (map_of image)) is)

-- nothing below the bound stands behind its segment
module _ (g : _) (c : After-read_below g) (told : Told (g.S.Station.view c.args.station.now)) where
  abbrev segments : Array
  segments = array_of (g.S.Station.view c.args.station.now).held

  stands : StandsWith c.args.region.now.layout.now c.args.region.now.number c.args.region.now.tally.now.height c.args.region.now.tally.now.counts (g.S.Station.view c.args.station.now).held
  stands = (c.requires.stands told).stands

  size : length segments ≡ 2 ^ c.args.region.now.tally.now.height
  size = size_of c.args.region.now.layout.now c.args.region.now.number c.args.region.now.tally.now.height c.args.region.now.tally.now.counts (g.S.Station.view c.args.station.now).held stands

  ascending : IsAscending (rows segments)
  ascending = rows_ascend c.args.region.now.layout.now c.args.region.now.number c.args.region.now.tally.now.height c.args.region.now.tally.now.counts (g.S.Station.view c.args.station.now).held stands

  ends : EndsBy c.args.end.now (c.args.last + 1) segments
  ends = subst (λ (n : ℕ). EndsBy c.args.end.now (n + 1) segments) (sym (c.requires.ends told))
      (ends_behind c.args.end.now segments (omega (arith, size, pow_pos c.args.region.now.tally.now.height)) ascending)

  -- nor in it, where none of its records is below it
  ends_before : (rs : List Record) → rs ≡ segment_at segments c.args.last → T (are_behind c.args.end.now rs) → EndsBy c.args.end.now c.args.last segments
  ends_before rs same behind =
      subst (λ (es : List Record). T (are_behind c.args.end.now es)) (sym (rows_from segments c.args.last (omega (arith, size, c.requires.last))))
      (behind-append c.args.end.now (segment_at segments c.args.last) (rows (drop (c.args.last + 1) segments)) (subst (λ (es : List Record). T (are_behind c.args.end.now es)) same behind) ends)

pub returns-then-index-gt0-clause-row : goal.returns-then-index-gt0-clause-row
returns-then-index-gt0-clause-row g c told past high is =
    let here = (goal.at.returns-then-index-gt0-clause-row g c).After-read_below in
    let a = c.args in
    found a.low.now past high a.end.now a.region.now.layout.now a.region.now.number a.region.now.tally.now.height a.region.now.tally.now.counts (g.S.Station.view a.station.now).held (stands g here told) a.last c.in_ok-index.index c.rows.result _
    is c.requires.last (ends g here told) (c.rows.ensures ∙ c.in_ok-index.ensures.rows told) (omega (arith, c.in_ok-index.ensures.within, ap length c.rows.ensures))
    (subst (λ (es : List Record). T (are_below a.end.now (take c.in_ok-index.index es))) (sym c.rows.ensures) c.in_ok-index.ensures.below)
    (subst (λ (es : List Record). T (are_behind a.end.now (drop c.in_ok-index.index es))) (sym c.rows.ensures) c.in_ok-index.ensures.behind)
    (elim c.then-index-gt0.branch [
      | then-index-gt0-via-then-index-gt0 w ↦ inr (omega (arith, w.if-index-gt0.true))
      | then-index-gt0-via-else-index-gt0+then-last-eq0 w ↦ inl (omega (arith, w.if-last-eq0.true))
    ])
    c.row_before.ensures

pub returns-in_err-index-2-clause-reads : goal.returns-in_err-index-2-clause-reads
returns-in_err-index-2-clause-reads g c =
    let p = err_from_is_err_and c.from_residual-in_err-index-2.result c.from_residual-in_err-index-2.ensures.1 in
    let a = c.args in
    record {
      last = a.last;
      count = 2;
      travel = c.read_below-2.ensures.reads.travel ∙ ap (after_walk a.region.now.layout.now a.region.now.number (a.last - 1) (a.last - 1 + 1)) c.read_below.ensures.reads.travel;
      some = omega arith;
      two = omega arith;
      calls = omega (arith, c.read_below.ensures.reads.calls, c.read_below-2.ensures.reads.calls);
      within = c.requires.last;
      inside = omega (arith, c.if-last-eq0.false);
      own = c.requires.ends;
      needed = λ more told.
          let zeroth : c.in_ok-index.index ≡ 0 = omega (arith, c.if-index-gt0.false) in
          subst (λ (es : List Record). T (are_behind a.end.now es)) (c.in_ok-index.ensures.rows told)
          (subst (λ (n : ℕ). T (are_behind a.end.now (drop n c.read_below.new.page.rows))) zeroth c.in_ok-index.ensures.behind);
      causes = let same : a.last + 1 - 2 ≡ a.last - 1 = omega (arith, c.if-last-eq0.false) in rw (p.1, p.2, same) c.in_err-index-2.ensures.reads.causes;
    }

pub returns-clause-row : goal.returns-clause-row
returns-clause-row g c told past high is =
    let here = (goal.at.returns-clause-row g c).After-read_below in
    let a = c.args in
    let segments = array_of (g.S.Station.view a.station.now).held in
    let zeroth : c.in_ok-index.index ≡ 0 = omega (arith, c.if-index-gt0.false) in
    let one : a.last - 1 + 1 ≡ a.last = omega (arith, c.if-last-eq0.false) in
    let none = subst (λ (n : ℕ). T (are_behind a.end.now (drop n c.read_below.new.page.rows))) zeroth c.in_ok-index.ensures.behind in
    let ends_here = subst (λ (n : ℕ). EndsBy a.end.now n segments) (sym one) (ends_before g here told c.read_below.new.page.rows (c.in_ok-index.ensures.rows told) none) in
    let held = c.read_below.ensures.reads.steps.held told in
    let told_there = told_on c.read_below.ensures.reads.steps.frame told in
    let same : c.rows-2.result ≡ segment_at segments (a.last - 1) = c.rows-2.ensures ∙ c.in_ok-index-2.ensures.rows told_there ∙ ap (λ (file : List ℕ). segment_at (array_of file) (a.last - 1)) held in
    let behind = subst (λ (es : List Record). T (are_behind a.end.now (drop c.in_ok-index-2.index es))) (sym c.rows-2.ensures) c.in_ok-index-2.ensures.behind in
    let four = four_there a.region.now.layout.now a.region.now.number a.region.now.tally.now.height a.region.now.tally.now.counts (g.S.Station.view a.station.now).held (c.requires.stands told) a.last (a.last - 1) one c.requires.last in
    found a.low.now past high a.end.now a.region.now.layout.now a.region.now.number a.region.now.tally.now.height a.region.now.tally.now.counts (g.S.Station.view a.station.now).held (stands g here told) (a.last - 1) c.in_ok-index-2.index c.rows-2.result _
    is (omega (arith, c.requires.last)) ends_here same (omega (arith, c.in_ok-index-2.ensures.within, ap length c.rows-2.ensures))
    (subst (λ (es : List Record). T (are_below a.end.now (take c.in_ok-index-2.index es))) (sym c.rows-2.ensures) c.in_ok-index-2.ensures.below)
    behind
    (inr (some_before a.end.now segments a.last (a.last - 1) c.in_ok-index-2.index (c.requires.ends told) one (omega (arith, size g here told, c.requires.last)) (ascending g here told) (omega (arith, four))
    (subst (λ (es : List Record). T (are_behind a.end.now (drop c.in_ok-index-2.index es))) same behind)))
    c.row_before-2.ensures

pub returns-clause-steps : goal.returns-clause-steps
returns-clause-steps g c = same_on c.read_below.ensures.reads.steps c.read_below-2.ensures.reads.steps

pub returns-clause-reads : goal.returns-clause-reads
returns-clause-reads g c =
    let a = c.args in
    record {
      last = a.last;
      count = 2;
      travel = c.read_below-2.ensures.reads.travel ∙ ap (after_walk a.region.now.layout.now a.region.now.number (a.last - 1) (a.last - 1 + 1)) c.read_below.ensures.reads.travel;
      some = omega arith;
      two = omega arith;
      calls = omega (arith, c.read_below.ensures.reads.calls, c.read_below-2.ensures.reads.calls);
      within = c.requires.last;
      inside = omega (arith, c.if-last-eq0.false);
      own = c.requires.ends;
      needed = λ more told.
          let zeroth : c.in_ok-index.index ≡ 0 = omega (arith, c.if-index-gt0.false) in
          subst (λ (es : List Record). T (are_behind a.end.now es)) (c.in_ok-index.ensures.rows told)
          (subst (λ (n : ℕ). T (are_behind a.end.now (drop n c.read_below.new.page.rows))) zeroth c.in_ok-index.ensures.behind);
      causes = tt;
    }
