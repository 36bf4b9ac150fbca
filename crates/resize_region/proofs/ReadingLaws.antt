-- A reading of old segments that goes on.
use Rattle.std.proofs.Common.{◌≡◌, ◌≤◌, ℕ, List, sym, ap, subst, ◌∙◌, arith}
use Rattle.std.specs.Prelude.{Result, Err}
use Rattle.station.specs.Bytes.{Same}
use Rattle.station.specs.View.{View}
use Rattle.station.specs.Steps.{Steps}
use Rattle.station.proofs.Composition.{same_on, told_on}
use Rattle.range_scan.specs.Walk.{after_walk}
use Rattle.range_scan.proofs.Walks.{walk_on}
use Rattle.redo_journal.specs.declared.place.Place.{Place}
use Rattle.redo_journal.specs.Frames.{Batch}
use Rattle.segment.specs.declared.fault.StoreFault.{StoreFault}
use Rattle.segment_frames.specs.Lists.{most_segments}
use Rattle.resize_region.specs.declared.source.Source.{Source}
use Rattle.resize_region.specs.OldReading.{ReadsOn}
use Rattle.resize_region.specs.Source.{read_upto}
use Rattle.resize_region.proofs.OldRowLaws.{rose_on, failed_as, failed_is}

-- the same of an answer by another name
pub reads_as : {T : Type 0} (place : Place) (counts : List ℕ) (s t : Source) (f g : Batch) (a b : View) (result : Result T StoreFault) (fault : StoreFault) → result ≡ Err fault → ReadsOn {T = T} place counts (Err fault) s t f g a b → ReadsOn {T = T} place counts result s t f g a b
reads_as {T = T} place counts s t f g a b result fault same read = subst (λ (x : Result T StoreFault). ReadsOn {T = T} place counts x s t f g a b) (sym same) read

-- up to a fault
pub reads_on_err : {T U : Type 0} (place : Place) (counts : List ℕ) (s m t : Source) (f g h : Batch) (a b c : View) → g ≡ record f { slots = g.slots } → Steps Same a b
    → b.travel ≡ after_walk place.layout place.region (read_upto (most_segments place.layout) s) (read_upto (most_segments place.layout) m) a.travel → read_upto (most_segments place.layout) s ≤ read_upto (most_segments place.layout) m
    → (result : Result U StoreFault) (fault : StoreFault) → result ≡ Err fault → ReadsOn {T = T} place counts (Err fault) m t g h b c → ReadsOn {T = U} place counts result s t f h a c
reads_on_err {T = T} {U = U} place counts s m t f g h a b c rest steps reads onward result fault same last =
    let all = most_segments place.layout in
    reads_as place counts s t f h a c result fault same (record {
      shares = tt;
      held = tt;
      rest = last.rest ∙ ap (λ (x : Batch). record x { slots = h.slots }) rest;
      steps = same_on steps last.steps;
      reads = last.reads ∙ ap (after_walk place.layout place.region (read_upto all m) (read_upto all t)) reads ∙ walk_on place.layout place.region (read_upto all s) (read_upto all m) (read_upto all t) a.travel onward last.onward;
      onward = omega (arith, onward, last.onward);
      upto = last.upto;
      damaged = λ told. last.damaged (told_on steps.frame told);
      cause = last.cause;
      failed = λ is. rose_on a b c.disk_faults steps.frame.disk_faults (last.failed (failed_as {T = T} fault (failed_is {T = U} fault is)));
    })
