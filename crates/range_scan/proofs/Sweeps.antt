-- What reading on makes of a sweep, as one record.
use Rattle.std.proofs.Common.{◌≡◌, ℕ, zero, suc, ◌+◌, ◌-◌, ◌<◌, ◌≤◌, Bool, true, false, List, [], ◌∷◌, T, length, drop, Option, inl, inr, refl, sym, ◌∙◌, ap, subst, arith, min}
use mathlib.Core.Bool.{true≢false}
use Rattle.std.proofs.lemmas.Bool.{cases_lt}
use Rattle.std.specs.Prelude.{Result, Ok, Err, OnOk, is_err, is_some, max, sum, take, ◌/◌, ◌==◌, ◌&&◌, if◌then◌else◌}
use Rattle.header_gate.specs.declared.layout.Layout.{Layout}
use Rattle.std.specs.List.{list_all}
use Rattle.std.specs.FinMap.{entries}
use Rattle.station.specs.Bytes.{Same}
use Rattle.station.specs.View.{View, Told}
use Rattle.station.specs.Steps.{Steps}
use Rattle.station.proofs.Composition.{same_on, told_on, told_back}
use Rattle.key_slot.specs.Record.{Bytes, Record, is_record}
use Rattle.key_slot.proofs.Truth.{second}
use Rattle.map_model.specs.Array.{cut}
use Rattle.map_model.specs.Image.{map_of}
use Rattle.segment.specs.declared.fault.StoreFault.{StoreFault}
use Rattle.range_scan.specs.ScanBounds.{are_from, are_before, is_void}
use Rattle.range_scan.specs.RegionReaderView.{ReaderView, IsReader}
use Rattle.range_scan.specs.Running.{IsRun, StepsBy, read_for}
use Rattle.range_scan.specs.SweepRuns.{IsSweepRun, ReadsRun, allowed, due}
use Rattle.range_scan.specs.SweepView.{SweepView, IsSweep, GoesOn, validated}
use Rattle.range_scan.specs.Sweeping.{IsSweeping, BeginsThere, between}
use Rattle.range_scan.specs.SweepsOn.{SweepsOn}
use Rattle.range_scan.specs.Taking.{Takes}
use Rattle.range_scan.specs.Walk.{after_walk}
use Rattle.range_scan.proofs.Going.{goes_none, goes_on, sweep_over, begins_on, walk_further}
use Rattle.range_scan.proofs.Needed.{between_none, between_less}
use Rattle.range_scan.proofs.Onward.{few_read}
use Rattle.range_scan.proofs.Takings.{takes_goes_on}
use Rattle.range_scan.proofs.Walks.{walk_none}

-- another answer
pub sweeps_as : {A B : Type 0} (x : A) (y : B) (s t : SweepView) (a b : View) → SweepsOn (Ok x) s t a b → SweepsOn (Ok y) s t a b
sweeps_as x y s t a b on = record { same = on.same; is_sweep = on.is_sweep; sweeping = on.sweeping; faulted = on.faulted; steps = on.steps; reads = on.reads; calls = on.calls; needed = on.needed; runs = on.runs; few = on.few; idle = on.idle; void = on.void }

pub sweeps_not : {A B : Type 0} (fault : StoreFault) (s t : SweepView) (a b : View) → SweepsOn {A = A} (Err fault) s t a b → SweepsOn {A = B} (Err fault) s t a b
sweeps_not fault s t a b on = record { same = on.same; is_sweep = on.is_sweep; sweeping = tt; faulted = on.faulted; steps = on.steps; reads = on.reads; calls = on.calls; needed = on.needed; runs = on.runs; few = on.few; idle = on.idle; void = on.void }

-- it read nothing
pub sweeps_still : {A : Type 0} (x : A) (s t : SweepView) (a b : View) → t ≡ s → IsSweep s → s.faulted ≡ false → (Told a → IsSweeping s a.held) → Steps Same a b → b.travel ≡ a.travel → b.calls ≤ a.calls → SweepsOn (Ok x) s t a b
sweeps_still {A} x s t a b stays is unfaulted sweeping steps rests uncalled = subst (λ (u : SweepView). SweepsOn {A = A} (Ok x) s u a b) (sym stays) (record {
  same = goes_none s;
  is_sweep = is;
  sweeping = λ told. subst (IsSweeping s) (sym (steps.held (told_back steps.frame told))) (sweeping (told_back steps.frame told));
  faulted = unfaulted;
  steps = steps;
  reads = rests ∙ sym (walk_none s.reader.layout s.reader.region s.reader.next s.reader.next a.travel refl);
  calls = omega (arith, uncalled);
  needed = λ told. between_none s.low (cut s.tally.counts (entries (map_of a.held))) (validated s) (validated s - 1) (omega arith);
  runs = λ more. absurd (omega (arith, more));
  few = λ told begins. (sweeping told).amid.few begins;
  idle = λ some. refl;
  void = λ void. refl;
})

-- it met the next segment
module _ (s : SweepView) (a b : View) (is : IsSweep s) (none : s.kept ≡ []) (room : is_void s.low s.high ≡ false) (sweeping : Told a → IsSweeping s a.held) (steps : Steps Same a b)
    (count : ℕ) (reader : ReaderView) (along : List Bytes) (run : s.along ≡ [] → s.reader.next < s.reader.end → IsSweepRun s s.reader.next count) (lt : validated s < s.reader.end)
    (reads : IsReader reader) (step : StepsBy (read_for s.along count) s.reader reader) (others : length along + 1 ≡ length s.along + read_for s.along count) (walk : b.travel ≡ after_walk s.reader.layout s.reader.region s.reader.next reader.next a.travel)
    (calls : b.calls ≤ a.calls + min 1 (reader.next - s.reader.next)) where
  further_on : reader.next - length along ≡ validated s + 1
  further_on = omega (arith, step.next_is, others, is.first_is)

  -- what was read was a run
  ran : s.reader.next < reader.next → ReadsRun s (record s { reader = reader; along = along })
  ran more = by_along s.along refl
    where
      by_along : (before : List Bytes) → s.along ≡ before → ReadsRun s (record s { reader = reader; along = along })
      by_along [] alone =
          let here : validated s ≡ s.reader.next = omega (arith, ap length alone) in
          let read : read_for s.along count ≡ count = ap (λ (before : List Bytes). read_for before count) alone in
          record {
            from = s.reader.next;
            onward = omega arith;
            met = omega (arith, further_on, here);
            run = subst (IsSweepRun s s.reader.next) {x = count} {y = reader.next - s.reader.next} (omega (arith, step.next_is, read)) (run alone (omega (arith, lt, here)));
          }
      by_along (p ∷ ps) are =
          let read : read_for s.along count ≡ 0 = ap (λ (before : List Bytes). read_for before count) are in
          absurd (omega (arith, more, step.next_is, read))

  pub sweeps_read : {A : Type 0} (result : Result A StoreFault) (kept : List Record) (faulted : Bool) → T (are_from s.low kept) → T (list_all (is_record s.reader.layout.format) kept) → (faulted ≡ false → reader.faulted ≡ false) → faulted ≡ is_err result
      → OnOk result (Told b → IsSweeping (record s { reader = reader; kept = kept; along = along; faulted = faulted }) b.held) → SweepsOn result s (record s { reader = reader; kept = kept; along = along; faulted = faulted }) a b
  sweeps_read result kept faulted from fit unfaulted answer on = record {
    same = record { layout_is = step.layout_is; region_is = step.region_is; end_is = step.end_is; tally_is = refl; first_is = refl; low_is = refl; high_is = refl; limit_is = refl; onward = omega (arith, step.next_is); met = omega (arith, further_on) };
    is_sweep = sweep_over s reader kept along faulted is reads step.layout_is step.end_is (omega (arith, step.next_is, others, is.first_is)) from fit unfaulted;
    sweeping = on;
    faulted = answer;
    steps = steps;
    reads = walk;
    calls = omega (arith, calls);
    needed = λ told. between_none s.low (cut s.tally.counts (entries (map_of a.held))) (validated s) (reader.next - length along - 1) (omega (arith, further_on));
    runs = λ more. let r = ran more in record { from = r.from; onward = r.onward; met = r.met; run = r.run };
    few = λ told begins. few_read s a.held is (sweeping told) count reader along run lt step others none begins;
    idle = λ some. absurd (omega (arith, some, ap length none));
    void = λ void. absurd (true≢false (sym void ∙ room));
  }

-- a run of a sweep is one of the same sweep where it was before
run_back : (s m : SweepView) (from count : ℕ) → GoesOn s m → m.given ≡ s.given → IsSweepRun m from count → IsSweepRun s from count
run_back s m from count same given is =
    let run = subst (λ (end : ℕ). IsRun s.reader.layout from end count) same.end_is (subst (λ (l : Layout). IsRun l from m.reader.end count) same.layout_is is.run) in
    let few : allowed m from ≡ allowed s from = λ i. max (from + 1) (same.first_is i + given i / 4 + 2) in
    let owed : (to : ℕ) → due m from to ≡ due s from to = λ to i. sum (take to (same.tally_is i).counts) - sum (take (if (is_some (same.low_is i)) && (from == same.first_is i) then from + 1 else from) (same.tally_is i).counts) in
    let wanted : m.limit - m.given ≡ s.limit - s.given = λ i. same.limit_is i - given i in
    record {
      run = run;
      few = omega (arith, is.few, few);
      wanted = omega (arith, is.wanted, owed (from + count - 1), wanted);
      whole = elim is.whole [
        | inl none ↦ inl (λ more. none (subst (λ (end : ℕ). IsRun m.reader.layout from end (count + 1)) (sym same.end_is) (subst (λ (l : Layout). IsRun l from s.reader.end (count + 1)) (sym same.layout_is) more)))
        | inr (inl past) ↦ inr (inl (omega (arith, past, few)))
        | inr (inr enough) ↦ inr (inr (omega (arith, enough, owed (from + count), wanted)))
      ];
    }

-- it read on behind other segments
pub sweeps_further : {A : Type 0} (result : Result A StoreFault) (s m t : SweepView) (a c b : View) → GoesOn s m → m.given ≡ s.given → Steps Same a c → c.travel ≡ after_walk s.reader.layout s.reader.region s.reader.next m.reader.next a.travel
    → c.calls ≤ a.calls + (m.reader.next - s.reader.next) → m.kept ≡ []
    → (0 < length s.kept → m ≡ s) → (is_void s.low s.high ≡ true → m.reader ≡ s.reader) → (s.reader.next < m.reader.next → ReadsRun s m)
    → (Told a → T (are_before s.low (between (validated s) (validated m) (cut s.tally.counts (entries (map_of a.held))))))
    → validated t ≤ validated m + 1 → SweepsOn result m t c b → SweepsOn result s t a b
sweeps_further result s m t a c b same given steps walk calls none idle void ran used step on = record {
  same = goes_on s m t same on.same;
  is_sweep = on.is_sweep;
  sweeping = on.sweeping;
  faulted = on.faulted;
  steps = same_on steps on.steps;
  reads = walk_further s m t _ _ _ same on.same walk on.reads;
  calls = omega (arith, calls, on.calls, same.onward, on.same.onward);
  needed = λ told. between_less s.low (cut s.tally.counts (entries (map_of a.held))) (validated s) (validated m) (validated t - 1) (omega (arith, step)) (used told);
  runs = λ more. elim (cases_lt m.reader.next t.reader.next) [
    | inl later ↦
        let r = on.runs later in
        record { from = r.from; onward = omega (arith, same.onward, r.onward); met = r.met; run = run_back s m r.from (t.reader.next - r.from) same given r.run }
    | inr still ↦
        let next : t.reader.next ≡ m.reader.next = omega (arith, on.same.onward) in
        let r = ran (omega (arith, more, next)) in
        record { from = r.from; onward = r.onward; met = omega (arith, r.met, on.same.met); run = subst (λ (n : ℕ). IsSweepRun s r.from (n - r.from)) (sym next) r.run }
  ];
  few = λ told begins.
      let here = subst (λ (file : List ℕ). BeginsThere m (entries (map_of file))) (sym (steps.held told)) (begins_on s m (entries (map_of a.held)) same begins) in
      omega (arith, on.few (told_on steps.frame told) here, same.first_is);
  idle = λ some. absurd (omega (arith, some, ap (λ (x : SweepView). length x.kept) (idle some), ap length none));
  void = λ is. on.void (subst (λ (low : Option Bytes). is_void low m.high ≡ true) (sym same.low_is) (subst (λ (high : Option Bytes). is_void s.low high ≡ true) (sym same.high_is) is)) ∙ void is;
}

-- it answered a record that it reached
pub sweeps_taken : {A B : Type 0} (x : A) (y : B) (r : Record) (s t u : SweepView) (a b : View) → SweepsOn (Ok x) s t a b → Takes (r ∷ []) t u → IsSweep u → SweepsOn (Ok y) s u a b
sweeps_taken x y r s t u a b on takes is =
    let reader = ap (λ (v : SweepView). v.reader) takes.same in
    let next : u.reader.next ≡ t.reader.next = ap (λ (v : SweepView). v.reader.next) takes.same in
    let met : validated u ≡ validated t = ap validated takes.same in
    record {
      same = goes_on s t u on.same (takes_goes_on takes);
      is_sweep = is;
      sweeping = λ told. takes.sweeping b.held (on.sweeping told);
      faulted = ap (λ (v : SweepView). v.faulted) takes.same ∙ on.faulted;
      steps = on.steps;
      reads = on.reads ∙ ap (λ (n : ℕ). after_walk s.reader.layout s.reader.region s.reader.next n a.travel) (sym next);
      calls = omega (arith, on.calls, next);
      needed = λ told. subst (λ (n : ℕ). T (are_before s.low (between (validated s) (n - 1) (cut s.tally.counts (entries (map_of a.held)))))) (sym met) (on.needed told);
      runs = λ more.
          let r = on.runs (omega (arith, more, next)) in
          record { from = r.from; onward = r.onward; met = omega (arith, r.met, met); run = subst (λ (n : ℕ). IsSweepRun s r.from (n - r.from)) (sym next) r.run };
      few = λ told begins. omega (arith, on.few told begins, next, takes.count);
      idle = λ some. reader ∙ on.idle some;
      void = λ void. reader ∙ on.void void;
    }

-- what is true of each of records is true of each of a rest
pub all_dropped : (p : Record → Bool) (rs : List Record) (n : ℕ) → T (list_all p rs) → T (list_all p (drop n rs))
all_dropped p rs zero all = all
all_dropped p [] (suc n) all = tt
all_dropped p (r ∷ rs) (suc n) all = all_dropped p rs n (second (p r) (list_all p rs) all)
