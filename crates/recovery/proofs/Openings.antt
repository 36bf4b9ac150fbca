-- The outcome of an opening, by where it ends.
use Rattle.std.proofs.Common.{◌≡◌, ◌⊎◌, inl, inr, ⊎_elim, ℕ, ◌+◌, ◌≤◌, List, Option, Some, None, Ok, Err, refl, sym, ◌∙◌, ap, subst, arith}
use Rattle.std.specs.Prelude.{Result, IsOk, OnOk, IfErr, IsErrOf, is_some}
use Rattle.std.proofs.lemmas.Result.{on_ok_weaker, IfErr-weaker}
use mathlib.Core.Bool.{true≢false}
use Rattle.station.specs.Bytes.{Same}
use Rattle.station.specs.View.{View, Lawful, Told, NothingPending, MayHold, Rose}
use Rattle.station.specs.Steps.{Steps}
use Rattle.station.proofs.Composition.{weaken, andthen, on_same, no_steps, told_on, told_of, only_held}
use Rattle.density_rule.specs.Repair.{repair_window}
use Rattle.density_rule.specs.Windows.{IsBalanced}
use Rattle.header_gate.specs.declared.layout.Layout.{Layout}
use Rattle.header_gate.specs.declared.header.Header.{Header}
use Rattle.header_gate.specs.declared.header.HeaderFault.{HeaderFault}
use Rattle.header_gate.specs.declared.header.HeaderFault.TheVariants as header
use Rattle.header_gate.specs.declared.reason.Reason.{Reason}
use Rattle.header_gate.specs.Header.{layout_in}
use Rattle.header_gate.specs.InPlace.{IsBare}
use Rattle.header_gate.specs.Places.{page_size, height_limit, file_length}
use Rattle.header_gate.specs.Reasons.{or_else, header_reason, IsSoundHeader}
use Rattle.header_gate.proofs.Soundness.{none_of_sound}
use Rattle.map_model.specs.Store.{Map}
use Rattle.map_model.specs.Array.{counts_of}
use Rattle.map_model.specs.Image.{array_of, height_of}
use Rattle.map_model.proofs.Reasonings.{represents_of_none}
use Rattle.map_model.specs.FileReasons.{reason_of}
use Rattle.map_model.specs.Repairing.{repair as repair_of}
use Rattle.batch_intent.specs.Means.{Means, opening_reason}
use Rattle.batch_intent.proofs.OpeningReasons.{none_of_means}
use Rattle.redo_journal.specs.declared.place.Place.{Place}
use Rattle.redo_journal.specs.Rest.{RestsAt}
use Rattle.segment_frames.specs.Lists.{most_segments}
use Rattle.recovery.specs.OpeningCosts.{repair_cost, opening_cost, mending_calls, back_reads, opening_reads}
use Rattle.recovery.specs.OpeningFaults.{fault_of, IsNoDamage, IsReadFault, IsRepairFault, IsRereadFault}
use Rattle.recovery.specs.Intents.{intent_reason, IsIntentFor}
use Rattle.recovery.specs.Opening.{OpensFile, IsOpened, Awaits, Repairs}
use Rattle.recovery.specs.Restores.{Restores, Opens, LeavesFile, IsAtRest}
use Rattle.recovery.specs.declared.fault.OpenFault.{OpenFault}
use Rattle.recovery.specs.declared.fault.OpenFault.TheVariants.{Memory, Failed, NotStore, Damaged}
use Rattle.recovery.specs.declared.parts.Parts.{Parts}
use Rattle.recovery.proofs.ReadingBack.{ReadsBack}
use Rattle.recovery.proofs.Bringing.{opens_restored, opens_repaired, leaves_on, balanced_as}
use Rattle.recovery.proofs.CostLaws.{both_within}
use Rattle.recovery.proofs.Intents.{by_file}
use Rattle.recovery.proofs.Opening.{restores_same, opened_or_memory, by_header, refused_back}
use Rattle.recovery.proofs.Repairing.{array_now}

-- a file that means a map is opened, where the disk and the memory allow it
completes : {T : Type 0} (result : Result T OpenFault) (a b : View) → IfErr result (λ e. (r : Reason) → e ≡ NotStore r → Told a → opening_reason a.held ≡ Some r)
    → (IsErrOf result Failed → Rose a.disk_faults b.disk_faults) → IfErr result (λ e. Told a → IsNoDamage e)
    → Told a → (l : Layout) (m : Map) → Means l a.held m → ¬ Rose a.disk_faults b.disk_faults → IsOk result ⊎ IsErrOf result Memory
completes result a b refused failed damaged told l m means calm =
    opened_or_memory result
    (IfErr-weaker result _ _ (λ e why r is. absurd (true≢false (ap is_some (sym (why r is told) ∙ none_of_means a.held m means)))) refused)
    (λ is. calm (failed is))
    (IfErr-weaker result _ _ (λ e fine. fine told) damaged)

-- Nothing was done.

pub same_leaves : {a b : View} → Steps Same a b → b.travel.written ≡ a.travel.written → LeavesFile a b
same_leaves ab written = record { steps = ab; unwritten = written }

restores_now : {a b : View} → Steps Same a b → Steps Restores a b
restores_now ab = weaken ab (λ d i left step. restores_same d i step)

pub opens_none : (d : List ℕ) → Opens d d
opens_none d = opens_restored d d (restores_same d d refl)

pub opens_now : {a b : View} → Steps Same a b → Steps Opens a b
opens_now ab = weaken ab (λ d i left step. opens_restored d i (restores_same d i step))

-- the header is refused, or the disk failed
pub no_header : {T : Type 0} (fault : HeaderFault) (a b : View) → Steps Same a b → b.travel.written ≡ a.travel.written → b.travel.read ≤ a.travel.read + page_size
    → ((r : Reason) → fault ≡ header.NotStore r → Told a → header_reason a.held ≡ Some r) → ((r : Reason) → fault ≡ header.NotStore r → NothingPending b)
    → (fault ≡ header.Failed → Rose a.disk_faults b.disk_faults) → OpensFile {T = T} Opens IsAtRest opening_reads (Err (fault_of fault)) a b
no_header {T = T} fault a b ab written read refused settled failed = record {
  sound = tt;
  refused = why;
  complete = completes {T = T} (Err (fault_of fault)) a b why (λ is. by_failed fault is failed) fine;
  steps = opens_now ab;
  late = λ r is. restores_now ab;
  early = λ r is early. same_leaves ab written;
  bare = λ r is told bare. same_leaves ab written;
  refused_settled = λ r is. settled r (refused_back fault r is);
  memory = λ is. same_leaves ab written;
  memory_last = λ is. absurd (other fault is);
  kept = λ told rest. same_leaves ab written;
  one_pass = λ told rest. omega (arith, read);
  unsound = λ told no. same_leaves ab written;
  damaged = fine;
}
  where
    why : (r : Reason) → fault_of fault ≡ NotStore r → Told a → opening_reason a.held ≡ Some r
    why r is told = by_file a.held r (by_header a.held r (refused r (refused_back fault r is) told))

    by_failed : (f : HeaderFault) → ◌≡◌ {A = Result T OpenFault} (Err (fault_of f)) (Err Failed) → (f ≡ header.Failed → Rose a.disk_faults b.disk_faults) → Rose a.disk_faults b.disk_faults
    by_failed header.Failed is cause = cause refl
    by_failed (header.NotStore r) is cause = absurd cc

    other : (f : HeaderFault) → ◌≡◌ {A = Result T OpenFault} (Err (fault_of f)) (Err Memory) → ⊥
    other header.Failed is = cc
    other (header.NotStore r) is = cc

    fine : Told a → IsNoDamage (fault_of fault)
    fine told = by_fault fault
      where
        by_fault : (f : HeaderFault) → IsNoDamage (fault_of f)
        by_fault header.Failed = tt
        by_fault (header.NotStore r) = tt

-- there is no memory
pub no_memory : {T : Type 0} (a : View) → NothingPending a → (Told a → IsSoundHeader a.held) → OpensFile {T = T} Opens IsAtRest back_reads (Err Memory) a a
no_memory {T = T} a nothing sound = record {
  sound = tt;
  refused = λ r is. absurd cc;
  complete = λ told m height means calm. inr refl;
  steps = opens_now (no_steps a);
  late = λ r is. absurd cc;
  early = λ r is. absurd cc;
  bare = λ r is. absurd cc;
  refused_settled = λ r is. nothing;
  memory = λ is. same_leaves (no_steps a) refl;
  memory_last = λ is. (nothing, λ told. none_of_sound a.held (sound told));
  kept = λ told rest. same_leaves (no_steps a) refl;
  one_pass = λ told rest. omega arith;
  unsound = λ told no. same_leaves (no_steps a) refl;
  damaged = λ told. tt;
}

-- Behind the header.

pub opens_later : {T : Type 0} (result : Result T OpenFault) (a b c : View) → Steps Same a b → b.travel.written ≡ a.travel.written → b.travel.read ≤ a.travel.read + page_size
    → OpensFile Opens IsAtRest back_reads result b c → OpensFile Opens IsAtRest opening_reads result a c
opens_later result a b c ab written read opens =
    let leaves = same_leaves ab written in
    record {
      sound = on_ok_weaker result (λ none told. sym (ap opening_reason (ab.held told)) ∙ none (told_on ab.frame told)) opens.sound;
      refused = IfErr-weaker result _ _ (λ e why r is told. sym (ap opening_reason (ab.held told)) ∙ why r is (told_on ab.frame told)) opens.refused;
      complete = λ told l m means calm. opens.complete (told_on ab.frame told) l m (subst (λ (f : List ℕ). Means l f m) (sym (ab.held told)) means) (λ rose. calm (omega (arith, rose, ab.frame.disk_faults)));
      steps = on_same ab opens.steps opens_none;
      late = IfErr-weaker result _ _ (λ e late r is. on_same ab (late r is) (λ d. restores_same d d refl)) opens.late;
      early = IfErr-weaker result _ _ (λ e untouched r is early. leaves_on leaves (untouched r is early)) opens.early;
      bare = IfErr-weaker result _ _ (λ e untouched r is told bare. leaves_on leaves (untouched r is (told_on ab.frame told) (subst (λ (f : List ℕ). IsBare (layout_in f) f) (sym (ab.held told)) bare))) opens.bare;
      refused_settled = opens.refused_settled;
      memory = λ is. leaves_on leaves (opens.memory is);
      memory_last = λ is. ((opens.memory_last is).0, λ told. sym (ap header_reason (ab.held told)) ∙ (opens.memory_last is).1 (told_on ab.frame told));
      kept = λ told rest. leaves_on leaves (opens.kept (told_on ab.frame told) (subst IsAtRest (sym (ab.held told)) rest));
      one_pass = λ told rest. omega (arith, read, opens.one_pass (told_on ab.frame told) (subst IsAtRest (sym (ab.held told)) rest), ap back_reads (ab.held told));
      unsound = λ told no. leaves_on leaves (opens.unsound (told_on ab.frame told) (λ none. no (sym (ap header_reason (ab.held told)) ∙ none)));
      damaged = IfErr-weaker result _ _ (λ e fine told. fine (told_on ab.frame told)) opens.damaged;
    }

-- The same, with another answer.

module _ {A B : Type 0} (reads : List ℕ → ℕ) (a b : View) where
  pub as_ok : (x : A) (y : B) → OpensFile Opens IsAtRest reads (Ok x) a b → OpensFile Opens IsAtRest reads (Ok y) a b
  as_ok x y opens = record {
    sound = opens.sound;
    refused = tt;
    complete = λ told m height means calm. inl refl;
    steps = opens.steps;
    late = tt;
    early = tt;
    bare = tt;
    refused_settled = tt;
    memory = λ is. absurd cc;
    memory_last = λ is. absurd cc;
    kept = opens.kept;
    one_pass = opens.one_pass;
    unsound = opens.unsound;
    damaged = tt;
  }

  pub as_err : (e : OpenFault) → OpensFile {T = A} Opens IsAtRest reads (Err e) a b → OpensFile {T = B} Opens IsAtRest reads (Err e) a b
  as_err e opens = record {
    sound = tt;
    refused = opens.refused;
    complete = λ told l m means calm. ⊎_elim (λ ok. absurd cc) (λ is. inr (same is)) (opens.complete told l m means calm);
    steps = opens.steps;
    late = opens.late;
    early = opens.early;
    bare = opens.bare;
    refused_settled = opens.refused_settled;
    memory = λ is. opens.memory (back is);
    memory_last = λ is. opens.memory_last (back is);
    kept = opens.kept;
    one_pass = opens.one_pass;
    unsound = opens.unsound;
    damaged = opens.damaged;
  }
    where
      same : ◌≡◌ {A = Result A OpenFault} (Err e) (Err Memory) → ◌≡◌ {A = Result B OpenFault} (Err e) (Err Memory)
      same is = let own : e ≡ Memory = cc in ap Err own

      back : ◌≡◌ {A = Result B OpenFault} (Err e) (Err Memory) → ◌≡◌ {A = Result A OpenFault} (Err e) (Err Memory)
      back is = let own : e ≡ Memory = cc in ap Err own

-- The file is read back.

pub not_back : {T : Type 0} (e : OpenFault) (head : Header) (old new : Parts) (a b : View) → ReadsBack head (Err e) old new a b → (Told a → IsSoundHeader a.held) → (e ≡ Failed → Rose a.disk_faults b.disk_faults)
    → OpensFile {T = T} Opens IsAtRest back_reads (Err e) a b
not_back {T = T} e head old new a b back sound failed = record {
  sound = tt;
  refused = back.refused;
  complete = completes {T = T} (Err e) a b back.refused (λ is. let own : e ≡ Failed = cc in failed own) back.damaged;
  steps = weaken back.steps (λ d i left step. opens_restored d i step);
  late = λ r is. back.steps;
  early = back.early;
  bare = λ r is told bare. back.kept told bare;
  refused_settled = back.refused_settled;
  memory = λ is. absurd (other is);
  memory_last = λ is. absurd (other is);
  kept = λ told rest. back.kept told rest.bare;
  one_pass = λ told rest. back.one_pass told rest.bare;
  unsound = λ told no. absurd (no (none_of_sound a.held (sound told)));
  damaged = back.damaged;
}
  where
    other : ◌≡◌ {A = Result T OpenFault} (Err e) (Err Memory) → ⊥
    other is = let own : e ≡ Memory = cc in subst IsReadFault own back.causes

pub read_reread : (e : OpenFault) → IsReadFault e → IsRereadFault e
read_reread (NotStore r) is = tt
read_reread Failed is = tt
read_reread (Damaged segment why) is = is
read_reread Memory is = absurd is

-- And repaired.

-- nothing is wrong with the file itself
file_none : (image : List ℕ) → opening_reason image ≡ None → reason_of image ≡ None
unfolding opening_reason
file_none image none = first (reason_of image) (intent_reason image) none
  where
    first : (o next : Option Reason) → or_else o next ≡ None → o ≡ None
    first None next is = refl
    first (Some r) next is = absurd (cc)

not_reason : (e : OpenFault) (r : Reason) → IsRepairFault e → e ≡ NotStore r → ⊥
not_reason e r cause is = subst IsRepairFault is cause

module _ (result : Result (Unit {0}) OpenFault) (x : Unit {0}) (head : Header) (old mid new : Parts) (a b c : View) (awaits : Awaits head old a) (law : Lawful a) (back : ReadsBack head (Ok x) old mid a b) (repairs : Repairs result mid new b c) where
  layout_at : (image : List ℕ) → MayHold a image → layout_in image ≡ mid.place.layout
  layout_at image left =
      ap layout_in (only_held a awaits.nothing image left)
      ∙ (awaits.header_is (told_of law image left)).layout_is
      ∙ ap (λ (p : Place). p.layout) (sym back.place)

  sound_at : (image : List ℕ) → MayHold a image → opening_reason image ≡ None
  sound_at image left = ap opening_reason (only_held a awaits.nothing image left) ∙ back.sound (told_of law image left)

  height_at : Told a → mid.tally.height ≡ height_of a.held
  height_at told = back.height_is ∙ sym (awaits.header_is told).height_is

  pub balanced : Told a → IsAtRest a.held → IsBalanced mid.tally.height mid.tally.counts
  balanced told rest =
      balanced_as mid.tally.height mid.tally.counts a.held b.held
      (array_now mid.place.layout mid.place.region mid.tally.height mid.tally.counts b.held (back.back.stands b.held (inl (told_on back.steps.frame told, refl))))
      (back.array told) (height_at told) (rest.balanced (height_of a.held, represents_of_none a.held (file_none a.held (back.sound told))))

  steps_at : Steps Opens a c
  steps_at = andthen back.steps repairs.steps (λ d i left step. opens_restored d i step)
      (λ d e i left first between second. opens_repaired mid.place d e i (layout_at d left) back.back.parts_are.region (sound_at d left) first second)

  pub repaired : (IsBalanced mid.tally.height mid.tally.counts → LeavesFile b c) → (IsBalanced mid.tally.height mid.tally.counts → c.travel.read ≡ b.travel.read)
      → (IsErrOf result Failed → Rose b.disk_faults c.disk_faults) → OpensFile Opens IsAtRest back_reads result a c
  repaired kept unread failed = record {
    sound = on_ok_any result back.sound;
    refused = IfErr-weaker result _ _ (λ e cause r is. absurd (not_reason e r cause is)) repairs.causes;
    complete = completes result a c (IfErr-weaker result _ _ (λ e cause r is. absurd (not_reason e r cause is)) repairs.causes) (λ is. omega (arith, failed is, back.steps.frame.disk_faults)) fine;
    steps = steps_at;
    late = IfErr-weaker result _ _ (λ e cause r is. absurd (not_reason e r cause is)) repairs.causes;
    early = IfErr-weaker result _ _ (λ e cause r is. absurd (not_reason e r cause is)) repairs.causes;
    bare = IfErr-weaker result _ _ (λ e cause r is. absurd (not_reason e r cause is)) repairs.causes;
    refused_settled = IfErr-weaker result _ _ (λ e cause r is. absurd (not_reason e r cause is)) repairs.causes;
    memory = λ is. absurd (other result repairs.causes is);
    memory_last = λ is. absurd (other result repairs.causes is);
    kept = λ told rest. leaves_on (back.kept told rest.bare) (kept (balanced told rest));
    one_pass = λ told rest. omega (arith, back.one_pass told rest.bare, unread (balanced told rest));
    unsound = λ told no. absurd (no (none_of_sound a.held (awaits.header_is told).sound));
    damaged = fine;
  }
    where
      fine : IfErr result (λ e. Told a → IsNoDamage e)
      fine = IfErr-weaker result _ _ (λ e only told. subst IsNoDamage (sym (only (told_on back.steps.frame told))) tt) repairs.damaged

      on_ok_any : {P : Type 0} (r : Result (Unit {0}) OpenFault) → P → OnOk r P
      on_ok_any (Ok y) p = p
      on_ok_any (Err e) p = tt

      other : (r : Result (Unit {0}) OpenFault) → IfErr r IsRepairFault → r ≡ Err Memory → ⊥
      other (Ok y) cause is = cc
      other (Err e) cause is = let own : e ≡ Memory = cc in subst IsRepairFault own cause

  mended : Told a → mending_calls (most_segments mid.place.layout) (repair_window mid.tally.height mid.tally.counts) ≡ mending_calls (most_segments (layout_in a.held)) (repair_window (height_of a.held) (counts_of (array_of a.held)))
  mended told =
      let counts =
      sym (array_now mid.place.layout mid.place.region mid.tally.height mid.tally.counts b.held (back.back.stands b.held (inl (told_on back.steps.frame told, refl))))
      ∙ ap counts_of (back.array told) in
      λ t. mending_calls (most_segments (sym (layout_at a.held (inl (told, refl))) t)) (repair_window (height_at told t) (counts t))

  -- the parts of the opened store
  pub opened : OnOk result (RestsAt new.place.layout new.frames.turn c) → OnOk result (IsOpened new a c)
  opened rests = by_result result repairs rests
    where
      by_result : (r : Result (Unit {0}) OpenFault) → Repairs r mid new b c → OnOk r (RestsAt new.place.layout new.frames.turn c) → OnOk r (IsOpened new a c)
      by_result (Err e) done quiet = tt
      by_result (Ok y) done quiet = record {
        agrees = done.agrees;
        room = done.room ∙ back.room ∙ awaits.room ∙ ap (λ (p : Place). height_limit p.layout) (sym (done.place ∙ back.place));
        fits = done.fits;
        reach = subst (λ (p : Place). file_length p.layout ≤ a.fixed.reach) (sym (done.place ∙ back.place)) awaits.reach;
        unrested = done.unrested;
        array = λ told. done.array (told_on back.steps.frame told) ∙ (λ t. repair_of (height_at told t) (back.array told t));
        waits = λ told. done.intent ∙ back.waits told;
        items = subst (IsIntentFor new.place.layout.format) (sym done.intent) (subst (λ (p : Place). IsIntentFor p.layout.format mid.intent) (sym done.place) back.items);
        rests = quiet;
        calls = λ told. omega (arith, back.calls_asked told, done.calls, mended told);
      }

  pub cost : c.travel.written ≤ a.travel.written + opening_cost old.place.layout
  cost =
      let layout = old.place.layout in
      let height : mid.tally.height ≤ height_limit layout = omega (arith, back.back.parts_are.height, ap (λ (p : Place). height_limit p.layout) back.place) in
      omega (arith, back.cost, repairs.cost, ap (λ (p : Place). repair_cost p.layout.format mid.tally.height) back.place, both_within layout mid.tally.height height)
