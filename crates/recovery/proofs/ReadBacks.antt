-- What comes of the reading of a file, by where it ends.
use Rattle.std.proofs.Common.{◌≡◌, inl, ℕ, ◌+◌, ◌*◌, ◌^◌, ◌≤◌, List, Option, Some, None, Ok, Err, refl, sym, ◌∙◌, ap, subst, arith}
use Rattle.station.specs.Bytes.{Same}
use Rattle.station.specs.View.{View, Lawful, Told, NothingPending}
use Rattle.station.specs.Steps.{Steps}
use Rattle.station.proofs.Composition.{same_on, each_held, nothing_on, told_on, told_back}
use Rattle.header_gate.specs.declared.header.Header.{Header}
use Rattle.header_gate.specs.declared.reason.Reason.{Reason}
use Rattle.header_gate.specs.declared.layout.Layout.{Layout}
use Rattle.header_gate.specs.Header.{layout_in}
use Rattle.header_gate.specs.InPlace.{IsBare}
use Rattle.header_gate.specs.Places.{segment_size}
use Rattle.map_model.specs.Image.{array_of, height_of}
use Rattle.map_model.specs.FileReasons.{reason_of}
use Rattle.batch_intent.specs.Means.{opening_reason}
use Rattle.redo_journal.specs.declared.place.Place.{Place}
use Rattle.segment_frames.specs.FrameStanding.{StandsFor}
use Rattle.veb_index.specs.IndexView.{IndexView}
use Rattle.window_tally.specs.TallyView.{TallyView}
use Rattle.redo_journal.proofs.Live.{rests_still}
use Rattle.recovery.specs.OpeningCosts.{replay_cost, back_reads, bare_reads, replay_calls, region_calls, bare_calls, laying_calls, back_calls}
use Rattle.recovery.specs.OpeningFaults.{IsEarly, IsNoDamage, IsRegionFault, IsIntentFault, IsReadFault}
use Rattle.recovery.specs.Intents.{intent_of, intent_reason, intent_calls, intent_reads, region_reads, IsIntentFor}
use Rattle.recovery.specs.Opening.{Awaits, IsReadBack}
use Rattle.recovery.specs.StoreParts.{HasFences}
use Rattle.recovery.specs.Restores.{Restores, LeavesFile}
use Rattle.recovery.specs.declared.fault.OpenFault.{OpenFault}
use Rattle.recovery.specs.declared.fault.OpenFault.TheVariants.{Memory, Failed, NotStore, Damaged}
use Rattle.recovery.specs.declared.parts.Parts.{Parts}
use Rattle.recovery.proofs.ReadingBack.{ReadsBack}
use Rattle.recovery.proofs.Bringing.{leaves_on}
use Rattle.recovery.proofs.Intents.{by_file, by_intent, waits_kept, calls_kept}
use Rattle.recovery.proofs.Openings.{same_leaves}

-- what is known of parts and file stays where nothing is written
pub still_back : {place : Place} {tally : TallyView} {index : IndexView} {journal turn : ℕ} (b c : View) → Lawful b → Lawful c → Steps Same b c → IsReadBack place tally index journal turn b → IsReadBack place tally index journal turn c
still_back {place} {tally} {index} {journal} {turn} b c law_b law_c bc back =
    let quiet = nothing_on law_b back.nothing bc in
    record {
      parts_are = back.parts_are;
      unrested = back.unrested;
      reach = omega (arith, back.reach, ap (λ f. f.reach) bc.frame.fixed);
      root = back.root;
      stands = each_held c (StandsFor place tally) law_c quiet (λ told.
          let before = told_back bc.frame told in subst (StandsFor place tally) (sym (bc.held before)) (back.stands b.held (inl (before, refl))));
      fenced = λ told. let before = told_back bc.frame told in subst (λ (f : List ℕ). HasFences index (array_of f)) (sym (bc.held before)) (back.fenced before);
      rests = rests_still place.layout turn b c law_b back.rests bc;
      nothing = quiet;
    }

region_no_damage : (e : OpenFault) → IsRegionFault e → IsNoDamage e
region_no_damage Memory is = absurd is
region_no_damage Failed is = tt
region_no_damage (NotStore r) is = tt
region_no_damage (Damaged segment why) is = absurd is

region_read : (e : OpenFault) → IsRegionFault e → IsReadFault e
region_read Memory is = absurd is
region_read Failed is = tt
region_read (NotStore r) is = tt
region_read (Damaged segment why) is = absurd is

intent_read : (e : OpenFault) → IsIntentFault e → IsReadFault e
intent_read Memory is = absurd is
intent_read Failed is = tt
intent_read (NotStore r) is = tt
intent_read (Damaged segment why) is = is

module _ (head : Header) (old mid : Parts) (a b : View) (awaits : Awaits head old a) (steps : Steps Restores a b) (place : mid.place ≡ old.place) (room : mid.index.hmax ≡ old.index.hmax)
    (kept_by : Told a → IsBare old.place.layout a.held → LeavesFile a b) (read_by : Told a → IsBare old.place.layout a.held → b.travel.read ≤ a.travel.read + bare_reads old.place.layout + segment_size old.place.layout * 2 ^ head.height)
    (cost : b.travel.written ≤ a.travel.written + replay_cost old.place.layout)
    (calls : b.calls ≤ a.calls + (replay_calls old.place.layout + region_calls old.place.layout head.height)) (few_by : Told a → IsBare old.place.layout a.held → b.calls ≤ a.calls + bare_calls old.place.layout + region_calls old.place.layout head.height) where
  region_is : Told a → segment_size old.place.layout * 2 ^ head.height ≡ region_reads a.held
  region_is told t = segment_size (sym (awaits.header_is told).layout_is t) * 2 ^ sym (awaits.header_is told).height_is t

  region_called : Told a → region_calls old.place.layout head.height ≡ region_calls (layout_in a.held) (height_of a.held)
  region_called told t = region_calls (sym (awaits.header_is told).layout_is t) (sym (awaits.header_is told).height_is t)

  -- the layout is that of the file
  bare_by : Told a → IsBare (layout_in a.held) a.held → IsBare old.place.layout a.held
  bare_by told = subst (λ (l : Layout). IsBare l a.held) (awaits.header_is told).layout_is

  kept : Told a → IsBare (layout_in a.held) a.held → LeavesFile a b
  kept told bare = kept_by told (bare_by told bare)

  read : Told a → IsBare (layout_in a.held) a.held → b.travel.read ≤ a.travel.read + bare_reads (layout_in a.held) + segment_size old.place.layout * 2 ^ head.height
  read told bare = omega (arith, read_by told (bare_by told bare), ap bare_reads (awaits.header_is told).layout_is)

  few : Told a → IsBare (layout_in a.held) a.held → b.calls ≤ a.calls + bare_calls (layout_in a.held) + region_calls old.place.layout head.height
  few told bare = omega (arith, few_by told (bare_by told bare), ap bare_calls (awaits.header_is told).layout_is)

  -- the journal or a segment is refused, or the disk failed
  pub no_region : (e : OpenFault) → IsRegionFault e → ((r : Reason) → e ≡ NotStore r → Told a → reason_of a.held ≡ Some r) → ((r : Reason) → e ≡ NotStore r → IsEarly r → LeavesFile a b)
      → ((r : Reason) → e ≡ NotStore r → NothingPending b) → ReadsBack head (Err e) old mid a b
  no_region e cause refused early settled = record {
    back = tt;
    height_is = tt;
    place = place;
    room = room;
    array = tt;
    waits = tt;
    items = tt;
    sound = tt;
    refused = λ r is told. by_file a.held r (refused r is told);
    steps = steps;
    early = early;
    refused_settled = settled;
    kept = kept;
    one_pass = λ told bare. omega (arith, read told bare, region_is told);
    cost = cost;
    calls = omega (arith, calls);
    calls_bare = λ told bare. omega (arith, few told bare, region_called told);
    calls_asked = tt;
    damaged = λ told. region_no_damage e cause;
    causes = region_read e cause;
  }

  -- The intent.

  module _ (c : View) (law_b : Lawful b) (law_c : Lawful c) (bc : Steps Same b c) (back : IsReadBack mid.place mid.tally mid.index mid.frames.journal mid.frames.turn b) (sound : Told a → reason_of a.held ≡ None)
      (arrays : Told a → array_of b.held ≡ array_of a.held) (written : c.travel.written ≡ b.travel.written) (reads : Told b → c.travel.read ≤ b.travel.read + intent_reads b.held)
      (same_height : mid.tally.height ≡ head.height) (asks : c.calls ≤ b.calls + (2 + 2 ^ mid.tally.height)) (asks_told : Told b → c.calls ≤ b.calls + intent_calls b.held) where
    answered : Told a → (answer : Option Reason) → intent_reason b.held ≡ answer → opening_reason a.held ≡ answer
    answered told answer is = by_intent a.held b.held (steps.held told) (arrays told) answer (sound told) is

    leaves : Told a → IsBare (layout_in a.held) a.held → LeavesFile a c
    leaves told bare = leaves_on (kept told bare) (same_leaves bc written)

    one_pass : Told a → IsBare (layout_in a.held) a.held → c.travel.read ≤ a.travel.read + back_reads a.held
    one_pass told bare =
        omega (arith, read told bare, region_is told, reads (told_on steps.frame told), ap intent_reads ((kept told bare).steps.held told))

    cost_in_all : c.travel.written ≤ a.travel.written + replay_cost old.place.layout
    cost_in_all = omega (arith, cost, written)

    calls_in_all : c.calls ≤ a.calls + (replay_calls old.place.layout + region_calls old.place.layout head.height + (2 + 2 ^ head.height))
    calls_in_all = omega (arith, calls, asks, ap (λ (h : ℕ). 2 ^ h) same_height)

    calls_bare_in_all : Told a → IsBare (layout_in a.held) a.held → c.calls ≤ a.calls + back_calls a.held
    calls_bare_in_all told bare =
        omega (arith, few told bare, region_called told, asks_told (told_on steps.frame told), ap intent_calls ((kept told bare).steps.held told))

    pub no_intent : (e : OpenFault) → IsIntentFault e → ((r : Reason) → e ≡ NotStore r → Told b → intent_reason b.held ≡ Some r) → (Told b → IsNoDamage e) → ReadsBack head (Err e) old mid a c
    no_intent e cause refused fine = record {
      back = tt;
      height_is = tt;
      place = place;
      room = room;
      array = tt;
      waits = tt;
      items = tt;
      sound = tt;
      refused = λ r is told. answered told (Some r) (refused r is (told_on steps.frame told));
      steps = same_on steps bc;
      early = λ r is early. absurd (subst IsIntentFault is cause early);
      refused_settled = λ r is. nothing_on law_b back.nothing bc;
      kept = leaves;
      one_pass = one_pass;
      cost = cost_in_all;
      calls = calls_in_all;
      calls_bare = calls_bare_in_all;
      calls_asked = tt;
      damaged = λ told. fine (told_on steps.frame told);
      causes = intent_read e cause;
    }

    pub with_intent : (new : Parts) → new ≡ record mid { intent = new.intent } → mid.tally.height ≡ head.height → (Told b → new.intent ≡ intent_of b.held) → IsIntentFor mid.place.layout.format new.intent → (Told b → intent_reason b.held ≡ None)
        → (Told a → b.calls ≤ a.calls + (laying_calls a.held + bare_calls old.place.layout + region_calls old.place.layout head.height)) → ReadsBack head (Ok tt) old new a c
    with_intent new same height waits items none asked = subst (λ (p : Parts). ReadsBack head (Ok tt) old p a c) (sym same) (record {
      back = still_back b c law_b law_c bc back;
      height_is = height;
      place = place;
      room = room;
      array = λ told. ap array_of (bc.held (told_on steps.frame told)) ∙ arrays told;
      waits = λ told. waits (told_on steps.frame told) ∙ waits_kept a.held b.held (steps.held told);
      items = items;
      sound = λ told. answered told None (none (told_on steps.frame told));
      refused = tt;
      steps = same_on steps bc;
      early = tt;
      refused_settled = tt;
      kept = leaves;
      one_pass = one_pass;
      cost = cost_in_all;
      calls = calls_in_all;
      calls_bare = calls_bare_in_all;
      calls_asked = λ told. omega (arith, asked told, region_called told, ap bare_calls (awaits.header_is told).layout_is, asks_told (told_on steps.frame told), calls_kept a.held b.held (steps.held told) (arrays told));
      damaged = tt;
      causes = tt;
    })
