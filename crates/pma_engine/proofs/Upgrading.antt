-- What comes of an upgrade, from the map that its file represents at the entry.
use Rattle.std.proofs.Common.{◌≡◌, ◌⊎◌, ◌↔◌, inl, inr, ℕ, ◌+◌, ◌-◌, ◌≤◌, List, ◌++◌, false, take, Some, None, Result, Ok, Err, refl, sym, ◌∙◌, ap, subst, arith, sum}
use Rattle.std.specs.Prelude.{◌%◌, ◌&&◌, ◌==◌, nat_le, OnOk, IfOk, IfErr, IsErrOf}
use Rattle.std.specs.FinMap.{len}
use Rattle.station.specs.Bytes.{Touched}
use Rattle.station.specs.View.{View, Told, SaidTold, Honest, NothingPending, EachHeld, Rose, Lawful, attached_by}
use Rattle.station.specs.Steps.{Steps, Says, Run}
use Rattle.station.specs.declared.travel.Travel.{Travel}
use Rattle.station.proofs.Sayings.{run_in, run_of_steps, run_of_says, run_on}
use Rattle.density_rule.specs.Spread.{resized_counts}
use Rattle.header_gate.specs.Header.{layout_in, live_copy}
use Rattle.header_gate.specs.Places.{height_limit}
use Rattle.header_gate.specs.declared.layout.Layout.{Layout}
use Rattle.header_gate.specs.declared.layout.TheConstants.{INTENT_VERSION}
use Rattle.header_gate.specs.Recovered.{recovered}
use Rattle.header_gate.specs.declared.reason.Reason.{Reason}
use Rattle.header_gate.specs.declared.reason.Reason.TheVariants.{Format}
use Rattle.key_slot.specs.Format.{narrow, wide}
use Rattle.map_model.specs.Array.{resized}
use Rattle.map_model.specs.ArrayState.{ArrayState}
use Rattle.map_model.specs.Image.{Represents, array_of, map_of}
use Rattle.map_model.specs.After.{map_after_items}
use Rattle.map_model.specs.Regions.{IsSparePlace}
use Rattle.map_model.specs.Standing.{StandsWith}
use Rattle.map_model.specs.Store.{Map}
use Rattle.map_model.proofs.Recovering.{determined}
use Rattle.batch_intent.specs.Means.{Means, has_waiting, meant_map}
use Rattle.batch_intent.proofs.Meanings.{meant_one, means_idle, map_made, in_own, in_layout}
use Rattle.batch_intent.proofs.OpeningReasons.{none_of_means}
use Rattle.range_scan.proofs.Checks.{counted_all}
use Rattle.redo_journal.specs.declared.place.Place.{Place}
use Rattle.recovery.specs.declared.fault.OpenFault.{OpenFault}
use Rattle.recovery.specs.declared.fault.OpenFault.TheVariants as opening
use Rattle.resize_region.specs.Upgraded.{MayWiden, Upgrades, TooManyFor, widened, upgraded, upgraded_height}
use Rattle.resize_region.specs.declared.outcome.Upgrade.{Upgrade}
use Rattle.resize_region.specs.declared.outcome.Upgrade.TheVariants.{Done, Already, OneSegment, TooMany}
use Rattle.segment.specs.declared.fault.StoreFault.{StoreFault}
use Rattle.segment.specs.declared.fault.StoreFault.TheVariants.{Failed, Damaged}
use Rattle.command_text.specs.Reply.{reply_text}
use Rattle.command_text.specs.declared.reply.Reply.{Reply}
use Rattle.command_text.specs.declared.reply.Reply.TheVariants as reply
use Rattle.pma_store.specs.Readying.{clear_cost}
use Rattle.pma_store.specs.StoreView.{StoreView, IsOpenOn}
use Rattle.pma_engine.specs.Closing.{IsButClosed, StaysShut, WritesGate}
use Rattle.pma_engine.specs.RunOpening.{IsOpened, IsUnopened, Reopens, reopening_cost}
use Rattle.pma_engine.specs.Refusing.{IsRefusal, SaysLine, line_text, line_of_opening, status_of_opening}
use Rattle.pma_engine.specs.Upgrading.{IsUpgradeStatus, AnswersUpgrade, IsUpgradeRefused, IsUpgraded, KeepsMeaning, MayUpgrade, next_height, opened_height, UpgradesFile, UpgradesOpened, line_of_upgrade, status_of_upgrade, upgrade_cost, widen_cost}
use Rattle.pma_engine.specs.declared.status.TheConstants.{DONE, REFUSED, DISK_FAULT, OUT_OF_MEMORY}
use Rattle.pma_engine.proofs.Meant.{opened_map}

-- what opens a file keeps its meaning
pub keeps_opened : {old new : List ℕ} → Reopens old new → KeepsMeaning old new
keeps_opened opens m has = opens.means m has

pub keeps_on : {old middle new : List ℕ} → KeepsMeaning old middle → KeepsMeaning middle new → KeepsMeaning old new
keeps_on {old} {middle} {new} first second m has = let mid = first m has in in_layout new m mid.layout_is (second m (in_own middle m mid))

-- what keeps it may be an upgrade, and so what keeps it first
pub may_upgrade : {old new : List ℕ} → KeepsMeaning old new → MayUpgrade old new
may_upgrade keeps m has = inl (keeps m has)

pub upgrades_on : {old middle new : List ℕ} → KeepsMeaning old middle → MayUpgrade middle new → MayUpgrade old new
upgrades_on {old} {middle} {new} first second m has = let mid = first m has in subst (λ (l : Layout). Means l new m ⊎ Means (widened l) new m) mid.layout_is (second m (in_own middle m mid))

-- a file without an intent that is to be applied represents what it means
pub represents_idle : {l : Layout} (image : List ℕ) (m : Map) (means : Means l image m) → has_waiting image ≡ false → Represents image m means.height
represents_idle {l} image m means none =
    subst (λ (n : Map). Represents image n means.height)
    (sym (ap (map_after_items (height_limit l) means.base) ((in_own image m means).idle none)) ∙ map_made image m means) means.represents

-- an upgrade leaves the version and the intent's gate, as all that touches but what isn't live
widened_version : {l m : Layout} → MayWiden l m → m.version ≡ l.version
widened_version (inl same) = ap (λ (x : Layout). x.version) same
widened_version (inr wider) = ap (λ (x : Layout). x.version) wider

not_spare : (l : Layout) (spare : ℕ) → IsSparePlace l spare 640 → ⊥
not_spare l spare (inl is) = omega (arith, is)
not_spare l spare (inr (inl is)) = omega (arith, is.0, is.1)
not_spare l spare (inr (inr is)) = omega (arith, is.0)

pub spared_none : (l : Layout) (spare : ℕ) (old new : List ℕ) → (layout_in new).version ≡ (layout_in old).version → Touched (IsSparePlace l spare) old new → has_waiting old ≡ false → has_waiting new ≡ false
spared_none l spare old new version touched none =
    (λ i. nat_le INTENT_VERSION (version i) && (touched.rest 640 (not_spare l spare) i % 2 == 1)) ∙ none

still_none : {place : Place} {height : ℕ} (old new : List ℕ) → Upgrades place height old new → has_waiting old ≡ false → has_waiting new ≡ false
still_none {place} old new upgrades none = spared_none place.layout (1 - place.region) old new (widened_version upgrades.layout_is) upgrades.touched none

-- so what upgrades a file without one keeps its map too, and its layout or gives it slots of format 2
keeps_upgraded : {place : Place} {height : ℕ} {old new : List ℕ} → has_waiting old ≡ false → Upgrades place height old new → MayUpgrade old new
keeps_upgraded {place} {height} {old} {new} none upgrades m has =
    let next_none = still_none old new upgrades none in
    elim (upgrades.map_is m has.height (represents_idle old m has none)) [
      | inl same ↦ laid (means_idle new m has.height same next_none)
      | inr next ↦ laid (means_idle new m height next next_none)
    ]
  where
    laid : Means (layout_in new) new m → Means (layout_in old) new m ⊎ Means (widened (layout_in old)) new m
    laid is = elim upgrades.layout_is [ inl same ↦ inl (in_layout new m same is) | inr wider ↦ inr (in_layout new m wider is) ]

-- a line said behind disk calls was said since before them
pub said_since : (a b d : View) (line : Reply) → b.said ≡ a.said → a.say_faults ≡ b.say_faults → SaysLine line b.said b d → SaysLine line a.said a d
said_since a b d line same calls says = record {
  count = says.count;
  within = says.within;
  said = says.said ∙ ap (λ (l : List ℕ). l ++ take says.count (reply_text line)) same;
  whole = λ calm. says.whole (λ rose. calm (omega (arith, rose, calls)));
}

-- disk calls that keep the map, from a view on where nothing is pending, and a saying behind them
pub run_said : (K : List ℕ → List ℕ → Type 0) {a b d : View} {R : List ℕ → List ℕ → Type 0} {text : List ℕ} → NothingPending a → Steps R a b → ((old new : List ℕ) → Honest a → a.may_leave old → R old new → K old new) → Says text b d → Run (λ image said. K a.held image) a d
run_said K {a} {b} {d} {R} nothing ab keeps says =
    let P : List ℕ → List ℕ → Type 0 = λ image said. K a.held image in
    let from : Honest a → (start image : List ℕ) → a.may_leave start → R start image → K a.held image = λ honest start image left step. subst (λ (x : List ℕ). K x image) (nothing honest start left) (keeps start image honest left step) in
    run_on P (run_of_steps P ab from)
    (run_of_says P says (λ honest image n left within.
    let start = ab.images (ap (λ f. f.honest) (sym ab.frame.fixed) ∙ honest) image left in
    from (ap (λ f. f.honest) (sym ab.frame.fixed) ∙ honest) start.0 image start.1 start.2))
    (λ honest image said pair. pair) (λ honest image said pair. pair)

-- The upgrade of an open store.

-- what `upgrade` says of a store, where it answered r
pub record Facts (r : Result Upgrade StoreFault) (s : StoreView) (place : Place) (a b : View) : Type 0 where
  pub already : (r ≡ Ok Already) ↔ (s.place.layout.format ≡ wide)
  pub one_segment : (r ≡ Ok OneSegment) ↔ ((s.place.layout.format ≡ narrow) × (s.place.layout.hmax ≡ 0))
  pub too_many : (n : ℕ) → (r ≡ Ok (TooMany n)) ↔ TooManyFor s.place.layout (sum s.tally.counts) n
  pub untouched : IfOk r (λ answer. (answer ≡ Done → ⊥) → (b.held ≡ a.held) × (b.travel ≡ a.travel))
  pub steps : Steps (Upgrades s.place (upgraded_height s.place.layout s.tally.height)) a b
  pub settled : OnOk r (NothingPending b)
  pub array : r ≡ Ok Done → Told a → array_of b.held ≡ resized (array_of a.held) (upgraded_height s.place.layout s.tally.height)
  pub stands : r ≡ Ok Done → EachHeld (StandsWith place.layout place.region (upgraded_height s.place.layout s.tally.height) (resized_counts s.tally.counts (upgraded_height s.place.layout s.tally.height))) b
  pub place_is : r ≡ Ok Done → place ≡ upgraded s.place
  pub cost : b.travel.written ≤ a.travel.written + widen_cost s.place.layout s.tally.height
  pub damaged : IfErr r (λ fault. Told a → fault ≡ Failed)
  pub failed : IsErrOf r Failed → Rose a.disk_faults b.disk_faults

-- an answer for which nothing was asked of the station changes nothing
pub seen : {A : Type 0} (view_of : A → View) (x y : A) (r : Result Upgrade StoreFault) → IfOk r (λ answer. (answer ≡ Done → ⊥) → x ≡ y) → IfOk r (λ answer. (answer ≡ Done → ⊥) → ((view_of x).held ≡ (view_of y).held) × ((view_of x).travel ≡ (view_of y).travel))
seen view_of x y (Ok answer) same = λ other. (ap (λ z. (view_of z).held) (same other), ap (λ z. (view_of z).travel) (same other))
seen view_of x y (Err fault) same = tt

module _ (a : View) (s : StoreView) (opened : IsOpenOn s a) where
  pub stands_told : Told a → StandsWith s.place.layout s.place.region s.tally.height s.tally.counts a.held
  stands_told told = (opened.on.stands a.held (inl (told, refl))).balanced.stands

  -- the answer that is due is the same by the file and by the store
  answer_is : Told a → (copy : ℕ) (line : Reply) → AnswersUpgrade (layout_in a.held) copy (len (map_of a.held)) line ≡ AnswersUpgrade s.place.layout copy (sum s.tally.counts) line
  answer_is told copy line =
      let stands = stands_told told in
      let records : len (map_of a.held) ≡ sum s.tally.counts = counted_all s.place.layout s.place.region s.tally.height s.tally.counts a.held stands in
      (λ i. AnswersUpgrade (stands.settled.layout_is i) copy (records i) line)

  -- with the copy that is live
  due_of : Told a → (held : List ℕ) → held ≡ a.held → (line : Reply) → AnswersUpgrade s.place.layout s.place.region (sum s.tally.counts) line → AnswersUpgrade (layout_in a.held) (live_copy held) (len (map_of a.held)) line
  due_of told held same line answers =
      let region : live_copy held ≡ s.place.region = ap live_copy same ∙ (stands_told told).settled.region_is in
      subst (λ (x : Type 0). x) (sym (answer_is told (live_copy held) line)) (subst (λ (n : ℕ). AnswersUpgrade s.place.layout n (sum s.tally.counts) line) (sym region) answers)

  -- no intent is to be applied, at any moment before
  pub none_told : Told a → has_waiting a.held ≡ false
  none_told told = opened.no_intent a.held (inl (told, refl))

  pub none_left : (image : List ℕ) → Honest a → a.may_leave image → has_waiting image ≡ false
  none_left image honest left = opened.no_intent image (inr (honest, left))

  module _ (nothing : NothingPending a) (place : Place) (b d : View) where
    -- a refusal
    refused_by : (r : Result Upgrade StoreFault) → Facts r s place a b → (line : Reply) → IsRefusal line → status_of_upgrade r ≡ REFUSED → {text : List ℕ} → Says text b d → (SaidTold b → SaysLine line b.said b d)
        → (Told a → (b.held ≡ a.held) × (b.travel ≡ a.travel)) → (Told a → AnswersUpgrade s.place.layout s.place.region (sum s.tally.counts) line) → UpgradesOpened REFUSED s.place.layout s.tally.height 0 a d
    refused_by r facts line refuses is says whole same due = record {
      status_is = inr (inl refl);
      run = run_said MayUpgrade nothing facts.steps (λ old new honest left step. keeps_upgraded (none_left old honest left) step) says;
      held = λ told. subst (MayUpgrade a.held) (sym says.held) (keeps_upgraded (none_told told) (facts.steps.held told));
      due = λ e. absurd (omega (arith, e));
      means = λ e. absurd (omega (arith, e));
      no_intent = λ e. absurd (omega (arith, e));
      layout = λ e. absurd (omega (arith, e));
      array = λ e. absurd (omega (arith, e));
      settled = λ e. absurd (omega (arith, e));
      silent = λ never. absurd (never refl);
      line = λ e told. (line, refuses, from told);
      why = λ e told. (line, due_of told d.held (says.held ∙ (same told).0) line (due told), from);
      kept = λ e told. (says.held ∙ (same told).0, ap (λ (t : Travel). t.written) (says.travel ∙ (same told).1));
      written = omega (arith, facts.cost, ap (λ (t : Travel). t.written) says.travel);
      disk = λ e. absurd (omega (arith, e));
    }
      where
        from : SaidTold a → SaysLine line a.said a d
        from told = said_since a b d line facts.steps.frame.said (sym facts.steps.frame.say_faults) (whole (ap (λ f. f.tells_said) facts.steps.frame.fixed ∙ told))

    -- a fault of the disk
    failed_by : Facts (Err Failed) s place a b → UpgradesOpened DISK_FAULT s.place.layout s.tally.height 0 a b
    failed_by facts = record {
      status_is = inr (inr refl);
      run = run_of_steps (λ image said. MayUpgrade a.held image) facts.steps (λ honest start image left step. subst (λ (x : List ℕ). MayUpgrade x image) (nothing honest start left) (keeps_upgraded (none_left start honest left) step));
      held = λ told. keeps_upgraded (none_told told) (facts.steps.held told);
      due = λ e. absurd (omega (arith, e));
      means = λ e. absurd (omega (arith, e));
      no_intent = λ e. absurd (omega (arith, e));
      layout = λ e. absurd (omega (arith, e));
      array = λ e. absurd (omega (arith, e));
      settled = λ e. absurd (omega (arith, e));
      silent = λ other. facts.steps.frame.said;
      line = λ e. absurd (omega (arith, e));
      why = λ e. absurd (omega (arith, e));
      kept = λ e. absurd (omega (arith, e));
      written = omega (arith, facts.cost);
      disk = λ e. facts.failed refl;
    }

    -- an upgraded store
    done_by : Facts (Ok Done) s place a b → UpgradesOpened DONE s.place.layout s.tally.height 0 a b
    done_by facts = record {
      status_is = inl refl;
      run = run_of_steps (λ image said. MayUpgrade a.held image) facts.steps (λ honest start image left step. subst (λ (x : List ℕ). MayUpgrade x image) (nothing honest start left) (keeps_upgraded (none_left start honest left) step));
      held = λ told. keeps_upgraded (none_told told) (facts.steps.held told);
      due = λ e told copy line answers. not_due copy line (subst (λ (x : Type 0). x) (answer_is told copy line) answers);
      means = λ e told m here.
          let new = stands_new told in
          let is : m ≡ map_of b.held = elim ((facts.steps.held told).map_is m s.tally.height here) [ inl same ↦ (determined b.held m s.tally.height same).0 | inr other ↦ (determined b.held m next other).0 ] in
          let represents = subst (λ (n : Map). Represents b.held n next) (sym is) (subst (Represents b.held (map_of b.held)) new.height_is new.settled.represents) in
          (in_layout b.held m (layout_new told) (means_idle b.held m next represents (none_new told)), refl);
      no_intent = λ e told. none_new told;
      layout = λ e told. layout_new told;
      array = λ e told. facts.array refl told;
      settled = λ e. facts.settled;
      silent = λ other. facts.steps.frame.said;
      line = λ e. absurd (omega (arith, e));
      why = λ e. absurd (omega (arith, e));
      kept = λ e. absurd (omega (arith, e));
      written = omega (arith, facts.cost);
      disk = λ e. absurd (omega (arith, e));
    }
      where
        next : ℕ
        next = upgraded_height s.place.layout s.tally.height

        none_new : Told a → has_waiting b.held ≡ false
        none_new told = still_none a.held b.held (facts.steps.held told) (none_told told)

        stands_new : Told a → StandsWith place.layout place.region next (resized_counts s.tally.counts next) b.held
        stands_new told = facts.stands refl b.held (inl (ap (λ f. f.tells_held) facts.steps.frame.fixed ∙ told, refl))

        layout_new : Told a → layout_in b.held ≡ widened (layout_in a.held)
        layout_new told = (stands_new told).settled.layout_is ∙ ap (λ (p : Place). p.layout) (facts.place_is refl) ∙ sym (ap widened (stands_told told).settled.layout_is)

        not_due : (copy : ℕ) (line : Reply) → AnswersUpgrade s.place.layout copy (sum s.tally.counts) line → ⊥
        not_due copy line (inl already) = let e : Ok Done ≡ Ok Already = facts.already.1 already.0 in cc
        not_due copy line (inr (inl one)) = let e : Ok Done ≡ Ok OneSegment = facts.one_segment.1 (one.0, one.1) in cc
        not_due copy line (inr (inr many)) =
            let e : Ok Done ≡ Ok (TooMany (sum s.tally.counts)) = (facts.too_many (sum s.tally.counts)).1 (record { narrow_is = many.0; some = many.1; above = many.2; number = refl }) in
            cc

    upgraded_of : (r : Result Upgrade StoreFault) → Facts r s place a b → Says (line_text (line_of_upgrade s.place.region r)) b d → (line_of_upgrade s.place.region r ≡ None → d ≡ b)
        → ((line : Reply) → line_of_upgrade s.place.region r ≡ Some line → SaidTold b → SaysLine line b.said b d) → UpgradesOpened (status_of_upgrade r) s.place.layout s.tally.height 0 a d
    upgraded_of (Ok Done) facts says silent line = subst (UpgradesOpened DONE s.place.layout s.tally.height 0 a) (sym (silent refl)) (done_by facts)
    upgraded_of (Ok Already) facts says silent line =
        refused_by (Ok Already) facts (reply.NotStore (Format s.place.region wide)) tt refl says (line (reply.NotStore (Format s.place.region wide)) refl)
        (λ told. facts.untouched (λ e. cc)) (λ told. inl (facts.already.0 refl, refl))
    upgraded_of (Ok OneSegment) facts says silent line =
        let is = facts.one_segment.0 refl in
        refused_by (Ok OneSegment) facts reply.OneSegment tt refl says (line reply.OneSegment refl)
        (λ told. facts.untouched (λ e. cc)) (λ told. inr (inl (is.0, is.1, refl)))
    upgraded_of (Ok (TooMany records)) facts says silent line =
        let is = (facts.too_many records).0 refl in
        refused_by (Ok (TooMany records)) facts (reply.TooMany records) tt refl says (line (reply.TooMany records) refl)
        (λ told. facts.untouched (λ e. cc)) (λ told. inr (inr (is.narrow_is, is.some, is.above, ap reply.TooMany is.number)))
    upgraded_of (Err Failed) facts says silent line = subst (UpgradesOpened DISK_FAULT s.place.layout s.tally.height 0 a) (sym (silent refl)) (failed_by facts)
    upgraded_of (Err (Damaged segment why)) facts says silent line =
        refused_by (Err (Damaged segment why)) facts (reply.Damaged segment why) tt refl says (line (reply.Damaged segment why) refl)
        (λ told. absurd (never told)) (λ told. absurd (never told))
      where
        never : Told a → ⊥
        never told = let e : Damaged segment why ≡ Failed = facts.damaged told in cc

    -- what was ended by its own copy
    pub upgraded_from : (copy : ℕ) → copy ≡ s.place.region → (r : Result Upgrade StoreFault) → Facts r s place a b → Says (line_text (line_of_upgrade copy r)) b d → (line_of_upgrade copy r ≡ None → d ≡ b)
        → ((line : Reply) → line_of_upgrade copy r ≡ Some line → SaidTold b → SaysLine line b.said b d) → UpgradesOpened (status_of_upgrade r) s.place.layout s.tally.height 0 a d
    upgraded_from copy is r facts =
        subst (λ (n : ℕ). Says (line_text (line_of_upgrade n r)) b d → (line_of_upgrade n r ≡ None → d ≡ b) → ((line : Reply) → line_of_upgrade n r ≡ Some line → SaidTold b → SaysLine line b.said b d) → UpgradesOpened (status_of_upgrade r) s.place.layout s.tally.height 0 a d)
        (sym is) (upgraded_of r facts)

-- The outcome of the whole job.

pub record Comes (status : ℕ) (a b : View) : Type 0 where
  pub status_is : IsUpgradeStatus status
  pub attached : b.attached ≡ Some false
  pub upgraded : UpgradesFile status a b
  pub disk : status ≡ DISK_FAULT → Rose a.disk_faults b.disk_faults

module _ (a b : View) (law : Lawful a) (ab : Steps Reopens (attached_by false a) b) where
  -- of a file that was not opened: nothing was done but what an opening does
  pub unopened_run : {d : View} {text : List ℕ} → NothingPending a → Says text b d → Run (λ image said. KeepsMeaning a.held image) (attached_by false a) d
  unopened_run nothing says = run_said KeepsMeaning nothing ab (λ old new honest left step. keeps_opened step) says

  module _ (d : View) where
    -- it isn't refused
    quiet : (fault : OpenFault) → IsUnopened fault (attached_by false a) b → (status : ℕ) → (status ≡ DISK_FAULT) ⊎ (status ≡ OUT_OF_MEMORY) → (status ≡ DISK_FAULT → fault ≡ opening.Failed) → (status ≡ OUT_OF_MEMORY → fault ≡ opening.Memory) → Comes status a b
    quiet fault unopened status is failed memory = record {
      status_is = inr (inr is);
      attached = ab.frame.attached;
      upgraded = record {
        steps = λ nothing. run_of_steps (λ image said. MayUpgrade a.held image) ab (λ honest start image left step. may_upgrade (subst (λ (x : List ℕ). KeepsMeaning x image) (nothing honest start left) (keeps_opened step)));
        held = λ told. may_upgrade (keeps_opened (ab.held told));
        kept = λ not_done not_disk told. keeps_opened (ab.held told);
        done = λ e. absurd (other DONE ((λ x. omega (arith, x)), (λ x. omega (arith, x))) e);
        settled = λ e. absurd (other DONE ((λ x. omega (arith, x)), (λ x. omega (arith, x))) e);
        shut = λ e. absurd (other DONE ((λ x. omega (arith, x)), (λ x. omega (arith, x))) e);
        silent = λ e. ab.frame.said;
        refused = λ e. absurd (other REFUSED ((λ x. omega (arith, x)), (λ x. omega (arith, x))) e);
        memory = λ e. unopened.memory (memory e);
        complete = λ told m here calm. elim is [ inl e ↦ absurd (calm (unopened.failed (failed e))) | inr e ↦ inr (inl e) ];
        written = λ told. omega (arith, unopened.cost told);
      };
      disk = λ e. unopened.failed (failed e);
    }
      where
        other : (n : ℕ) → (n ≡ 4 → ⊥) × (n ≡ 7 → ⊥) → status ≡ n → ⊥
        other n none e = elim is [ inl x ↦ none.0 (sym e ∙ x) | inr x ↦ none.1 (sym e ∙ x) ]

    -- it is refused, and represents no map
    refused_file : (line : Reply) → IsRefusal line → IsUpgradeRefused a d → {text : List ℕ} → Says text b d → (Told a → b.travel.written ≤ a.travel.written + reopening_cost a.held) → (Told a → (m : Map) → Means (layout_in a.held) a.held m → ⊥) → Comes REFUSED a d
    refused_file line refuses refused says cost never = record {
      status_is = inr (inl refl);
      attached = says.attached ∙ ab.frame.attached;
      upgraded = record {
        steps = λ nothing. run_in (λ image said. MayUpgrade a.held image) (unopened_run nothing says) (λ honest image said keeps. may_upgrade keeps);
        held = λ told. may_upgrade (subst (KeepsMeaning a.held) (sym says.held) (keeps_opened (ab.held told)));
        kept = λ not_done not_disk told. subst (KeepsMeaning a.held) (sym says.held) (keeps_opened (ab.held told));
        done = λ e. absurd (omega (arith, e));
        settled = λ e. absurd (omega (arith, e));
        shut = λ e. absurd (omega (arith, e));
        silent = λ other. absurd (other refl);
        refused = λ e. refused;
        memory = λ e. absurd (omega (arith, e));
        complete = λ told m here calm. absurd (never told m here);
        written = λ told. omega (arith, cost told, ap (λ (t : Travel). t.written) says.travel);
      };
      disk = λ e. absurd (omega (arith, e));
    }

    pub comes_unopened : (fault : OpenFault) → IsUnopened fault (attached_by false a) b → (line_of_opening fault ≡ None → d ≡ b) → Says (line_text (line_of_opening fault)) b d → ((line : Reply) → line_of_opening fault ≡ Some line → SaidTold b → SaysLine line b.said b d)
        → Comes (status_of_opening fault) a d
    comes_unopened opening.Memory unopened silent says line = subst (Comes OUT_OF_MEMORY a) (sym (silent refl)) (quiet opening.Memory unopened OUT_OF_MEMORY (inr refl) (λ e. absurd (omega (arith, e))) (λ e. refl))
    comes_unopened opening.Failed unopened silent says line = subst (Comes DISK_FAULT a) (sym (silent refl)) (quiet opening.Failed unopened DISK_FAULT (inl refl) (λ e. refl) (λ e. absurd (omega (arith, e))))
    comes_unopened (opening.NotStore reason) unopened silent says line =
        refused_file (reply.NotStore reason) tt (record {
          line = λ told. (reply.NotStore reason, tt, from told);
          why = λ told. (reply.NotStore reason, inl (reason, unopened.refused reason refl told, refl), from);
          recovers = λ told r is. subst (λ (x : List ℕ). IsButClosed a.held (recovered (layout_in a.held) a.held) (recovered (layout_in a.held) x)) (sym says.held) (unopened.recovers reason refl told);
          bare = λ told r is bare. subst (IsButClosed a.held a.held) (sym says.held) (unopened.bare reason refl told bare);
          copy = λ told none. ap live_copy says.held ∙ (ab.held told).copy none;
          kept = λ told rest. (subst (IsButClosed a.held a.held) (sym says.held) (unopened.bare reason refl told rest.rest.bare), subst (WritesGate a.held a.travel.written) (sym (ap (λ (t : Travel). t.written) says.travel)) (unopened.unwritten told rest));
        }) says unopened.cost (λ told m here. none_some (sym (none_of_means a.held m here) ∙ unopened.refused reason refl told))
      where
        none_some : {r : Reason} → None ≡ Some r → ⊥
        none_some is = cc

        from : SaidTold a → SaysLine (reply.NotStore reason) a.said a d
        from told = said_since a b d (reply.NotStore reason) ab.frame.said (sym ab.frame.say_faults) (line (reply.NotStore reason) refl (ap (λ f. f.tells_said) ab.frame.fixed ∙ told))
    comes_unopened (opening.Damaged segment why) unopened silent says line =
        refused_file (reply.Damaged segment why) tt (record {
          line = λ told. (reply.Damaged segment why, tt, from told);
          why = λ told. absurd (unopened.undamaged told);
          recovers = λ told. absurd (unopened.undamaged told);
          bare = λ told. absurd (unopened.undamaged told);
          copy = λ told. absurd (unopened.undamaged told);
          kept = λ told. absurd (unopened.undamaged told);
        }) says unopened.cost (λ told. absurd (unopened.undamaged told))
      where
        from : SaidTold a → SaysLine (reply.Damaged segment why) a.said a d
        from told = said_since a b d (reply.Damaged segment why) ab.frame.said (sym ab.frame.say_faults) (line (reply.Damaged segment why) refl (ap (λ f. f.tells_said) ab.frame.fixed ∙ told))

  -- of a file that was opened
  module _ (v : StoreView) (opened : IsOpened v (attached_by false a) b) where
    on : Told a → Told b
    on told = ap (λ f. f.tells_held) ab.frame.fixed ∙ told

    stands_opened : Told a → StandsWith v.place.layout v.place.region v.tally.height v.tally.counts b.held
    stands_opened told = (opened.store.on.stands b.held (inl (on told, refl))).balanced.stands

    same_layout : Told a → layout_in b.held ≡ layout_in a.held
    same_layout told = (stands_opened told).settled.layout_is ∙ opened.layout told

    -- the map that the file meant
    same_map : Told a → map_of b.held ≡ meant_map a.held
    same_map told = ap (λ (s : ArrayState). s.map) (opened.state told) ∙ opened_map a.held

    -- the height at which the store was opened
    same_height : Told a → v.tally.height ≡ opened_height a.held
    same_height told = sym (stands_opened told).height_is ∙ ap (λ (s : ArrayState). s.height) (opened.state told)

    same_answer : Told a → (copy : ℕ) (line : Reply) → AnswersUpgrade (layout_in b.held) copy (len (map_of b.held)) line ≡ AnswersUpgrade (layout_in a.held) copy (len (meant_map a.held)) line
    same_answer told copy line = (λ i. AnswersUpgrade (same_layout told i) copy (len (same_map told i)) line)

    same_next : Told a → upgraded_height v.place.layout v.tally.height ≡ next_height a.held
    same_next told = (λ i. upgraded_height (opened.layout told i) (same_height told i))

    answer_before : Told a → (copy : ℕ) (line : Reply) → AnswersUpgrade (layout_in b.held) copy (len (map_of b.held)) line → AnswersUpgrade (layout_in a.held) copy (len (meant_map a.held)) line
    answer_before told copy line = subst (λ (x : Type 0). x) (same_answer told copy line)

    module _ (status : ℕ) (d : View) (upgrades : UpgradesOpened status v.place.layout v.tally.height (clear_cost v.place.layout) b d) where
      was_upgraded : status ≡ DONE → Told a → IsUpgraded a.held d.held
      was_upgraded e told = record {
        sound = opened.sound told;
        due = λ copy line answers. upgrades.due e (on told) copy line (subst (λ (x : Type 0). x) (sym (same_answer told copy line)) answers);
        means = λ l m here.
            let own : map_of b.held ≡ m = same_map told ∙ sym (meant_one a.held m here).0 in
            let stands = stands_opened told in
            let represents : Represents b.held m v.tally.height = subst (λ (n : Map). Represents b.held n v.tally.height) own (subst (Represents b.held (map_of b.held)) stands.height_is stands.settled.represents) in
            let is = upgrades.means e (on told) m represents in
            (in_layout d.held m (ap widened (same_layout told ∙ here.layout_is)) is.0, is.1 ∙ same_next told);
        no_intent = upgrades.no_intent e (on told);
        layout = upgrades.layout e (on told) ∙ ap widened (same_layout told);
        array = upgrades.array e (on told) ∙ (λ i. resized (opened.state told i).array (same_next told i));
      }

      was_refused : status ≡ REFUSED → IsUpgradeRefused a d
      was_refused e = record {
        line = λ told. let last = upgrades.line e (ap (λ f. f.tells_said) ab.frame.fixed ∙ told) in (last.0, last.1, said_since a b d last.0 ab.frame.said (sym ab.frame.say_faults) last.2);
        why = λ told.
            let last = upgrades.why e (on told) in
            (last.0, inr (opened.sound told, answer_before told (live_copy d.held) last.0 last.1), (λ said. said_since a b d last.0 ab.frame.said (sym ab.frame.say_faults) (last.2 (ap (λ f. f.tells_said) ab.frame.fixed ∙ said))));
        recovers = λ told r is. absurd (none_some (sym (opened.sound told) ∙ is));
        bare = λ told r is. absurd (none_some (sym (opened.sound told) ∙ is));
        copy = λ told none. ap live_copy (upgrades.kept e (on told)).0 ∙ (ab.held told).copy none;
        kept = λ told rest. let kept = upgrades.kept e (on told) in (subst (IsButClosed a.held a.held) (sym kept.0) (opened.kept told rest), subst (WritesGate a.held a.travel.written) (sym kept.1) (opened.unwritten told rest));
      }
        where
          none_some : {r : Reason} → None ≡ Some r → ⊥
          none_some is = cc

      pub comes_opened : StaysShut b d → Comes status a d
      comes_opened stays = record {
        status_is = elim upgrades.status_is [ inl e ↦ inl e | inr (inl e) ↦ inr (inl e) | inr (inr e) ↦ inr (inr (inl e)) ];
        attached = upgrades.run.attached ∙ ab.frame.attached;
        upgraded = record {
          steps = λ nothing.
              let P : List ℕ → List ℕ → Type 0 = λ image said. MayUpgrade a.held image in
              run_on P (run_of_steps P ab (λ honest start image left step. may_upgrade (subst (λ (x : List ℕ). KeepsMeaning x image) (nothing honest start left) (keeps_opened step)))) upgrades.run
              (λ honest image said keeps. keeps)
              (λ honest image said moved. upgrades_on (keeps_opened (ab.held (law.tells honest).0)) moved);
          held = λ told. upgrades_on (keeps_opened (ab.held told)) (upgrades.held (on told));
          kept = λ not_done not_disk told. elim upgrades.status_is [
            | inl e ↦ absurd (not_done e)
            | inr (inl e) ↦ subst (KeepsMeaning a.held) (sym (upgrades.kept e (on told)).0) (keeps_opened (ab.held told))
            | inr (inr e) ↦ absurd (not_disk e)
          ];
          done = was_upgraded;
          settled = upgrades.settled;
          shut = λ e told. stays.after opened.shut d.held (inl (ap (λ f. f.tells_held) upgrades.run.fixed ∙ on told, refl));
          silent = λ other. upgrades.silent other ∙ ab.frame.said;
          refused = was_refused;
          memory = λ e. absurd (elim upgrades.status_is [ inl x ↦ omega (arith, e, x) | inr (inl x) ↦ omega (arith, e, x) | inr (inr x) ↦ omega (arith, e, x) ]);
          complete = λ told m here calm. elim upgrades.status_is [
            | inl e ↦ inl e
            | inr (inl e) ↦ let last = upgrades.why e (on told) in inr (inr (e, (last.0, answer_before told (live_copy d.held) last.0 last.1)))
            | inr (inr e) ↦ absurd (calm (disk_from e))
          ];
          written = λ told. omega (arith, opened.cost told, upgrades.written, same_cost told);
        };
        disk = disk_from;
      }
        where
          disk_from : status ≡ DISK_FAULT → Rose a.disk_faults d.disk_faults
          disk_from e = omega (arith, upgrades.disk e, ab.frame.disk_faults)

          same_cost : Told a → upgrade_cost v.place.layout v.tally.height ≡ upgrade_cost (layout_in a.held) (opened_height a.held)
          same_cost told = (λ i. upgrade_cost (opened.layout told i) (same_height told i))
