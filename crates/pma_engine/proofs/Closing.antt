-- The closing of an index, and what keeps one closed.
use Rattle.std.proofs.Common.{◌≡◌, ◌⊎◌, inl, inr, ℕ, ◌+◌, ◌*◌, ◌^◌, ◌≤◌, ◌<◌, nat_le, Bool, true, false, cond, List, length, refl, sym, ap, subst, ◌∙◌, arith}
use Rattle.std.proofs.lemmas.Bool.Decides.{nat_tests}
use Rattle.station.specs.Bytes.{byte, Same, Touched}
use Rattle.station.specs.View.{View, Fixed, Told, Honest, EachHeld, Lawful}
use Rattle.station.specs.Steps.{Steps, Says}
use Rattle.station.proofs.Composition.{same_on, on_same, told_of, told_on, weaken}
use Rattle.station.proofs.Sayings.{each_says, leaves_in, leaves_on}
use Rattle.header_gate.specs.declared.layout.Layout.{Layout}
use Rattle.header_gate.specs.declared.layout.TheConstants.{INDEXED}
use Rattle.header_gate.specs.Header.{layout_in}
use Rattle.header_gate.proofs.NumberLaws.{number_same}
use Rattle.header_gate.proofs.RecoveredPages.{page_before}
use Rattle.map_model.specs.Regions.{IsSparePlace}
use Rattle.map_model.specs.Store.{Update}
use Rattle.pma_store.specs.Batching.{IsBatchPlace}
use Rattle.pma_store.specs.ItemsMade.{IsItemPlace}
use Rattle.pma_store.specs.StoreView.{StoreView, IsOpenOn}
use Rattle.pma_store.specs.Touching.{IsClearPlace, IsUpdatePlace, Updates}
use Rattle.pma_store.proofs.Resting.{covered_held}
use Rattle.pma_store.proofs.Touching.{moves_touch}
use Rattle.recovery.specs.Restores.{LeavesFile}
use Rattle.index_file.specs.Clean.{IsClean, IsOpenIndex, IsShut, KeepsClean, version_of}
use Rattle.index_file.proofs.CleanLaws.{clean_shut}
use Rattle.index_file.proofs.Keeping.{shut_on, shut_stays}
use Rattle.pma_engine.specs.Carrying.{Looks}
use Rattle.pma_engine.specs.Closing.{ClosesAtMost, IsButClosed, StaysShut, WritesGate, closing_cost, leaving_calls, leaving_cost}
use Rattle.index_file.specs.IndexReading.{area_calls}

-- What is written.

pub closing_some : (l : Layout) → INDEXED ≤ l.version → closing_cost l ≡ 1
unfolding closing_cost
closing_some l is = grind (arith, nat_tests, is)

pub leaving_some : (l : Layout) (height : ℕ) → INDEXED ≤ l.version → leaving_cost l height ≡ 68 * 2 ^ height + 1
unfolding leaving_cost
leaving_some l height is = ap (λ (b : Bool). cond b (68 * 2 ^ height + 1) 0) (let e : nat_le INDEXED l.version ≡ true = grind (arith, nat_tests, is) in e)

pub leaving_called : (l : Layout) (height : ℕ) → INDEXED ≤ l.version → leaving_calls l height ≡ area_calls height + 3
unfolding leaving_calls
leaving_called l height is = ap (λ (b : Bool). cond b (area_calls height + 3) 0) (let e : nat_le INDEXED l.version ≡ true = grind (arith, nat_tests, is) in e)

-- a closing writes at most what it costs
pub gate_cost : (file : List ℕ) (before after : ℕ) → WritesGate file before after → after ≤ before + closing_cost (layout_in file)
gate_cost file before after writes = by (nat_le INDEXED (layout_in file).version) refl
  where
    by : (b : Bool) → nat_le INDEXED (layout_in file).version ≡ b → after ≤ before + closing_cost (layout_in file)
    by true is = let here : INDEXED ≤ (layout_in file).version = grind (arith, nat_tests, is) in omega (arith, writes.most, closing_some (layout_in file) here)
    by false is =
        let other : INDEXED ≤ version_of file → ⊥ = λ e. grind (arith, nat_tests, is, e) in
        omega (arith, writes.none (λ there. other there.indexed))

-- What stays.

pub but_none : (file old : List ℕ) → IsButClosed file old old
but_none file old = record { touched = record { size = refl; rest = λ k out. refl }; kept = λ shut. refl }

pub gate_none : (file : List ℕ) (before after : ℕ) → after ≡ before → WritesGate file before after
gate_none file before after same = record { none = λ shut. same; most = omega (arith, same) }

-- a closing, by what is held
pub but_of : {a b : View} → ClosesAtMost a b → Told a → IsButClosed a.held a.held b.held
but_of closes told = record { touched = closes.steps.held told; kept = λ shut. (closes.kept told shut).steps.held told }

pub gate_of : {a b : View} → ClosesAtMost a b → Told a → WritesGate a.held a.travel.written b.travel.written
gate_of closes told = record { none = λ shut. (closes.kept told shut).unwritten; most = closes.most }

-- what changes no byte before it
pub closes_behind : {a b c : View} → Steps Same a b → b.travel.written ≡ a.travel.written → ClosesAtMost b c → ClosesAtMost a c
closes_behind {a} {b} {c} ab written closes = record {
  steps = on_same ab closes.steps (λ x. record { size = refl; rest = λ k out. refl });
  kept = λ told shut.
      let kept = closes.kept (told_on ab.frame told) (subst (λ (x : List ℕ). IsOpenIndex x → ⊥) (sym (ab.held told)) shut) in
      record { steps = same_on ab kept.steps; unwritten = kept.unwritten ∙ written };
  most = omega (arith, closes.most, written);
}

-- and behind it
pub closes_then : {b c d : View} → ClosesAtMost b c → LeavesFile c d → ClosesAtMost b d
closes_then {b} {c} {d} closes cd = record {
  steps = same_on closes.steps cd.steps;
  kept = λ told shut.
      let kept = closes.kept told shut in
      record { steps = same_on kept.steps cd.steps; unwritten = cd.unwritten ∙ kept.unwritten };
  most = omega (arith, cd.unwritten, closes.most);
}

pub closes_none : {a b : View} → LeavesFile a b → ClosesAtMost a b
closes_none leaves = record {
  steps = weaken leaves.steps (λ x y left same. record { size = ap length same; rest = λ k out. ap (λ (l : List ℕ). byte l k) same });
  kept = λ told shut. leaves;
  most = omega (arith, leaves.unwritten);
}

-- What keeps an index closed.

-- the version and the clean gate stay
abbrev pub KeepsGate : List ℕ → List ℕ → Type 0
KeepsGate old new = (version_of new ≡ version_of old) × (byte new 704 ≡ byte old 704)

-- Places that are neither the clean gate nor the version.

keeps_gate : {places : ℕ → Type 0} (old new : List ℕ) → ((k : ℕ) → (k ≡ 704) ⊎ ((3080 ≤ k) × (k < 3084)) → places k → ⊥) → Touched places old new → KeepsGate old new
keeps_gate old new apart touched = (
  number_same new old 3080 3080 (λ n x y lt ex ey. let e : x ≡ y = omega (arith, ex, ey) in touched.rest x (apart x (inr (omega (arith, ex), omega (arith, ex, lt)))) ∙ ap (byte old) e),
  touched.rest 704 (apart 704 (inl refl)),
)

-- those of updates
not_updated : (l : Layout) (k : ℕ) → (k ≡ 704) ⊎ ((3080 ≤ k) × (k < 3084)) → IsUpdatePlace l k → ⊥
not_updated l k (inl at) (inl is) = omega (arith, is, at)
not_updated l k (inl at) (inr (inl is)) = omega (arith, is.0, at)
not_updated l k (inl at) (inr (inr (inl is))) = omega (arith, is.0, at)
not_updated l k (inl at) (inr (inr (inr (inl is)))) = omega (arith, is, at)
not_updated l k (inl at) (inr (inr (inr (inr (inl is))))) = omega (arith, is.0, at)
not_updated l k (inl at) (inr (inr (inr (inr (inr is))))) = omega (arith, is.0, at, page_before l 0)
not_updated l k (inr at) (inl is) = omega (arith, is, at.0)
not_updated l k (inr at) (inr (inl is)) = omega (arith, is.1, at.0)
not_updated l k (inr at) (inr (inr (inl is))) = omega (arith, is.1, at.0)
not_updated l k (inr at) (inr (inr (inr (inl is)))) = omega (arith, is, at.0)
not_updated l k (inr at) (inr (inr (inr (inr (inl is))))) = omega (arith, is.0, at.1)
not_updated l k (inr at) (inr (inr (inr (inr (inr is))))) = omega (arith, is.0, at.1, page_before l 0)

pub update_gate : {hmax : ℕ} {u : Update} (old new : List ℕ) → Updates hmax u old new → KeepsGate old new
update_gate old new updates = keeps_gate old new (not_updated (layout_in old)) updates.touched

-- of items and their intent's gate
pub item_gate : (l : Layout) (old new : List ℕ) → Touched (IsItemPlace l) old new → KeepsGate old new
item_gate l old new touched = keeps_gate old new apart touched
  where
    apart : (k : ℕ) → (k ≡ 704) ⊎ ((3080 ≤ k) × (k < 3084)) → IsItemPlace l k → ⊥
    apart k at (inl is) = not_updated l k at is
    apart k (inl at) (inr is) = omega (arith, is, at)
    apart k (inr at) (inr is) = omega (arith, is, at.0)

-- So the index means nothing in each image that an open store's station may hold, if it means nothing in the held bytes.
pub shut_held : {b : View} (s : StoreView) → Lawful b → IsOpenOn s b → (Told b → IsShut b.held) → EachHeld IsShut b
shut_held {b} s law here shut d left =
    let told = told_of law d left in
    let stands = here.on.stands b.held (inl (told, refl)) in
    let same = keeps_gate b.held d (not_updated (layout_in b.held)) (moves_touch s b.held d stands (covered_held s law here.on d left)) in
    shut_stays b.held d (shut told) same.0 same.1

-- of batches
pub batch_gate : (l : Layout) (old new : List ℕ) → Touched (IsBatchPlace l) old new → KeepsGate old new
batch_gate l old new touched = keeps_gate old new apart touched
  where
    apart : (k : ℕ) → (k ≡ 704) ⊎ ((3080 ≤ k) × (k < 3084)) → IsBatchPlace l k → ⊥
    apart k at (inl is) = not_updated l k at is
    apart k (inl at) (inr (inl is)) = omega (arith, is.0, at)
    apart k (inr at) (inr (inl is)) = omega (arith, is.0, at.1)
    apart k (inl at) (inr (inr is)) = omega (arith, is, at)
    apart k (inr at) (inr (inr is)) = omega (arith, is, at.0)

-- of the gate and the journals
pub clear_gate : (l : Layout) (old new : List ℕ) → Touched (IsClearPlace l) old new → KeepsGate old new
clear_gate l old new touched = keeps_gate old new apart touched
  where
    apart : (k : ℕ) → (k ≡ 704) ⊎ ((3080 ≤ k) × (k < 3084)) → IsClearPlace l k → ⊥
    apart k (inl at) (inl gate) = omega (arith, gate, at)
    apart k (inl at) (inr journal) = omega (arith, journal.0, at)
    apart k (inr at) (inl gate) = omega (arith, gate, at.0)
    apart k (inr at) (inr journal) = omega (arith, journal.0, at.1)

-- and of what isn't live
pub spare_gate : (l : Layout) (spare : ℕ) → spare < 2 → (old new : List ℕ) → Touched (IsSparePlace l spare) old new → KeepsGate old new
spare_gate l spare small old new touched = keeps_gate old new apart touched
  where
    apart : (k : ℕ) → (k ≡ 704) ⊎ ((3080 ≤ k) × (k < 3084)) → IsSparePlace l spare k → ⊥
    apart k (inl at) (inl is) = omega (arith, is, at)
    apart k (inr at) (inl is) = omega (arith, is, at.0)
    apart k (inl at) (inr (inl is)) = omega (arith, is.0, at)
    apart k (inr at) (inr (inl is)) = omega (arith, is.1, at.0, small)
    apart k (inl at) (inr (inr is)) = omega (arith, is.0, at, page_before l spare)
    apart k (inr at) (inr (inr is)) = omega (arith, is.0, at.1, page_before l spare)

-- Runs.

pub stays_none : (a : View) → StaysShut a a
stays_none a = record { after = λ shut. shut; moments = λ shut. record { each = λ honest t image said le left. inl left } }

pub stays_steps : {a b : View} {R : List ℕ → List ℕ → Type 0} → Steps R a b → ((d i : List ℕ) → R d i → KeepsGate d i) → StaysShut a b
stays_steps {a} {b} {R} steps keeps = record {
  after = λ shut. shut_on shut steps keeps;
  moments = λ shut. leaves_in (λ image said. IsShut image) steps.moments (λ honest image said now.
      let same = keeps now.1.0 image now.1.2 in shut_stays now.1.0 image (shut now.1.0 (inr (honest, now.1.1))) same.0 same.1);
}

-- what changes no byte
pub stays_same : {a b : View} → Steps Same a b → StaysShut a b
stays_same steps = stays_steps steps (λ d i same. (ap version_of same, ap (λ (x : List ℕ). byte x 704) same))

pub shut_says : {a b : View} {bytes : List ℕ} → Says bytes a b → StaysShut a b
shut_says says = record {
  after = λ shut. each_says IsShut says shut;
  moments = λ shut. leaves_in (λ image said. IsShut image) says.moments (λ honest image said now. shut image (inr (honest, now.0)));
}

pub stays_on : {a b c : View} → b.fixed ≡ a.fixed → a.calls ≤ b.calls → StaysShut a b → StaysShut b c → StaysShut a c
stays_on fixed calls ab bc = record {
  after = λ shut. bc.after (ab.after shut);
  moments = λ shut. leaves_on (λ image said. IsShut image) fixed calls (ab.moments shut) (bc.moments (ab.after shut)) (λ honest image said is. is) (λ honest image said is. is);
}

-- steps, and a saying behind them
pub stays_said : {a b d : View} {R : List ℕ → List ℕ → Type 0} {text : List ℕ} → Steps R a b → ((d i : List ℕ) → R d i → KeepsGate d i) → Says text b d → StaysShut a d
stays_said steps keeps says = stays_on steps.frame.fixed steps.frame.calls (stays_steps steps keeps) (shut_says says)

-- a look
pub stays_look : {a b : View} → Lawful a → Lawful b → Looks a b → StaysShut a b
stays_look {a} {b} law law_b looks = record {
  after = λ shut image may. elim may [
    | inl told ↦ let told_a : Told a = ap (λ (f : Fixed). f.tells_held) (sym looks.run.fixed) ∙ told.0 in subst IsShut (sym (told.1 ∙ looks.held told_a)) (shut a.held (inl (told_a, refl)))
    | inr honest ↦
        let honest_a : Honest a = ap (λ (f : Fixed). f.honest) (sym looks.run.fixed) ∙ honest.0 in
        elim (looks.run.moments.each honest_a a.calls image b.said (omega arith) (law_b.now honest.0 a.calls image looks.run.calls honest.1)) [
          | inl past ↦ shut image (inr (honest_a, (law.present honest_a image b.said past).0))
          | inr may_leave ↦ shut image (inr (honest_a, may_leave))
        ]
  ];
  moments = λ shut. leaves_in (λ image said. IsShut image) looks.run.moments (λ honest image said may_leave. shut image (inr (honest, may_leave)));
}

-- Clean files.

-- an index that means nothing stays so, and the file clean
pub keeps_staying : {a b : View} → (Told a → Told b) → EachHeld IsShut a → StaysShut a b → KeepsClean a b
keeps_staying {a} {b} on shut stays = record {
  held = λ told is. clean_shut b.held (stays.after shut b.held (inl (on told, refl)));
  moments = λ nothing is. leaves_in (λ image said. IsClean image) (stays.moments shut) (λ honest image said is. clean_shut image is);
}

-- a saying behind what keeps a file clean
pub keeps_said : {a b d : View} {bytes : List ℕ} → Lawful a → Lawful b → b.fixed ≡ a.fixed → a.calls ≤ b.calls → KeepsClean a b → Says bytes b d → KeepsClean a d
keeps_said {a} {b} {d} law law_b fixed calls keeps says = record {
  held = λ told is. subst IsClean (sym says.held) (keeps.held told is);
  moments = λ nothing is.
      let first = keeps.moments nothing is in
      leaves_on (λ image said. IsClean image) fixed calls first says.moments (λ honest image said clean. clean) (λ honest_a image said now.
      let honest_b : Honest b = ap (λ (f : Fixed). f.honest) fixed ∙ honest_a in
      elim (first.each honest_a a.calls image b.said (omega arith) (law_b.now honest_b a.calls image calls now.0)) [
        | inl past ↦ subst IsClean (sym (nothing honest_a image (law.present honest_a image b.said past).0)) (is honest_a)
        | inr clean ↦ clean
      ]);
}

-- a call that was not made
pub keeps_none : (a : View) → KeepsClean a a
keeps_none a = record { held = λ told is. is; moments = λ nothing is. record { each = λ honest t image said le left. inl left } }
