-- What is read by a run that opens its file by the index, where the script has no command.
use Rattle.std.proofs.Common.{◌≡◌, ℕ, List, false, Ok, Err, sym, ap, subst, ◌∙◌, arith}
use Rattle.station.specs.View.{View, Told, attached_by}
use Rattle.station.specs.Steps.{Says}
use Rattle.station.specs.declared.travel.Travel.{Travel}
use Rattle.line_source.specs.SourceView.{SourceView}
use Rattle.header_gate.specs.Header.{clean_gate, layout_in}
use Rattle.header_gate.specs.declared.layout.Layout.{Layout}
use Rattle.header_gate.proofs.Soundness.{none_of_sound}
use Rattle.recovery.specs.declared.fault.OpenFault.{OpenFault}
use Rattle.recovery.specs.declared.fault.OpenFault.TheVariants as opening
use Rattle.index_file.specs.Clean.{IsClean, IsIndexed, version_of}
use Rattle.index_file.specs.IndexOpening.{IsQuick}
use Rattle.index_file.proofs.Kept.{even_of_bare}
use Rattle.pma_store.specs.declared.store.Store.{Store}
use Rattle.pma_engine.specs.Jobs.{LooksQuickly}
use Rattle.pma_engine.specs.RunOpening.{LooksByIndex}
use Rattle.pma_engine.specs.Refusing.{status_of_opening}
use Rattle.pma_engine.specs.Serving.{AsksNothing}
use Rattle.pma_engine.specs.declared.status.TheConstants.{DONE}

-- a clean file with an odd clean gate may be opened by its index
may_open : (image : List ℕ) → IsClean image → IsIndexed (version_of image) → clean_gate image ≡ 1 → IsQuick image
may_open image clean version odd =
    let left = clean version odd in
    record { sound = none_of_sound image left.represents.header; indexed = version.0; gate_even = λ single. even_of_bare (layout_in image) image single left.bare; intent_even = left.intent_even; clean_odd = odd }

-- it was not opened
pub looks_unopened : {text : List ℕ} (a b d : View) (s : SourceView) (fault : OpenFault) (status : ℕ) → status ≡ status_of_opening fault → (Told a → IsClean a.held) → (Told a → IsQuick a.held → LooksByIndex {T = Store} (Err fault) (attached_by false a) b) → Says text b d → LooksQuickly status s a d
looks_unopened a b d s fault status is clean looks says = record {
  most = λ asks told version odd. omega (arith, (looks told (may_open a.held (clean told) version odd)).most, ap (λ (t : Travel). t.read) says.travel);
  whole = λ done asks told version odd. absurd (never fault (sym is ∙ done));
}
  where
    never : (fault : OpenFault) → status_of_opening fault ≡ DONE → ⊥
    never opening.Memory e = omega (arith, e)
    never opening.Failed e = omega (arith, e)
    never (opening.NotStore r) e = omega (arith, e)
    never (opening.Damaged segment why) e = omega (arith, e)

-- it was, and no command was answered
pub looks_opened : (a b d : View) (s0 : SourceView) (s : Store) (status : ℕ) → (Told a → IsClean a.held) → (Told a → s.place.layout ≡ layout_in a.held) → (Told a → IsQuick a.held → LooksByIndex {T = Store} (Ok s) (attached_by false a) b)
    → (AsksNothing s.place.layout.format s0 → d.travel.read ≡ b.travel.read) → LooksQuickly status s0 a d
looks_opened a b d s0 s status clean layout looks unread = record {
  most = λ asks told version odd. omega (arith, (looks told (may_open a.held (clean told) version odd)).most, still told asks);
  whole = λ done asks told version odd. still told asks ∙ (looks told (may_open a.held (clean told) version odd)).whole;
}
  where
    still : Told a → AsksNothing (layout_in a.held).format s0 → d.travel.read ≡ b.travel.read
    still told asks = unread (subst (λ (l : Layout). AsksNothing l.format s0) (sym (layout told)) asks)
