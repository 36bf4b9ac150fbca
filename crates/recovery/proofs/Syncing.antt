-- What a run leaves whose first call is a sync.
use Rattle.std.proofs.Common.{◌≡◌, ◌⊎◌, inl, inr, ⊎_elim, ℕ, List, refl, sym, ◌∙◌, subst, arith}
use Rattle.std.specs.Prelude.{Result, Err}
use Rattle.station.specs.Bytes.{Same}
use Rattle.station.specs.View.{View, Lawful, Honest, NothingPending, Counted, up}
use Rattle.station.specs.Steps.{Steps}
use Rattle.station.proofs.Composition.{honest_on}
use Rattle.station.proofs.Sayings.{leaves_in, leaves_on}
use Rattle.recovery.specs.Opening.{SyncsFirst}
use Rattle.recovery.specs.declared.fault.OpenFault.{OpenFault}
use Rattle.recovery.specs.declared.fault.OpenFault.TheVariants.{Failed}

-- what a crash leaves, where a sync comes first: an image of the entry, or one that comes by R from the bytes held there
abbrev pub LeavesSettled : (List ℕ → List ℕ → Type 0) → View → List ℕ → List ℕ → Type 0
LeavesSettled R a image said = a.may_leave image ⊎ R a.held image

-- an image that no byte was changed of is as before
unchanged : (a : View) (image : List ℕ) → (start : List ℕ) × a.may_leave start × Same start image → a.may_leave image
unchanged a image from = subst a.may_leave (sym from.2) from.1

-- a sync, and what comes behind it
pub syncs_first : {T : Type 0} {R : List ℕ → List ℕ → Type 0} (result : Result T OpenFault) (a m b : View) → Lawful a → Lawful m → Counted a m → Steps Same a m → NothingPending m → Steps R m b
    → ((d : List ℕ) → R d d) → SyncsFirst R result a b
syncs_first {R = R} result a m b law_a law_m counted am nothing mb none = record {
  called = omega (arith, counted, mb.frame.calls);
  first = leaves_on (LeavesSettled R a) am.frame.fixed am.frame.calls am.moments mb.moments (λ honest image said now. inl (unchanged a image now.1))
      (λ honest image said now. inr (subst (λ (d : List ℕ). R d image) (nothing (honest_on am.frame honest) now.1.0 now.1.1 ∙ am.held (law_a.tells honest).0) now.1.2));
  synced = λ goes honest image said left.
      let told = (law_a.tells honest).0 in
      let same : m.held ≡ a.held = am.held told in
      let there : Honest m = honest_on am.frame honest in
      ⊎_elim
      (λ past.
      let now = law_m.present there image said (subst (λ (t : ℕ). m.may_have_left t image said) (sym counted) past) in
      subst (R a.held) (sym (nothing there image now.0 ∙ same)) (none a.held))
      (λ new. subst (λ (d : List ℕ). R d image) (nothing there new.1.0 new.1.1 ∙ same) new.1.2)
      (mb.moments.each there (up a.calls 1) image said (omega (arith, counted)) left);
}

-- a sync that failed is no more than one call
pub sync_failed : {T : Type 0} {R : List ℕ → List ℕ → Type 0} (a m : View) → Counted a m → Steps Same a m → SyncsFirst {T = T} R (Err Failed) a m
sync_failed {R = R} a m counted am = record {
  called = omega (arith, counted);
  first = leaves_in (LeavesSettled R a) am.moments (λ honest image said now. inl (unchanged a image now.1));
  synced = λ goes honest image said left. absurd (⊎_elim (λ other. other refl) (λ more. omega (arith, more, counted)) goes);
}
