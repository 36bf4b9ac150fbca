-- Calls that keep a file clean.
use Rattle.std.proofs.Common.{◌≡◌, inl, inr, ℕ, ◌%◌, ◌≤◌, List, refl, sym, ap, subst, ◌∙◌}
use Rattle.station.specs.Bytes.{byte, Same}
use Rattle.station.specs.View.{View, Fixed, Told, EachHeld, Lawful, NothingPending}
use Rattle.station.specs.Steps.{Steps}
use Rattle.station.proofs.Composition.{each_on}
use Rattle.station.proofs.Sayings.{leaves_on}
use Rattle.header_gate.specs.declared.layout.Layout.{Layout}
use Rattle.index_file.specs.Clean.{IsClean, IsShut, KeepsClean, Leaves, version_of, IsIndexed}
use Rattle.index_file.proofs.CleanLaws.{clean_shut}

-- a run that makes a clean file of a clean one
pub keeps_by : {a b : View} {R : List ℕ → List ℕ → Type 0} → Lawful a → Steps R a b → (Told a → IsClean a.held → (image : List ℕ) → R a.held image → IsClean image) → KeepsClean a b
keeps_by {a} {b} {R} law steps clean = record {
  held = λ told is. clean told is b.held (steps.held told);
  moments = λ nothing is. record {
    each = λ honest t image said le left. elim (steps.moments.each honest t image said le left) [
      | inl past ↦ inl past
      | inr now ↦ inr (clean (law.tells honest).0 (is honest) image (subst (λ (d : List ℕ). R d image) (nothing honest now.1.0 now.1.1) now.1.2))
    ];
  };
}

-- one that changes no byte
pub keeps_same : {a b : View} → Lawful a → Steps Same a b → KeepsClean a b
keeps_same law steps = keeps_by law steps (λ told is image same. subst IsClean (sym same) is)

-- an index that means nothing means nothing while the clean gate and the version stay
pub shut_stays : (old new : List ℕ) → IsShut old → version_of new ≡ version_of old → byte new 704 ≡ byte old 704 → IsShut new
shut_stays old new shut same gate version = ap (λ (b : ℕ). b % 2) gate ∙ shut (subst IsIndexed same version)

-- such a run
pub keeps_shut : {a b : View} {R : List ℕ → List ℕ → Type 0} → Lawful a → EachHeld IsShut a → Steps R a b → ((d i : List ℕ) → R d i → (version_of i ≡ version_of d) × (byte i 704 ≡ byte d 704)) → KeepsClean a b
keeps_shut {a} {b} {R} law shut steps keeps = record {
  held = λ told is. let same = keeps a.held b.held (steps.held told) in clean_shut b.held (shut_stays a.held b.held (shut a.held (inl (told, refl))) same.0 same.1);
  moments = λ nothing is. record {
    each = λ honest t image said le left. elim (steps.moments.each honest t image said le left) [
      | inl past ↦ inl past
      | inr now ↦ let same = keeps now.1.0 image now.1.2 in inr (clean_shut image (shut_stays now.1.0 image (shut now.1.0 (inr (honest, now.1.1))) same.0 same.1))
    ];
  };
}

-- and the index of what it leaves means nothing
pub shut_on : {a b : View} {R : List ℕ → List ℕ → Type 0} → EachHeld IsShut a → Steps R a b → ((d i : List ℕ) → R d i → (version_of i ≡ version_of d) × (byte i 704 ≡ byte d 704)) → EachHeld IsShut b
shut_on shut steps keeps = each_on IsShut IsShut steps shut (λ d i is step. let same = keeps d i step in shut_stays d i is same.0 same.1)

-- the leaving of an index
pub keeps_leaving : {a b : View} (l : Layout) → Steps (Leaves l) a b → KeepsClean a b
keeps_leaving {a} {b} l steps = record {
  held = λ told is. (steps.held told).clean;
  moments = λ nothing is. record {
    each = λ honest t image said le left. elim (steps.moments.each honest t image said le left) [
      | inl past ↦ inl past
      | inr now ↦ inr now.1.2.clean
    ];
  };
}

-- one run behind another
pub keeps_on : {a b c : View} → Lawful b → b.fixed ≡ a.fixed → a.calls ≤ b.calls → (NothingPending a → NothingPending b) → KeepsClean a b → KeepsClean b c → KeepsClean a c
keeps_on {a} {b} {c} law fixed calls nothing first second = record {
  held = λ told is. second.held (ap (λ (f : Fixed). f.tells_held) fixed ∙ told) (first.held told is);
  moments = λ none is.
      leaves_on (λ image said. IsClean image) fixed calls (first.moments none is)
      (second.moments (nothing none) (λ honest. first.held (ap (λ (f : Fixed). f.tells_held) (sym fixed) ∙ (law.tells honest).0) (is (ap (λ (f : Fixed). f.honest) (sym fixed) ∙ honest))))
      (λ honest image said left. left) (λ honest image said left. left);
}
