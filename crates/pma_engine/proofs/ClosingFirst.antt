-- The clean gate is closed before any other byte is changed.
use Rattle.std.proofs.Common.{◌≡◌, ◌⊎◌, inl, inr, ⊎_elim, false, ℕ, ◌≤◌, List, length, refl, sym, ◌∙◌, ap, subst, arith}
use Rattle.station.specs.Bytes.{byte, Same, Touched}
use Rattle.station.specs.View.{View, Fixed, Told, Honest, EachHeld, NothingPending, Lawful, attached_by}
use Rattle.station.specs.Steps.{Steps, Says, LeavesOnly}
use Rattle.station.proofs.Composition.{told_on, weaken}
use Rattle.station.proofs.Sayings.{leaves_in, leaves_on}
use Rattle.index_file.specs.Clean.{IsClean, IsCleanPlace, IsShut, KeepsClean}
use Rattle.index_file.proofs.CleanLaws.{clean_shut}
use Rattle.pma_engine.specs.Closing.{ClosesFirst}

-- the same bytes but for the clean gate, or a clean image
abbrev pub ClosedFirst : List ℕ → List ℕ → Type 0
ClosedFirst old image = Touched IsCleanPlace old image ⊎ IsClean image

-- of an image that might have been left at the entry
abbrev pub LeavesFirst : View → List ℕ → List ℕ → Type 0
LeavesFirst a image said = (start : List ℕ) × a.may_leave start × ClosedFirst start image

-- no byte differs
pub touched_none : (old new : List ℕ) → new ≡ old → Touched IsCleanPlace old new
touched_none old new same = record { size = ap length same; rest = λ k out. ap (λ (x : List ℕ). byte x k) same }

-- no call
pub first_none : (a : View) → ClosesFirst a a
first_none a = record { held = λ told. inl (touched_none a.held a.held refl); moments = record { each = λ honest t image said le left. inl left } }

-- calls that touch the clean gate at most
pub first_touched : {a b : View} → Steps (Touched IsCleanPlace) a b → ClosesFirst a b
first_touched {a} {b} steps = record {
  held = λ told. inl (steps.held told);
  moments = leaves_in (LeavesFirst a) steps.moments (λ honest image said now. (now.1.0, now.1.1, inl now.1.2));
}

-- or no byte
pub first_same : {a b : View} → Steps Same a b → ClosesFirst a b
first_same steps = first_touched (weaken steps (λ x y left same. touched_none x y same))

-- behind calls that change no byte
pub first_behind : {a m b : View} → Lawful a → Steps Same a m → ClosesFirst m b → ClosesFirst a b
first_behind {a} {m} {b} law same first = record {
  held = λ told. subst (λ (d : List ℕ). ClosedFirst d b.held) (same.held told) (first.held (told_on same.frame told));
  moments =
      leaves_on (LeavesFirst a) same.frame.fixed same.frame.calls same.moments first.moments
      (λ honest image said now. (now.1.0, now.1.1, inl (touched_none now.1.0 image now.1.2)))
      (λ honest image said now.
      let before = same.images honest now.0 now.1 in
      (before.0, before.1, subst (λ (d : List ℕ). ClosedFirst d image) before.2 now.2));
}

-- an image that a crash may leave at the end of calls is one that it may leave at a moment of them
pub leaves_now : {P : List ℕ → List ℕ → Type 0} {a b : View} → Lawful a → Lawful b → b.fixed ≡ a.fixed → a.calls ≤ b.calls → LeavesOnly P a b → Honest a → (image : List ℕ) → b.may_leave image → a.may_leave image ⊎ P image b.said
leaves_now {a = a} {b = b} law law_b fixed calls leaves honest image may =
    let there : Honest b = ap (λ (f : Fixed). f.honest) fixed ∙ honest in
    ⊎_elim (λ past. inl (law.present honest image b.said past).0) (λ now. inr now) (leaves.each honest a.calls image b.said (omega arith) (law_b.now there a.calls image calls may))

-- a saying behind them
pub first_said : {a b d : View} {text : List ℕ} → Lawful a → Lawful b → b.fixed ≡ a.fixed → a.calls ≤ b.calls → ClosesFirst a b → Says text b d → ClosesFirst a d
first_said {a} {b} {d} law law_b fixed calls first says = record {
  held = λ told. subst (ClosedFirst a.held) (sym says.held) (first.held told);
  moments =
      leaves_on (LeavesFirst a) fixed calls first.moments says.moments (λ honest image said either. either) (λ honest image said now.
      ⊎_elim (λ may. (image, may, inl (touched_none image image refl))) (λ either. either) (leaves_now law law_b fixed calls first.moments honest image now.0));
}

-- From before the attach on.

first_attached : (a d : View) → ClosesFirst (attached_by false a) d → ClosesFirst a d
first_attached a d first = record { held = first.held; moments = record { each = first.moments.each } }

-- a file that was not opened, and a line may have been said
pub first_unopened : {text : List ℕ} {R : List ℕ → List ℕ → Type 0} (a b d : View) → Lawful a → Lawful b → Steps R (attached_by false a) b → ClosesFirst (attached_by false a) b → Says text b d → ClosesFirst a d
first_unopened a b d law law_b steps closes says =
    let here : Lawful (attached_by false a) = record { reach = law.reach; tells = law.tells; held = law.held; sizes = law.sizes; now = law.now; present = law.present } in
    first_attached a d (first_said here law_b steps.frame.fixed steps.frame.calls closes says)

-- and one that was, which is clean from then on
pub first_opened : {R : List ℕ → List ℕ → Type 0} (a b d : View) → Lawful a → Lawful b → Steps R (attached_by false a) b → ClosesFirst (attached_by false a) b → NothingPending b → EachHeld IsShut b → KeepsClean b d → ClosesFirst a d
first_opened a b d law law_b steps closes settled shut then = first_attached a d (record {
  held = λ told. let on : Told b = told_on steps.frame told in inr (then.held on (clean_shut b.held (shut b.held (inl (on, refl)))));
  moments =
      leaves_on (LeavesFirst a) steps.frame.fixed steps.frame.calls closes.moments
      (then.moments settled (λ honest. clean_shut b.held (shut b.held (inr (honest, law_b.held honest)))))
      (λ honest image said either. either) (λ honest image said clean. (a.held, law.held honest, inr clean));
})
