-- What holds of whatever was given.
use Rattle.std.proofs.Common.{◌≡◌, ℕ, sym, ap, ◌∙◌}
use Rattle.std.specs.Prelude.{Result, Ok, Err, Option, Some, None, Bool, true, false, IfOk, IfErr, IfSome, OnOk, IsErrOf, is_err}
use Rattle.std.proofs.lemmas.Bool.{false≢true}
use Rattle.index_file.specs.declared.fault.AreaFault.{AreaFault}
use Rattle.index_file.specs.declared.fault.AreaFault.TheVariants.{Failed, Wrong}

pub all_given : {T E : Type 0} (r : Result (Option T) E) (P : Type 0) → P → IfOk r (λ o. IfSome o (λ x. P))
all_given (Ok (Some x)) P p = p
all_given (Ok None) P p = tt
all_given (Err e) P p = tt

pub given_weaker : {T E : Type 0} (r : Result (Option T) E) (P Q : T → Type 0) → ((x : T) → P x → Q x) → IfOk r (λ o. IfSome o P) → IfOk r (λ o. IfSome o Q)
given_weaker (Ok (Some x)) P Q f p = f x p
given_weaker (Ok None) P Q f p = tt
given_weaker (Err e) P Q f p = tt

pub ok_weaker : {T E : Type 0} (r : Result T E) (P Q : T → Type 0) → ((x : T) → P x → Q x) → IfOk r P → IfOk r Q
ok_weaker (Ok x) P Q f p = f x p
ok_weaker (Err e) P Q f p = tt

pub on_ok_any : {T E : Type 0} (r : Result T E) (P : Type 0) → P → OnOk r P
on_ok_any (Ok x) P p = p
on_ok_any (Err e) P p = tt

pub err_weaker : {T E : Type 0} (r : Result T E) (P Q : E → Type 0) → ((e : E) → P e → Q e) → IfErr r P → IfErr r Q
err_weaker (Ok x) P Q f p = tt
err_weaker (Err e) P Q f p = f e p

pub err_any : {T E : Type 0} (r : Result T E) (P : E → Type 0) → ((e : E) → P e) → IfErr r P
err_any (Ok x) P f = tt
err_any (Err e) P f = f e

-- an Ok is no fault of the disk, and a wrong place is none
pub never_failed : {T : Type 0} (v : T) → IsErrOf {T = T} {E = AreaFault} (Ok v) Failed → ⊥
never_failed {T = T} v is = false≢true (ap (is_err {T = T} {E = AreaFault}) is)

abbrev is_failed : {T : Type 0} → Result T AreaFault → Bool
is_failed (Ok v) = false
is_failed (Err Failed) = true
is_failed (Err (Wrong place)) = false

pub never_wrong : {T : Type 0} (e : AreaFault) (place : ℕ) → e ≡ Wrong place → IsErrOf {T = T} {E = AreaFault} (Err e) Failed → ⊥
never_wrong {T = T} e place wrong is = false≢true (ap (λ (x : AreaFault). is_failed {T = T} (Err x)) (sym wrong) ∙ ap (is_failed {T = T}) is)
