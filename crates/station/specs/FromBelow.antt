-- The crash model from below: what a call on an honest station leaves at least, so that what is pending may be any bytes.
--
-- The trait asks this of no station, since one that leaves less is only better. `CrashStation` keeps it in its clauses
-- `still` and `least`: so the model from above is met by a station that leaves all that it may.
use Rattle.std.specs.Prelude.{ℕ, ◌≤◌, ◌≡◌, ◌⊎◌, ◌↔◌, List, ◌++◌, length, take, Bool, true, false}
use Rattle.station.specs.Bytes.{AreBytes}
use Rattle.station.specs.View.{View, Honest, last}

-- each image of the entry is still one
abbrev pub StillLeaves : View → View → Type 0
StillLeaves a b = Honest a → (image : List ℕ) → a.may_leave image → b.may_leave image

-- no byte changed, held or said, and nothing that is pending
pub record Unchanged (a b : View) : Type 0 where
  -- the held bytes and the said ones stay
  pub held : b.held ≡ a.held
  pub said : b.said ≡ a.said
  -- a crash may leave exactly what it might have left
  pub images : (image : List ℕ) → a.may_leave image ↔ b.may_leave image

-- calls that share the last number of the count change nothing
abbrev pub IsIdleAtLast : View → View → Type 0
IsIdleAtLast a b = a.calls ≡ last → Unchanged a b

-- each image of bytes that R makes of an image of the entry may be left, now if it has the length of the held bytes,
-- and by a crash within the call
pub record Torn (R : List ℕ → List ℕ → Type 0) (a b : View) : Type 0 where
  -- a crash after the call may leave it, if it has the length of the held bytes
  pub now : (start image : List ℕ) → a.may_leave start → R start image → length image ≡ length b.held → AreBytes image → b.may_leave image
  -- a crash within the call may leave it, whatever its length, with what was said before
  pub within : (t : ℕ) (start image : List ℕ) → t ≤ a.calls → a.may_leave start → R start image → AreBytes image → b.may_have_left t image a.said

-- a call that changes bytes as R tells, and was done or failed; if it failed it may have changed nothing
pub record Tears (R : List ℕ → List ℕ → Type 0) (done : Bool) (a b : View) : Type 0 where
  -- on Ok all that R makes may be left (`Torn`)
  pub ok : done ≡ true → Torn R a b
  -- on a failure all that R makes may be left, or nothing changed
  pub err : done ≡ false → Unchanged a b ⊎ Torn R a b
  -- at the last value of the count of calls nothing changes
  pub idle : IsIdleAtLast a b

-- a sync; if it failed nothing became settled
pub record Settles (done : Bool) (a b : View) : Type 0 where
  -- on a failure each image of the entry may still be left
  pub err : done ≡ false → (image : List ℕ) → a.may_leave image → b.may_leave image
  -- at the last value of the count of calls nothing changes
  pub idle : IsIdleAtLast a b

-- a saying; a crash within it may have sent any front of the bytes
pub record Sends (bytes : List ℕ) (done : Bool) (a b : View) : Type 0 where
  -- each image of the entry may still be left
  pub images : (image : List ℕ) → a.may_leave image → b.may_leave image
  -- on Ok a crash within the call may have left each image of the entry with any front of the bytes said
  pub ok : done ≡ true → (t n : ℕ) (image : List ℕ) → t ≤ a.calls → a.may_leave image → n ≤ length bytes → b.may_have_left t image (a.said ++ take n bytes)
  -- at the last value of the count of calls nothing changes
  pub idle : IsIdleAtLast a b
