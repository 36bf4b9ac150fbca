-- A station at rest between commits.
use Rattle.std.specs.Prelude.{ℕ, ◌≡◌, ◌≢◌, List}
use Rattle.station.specs.Bytes.{Touched}
use Rattle.station.specs.View.{View, Told, Honest, EachHeld}
use Rattle.header_gate.specs.declared.layout.Layout.{Layout}
use Rattle.header_gate.specs.declared.layout.TheConstants.{PAIRED}
use Rattle.header_gate.specs.Header.{live_copy, gate}
use Rattle.header_gate.specs.Places.{region_place}
use Rattle.header_gate.specs.Recovered.{live_table}
use Rattle.header_gate.specs.InPlace.{IsDone}
use Rattle.redo_journal.specs.Commit.{IsNamed}

-- a place of a page that the live one of two journals names; a file with one journal has none
abbrev pub IsCoveredPlace : Layout → List ℕ → ℕ → Type 0
IsCoveredPlace l file p = (l.version ≡ PAIRED) × IsNamed (region_place l (live_copy file)) (live_table l file) p

-- A crash leaves the held bytes, but at most in covered places; and a journal that is to be laid lies in place. So in the
-- regions each image recovers to the held bytes. Before version 4 nothing is pending.
pub record AtRest (l : Layout) (a : View) : Type 0 where
  -- a crash leaves the held bytes, but in pages that the live one of two journals names; with one journal exactly the held bytes
  pub covered : Honest a → (image : List ℕ) → a.may_leave image → Touched (IsCoveredPlace l a.held) a.held image
  -- if the held bytes are told, their journal lies in place or is not to be laid
  pub done : Told a → IsDone l a.held

-- What holds between commits: the station is at rest, and each image that a crash may leave has the gate that is noted,
-- 0 if there is one journal. So before version 4 nothing is pending, and the gate is even.
pub record RestsAt (l : Layout) (turn : ℕ) (a : View) : Type 0 where
  -- with one journal the gate that is noted is even
  pub single : l.version ≢ PAIRED → turn ≡ 0
  -- whatever the station may hold has the gate that is noted
  pub gates : EachHeld (λ image. gate image ≡ turn) a
  -- the station is at rest
  pub rest : AtRest l a
