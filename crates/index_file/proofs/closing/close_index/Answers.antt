use Rattle.std.proofs.Common.{◌≡◌, ◌≤◌, ℕ, List, true, length, refl, ap, subst, arith}
use Rattle.std.proofs.lemmas.Bool.Decides.{nat_tests}
use Rattle.station.specs.Bytes.{Touched}
use Rattle.station.specs.View.{Told}
use Rattle.station.specs.Steps.{Steps}
use Rattle.station.proofs.Composition.{on_same, told_back}
use Rattle.header_gate.specs.declared.layout.Layout.{Layout}
use Rattle.header_gate.specs.declared.layout.TheConstants.{INDEXED}
use Rattle.header_gate.specs.Header.{clean_gate}
use Rattle.header_gate.proofs.Soundness.{sound_of_none}
use Rattle.index_file.specs.Clean.{IsCleanPlace, version_of}
use Rattle.index_file.proofs.CleanLaws.{clean_closing}
use Rattle.index_file.proofs.Keeping.{keeps_by, keeps_same}
use Rattle.index_file.proofs.closing.close_index.Goals as goal
use Rattle.index_file.proofs.closing.close_index.Goals.{After-close_clean}

pub close_clean-requires-clause-page : goal.close_clean-requires-clause-page
close_clean-requires-clause-page g c told_b =
    let read = c.read_header.ensures.steps in
    let told = told_back read.frame told_b in
    omega (arith, (sound_of_none (g.S.Station.view c.args.station.now).held (c.in-Ok.ensures.sound told)).page, ap (λ (f : List ℕ). length f) (read.held told))

-- the gate that is closed was odd
odd : (g : _) (c : After-close_clean g) → Told (g.S.Station.view c.args.station.now) → clean_gate (g.S.Station.view c.args.station.now).held ≡ 1
odd g c told = let is : c.in-Ok.header.clean ≡ true = grind (arith, nat_tests, c.is_open.ensures, c.if-is_open.true) in (c.in-Ok.ensures.header told).clean_is.0 is

version : (g : _) (c : After-close_clean g) → Told (g.S.Station.view c.args.station.now) → INDEXED ≤ version_of (g.S.Station.view c.args.station.now).held
version g c told =
    let is : INDEXED ≤ c.in-Ok.header.layout.version = grind (arith, nat_tests, c.is_open.ensures, c.if-is_open.true) in
    subst (λ (l : Layout). INDEXED ≤ l.version) (c.in-Ok.ensures.header told).layout_is is

closes : (g : _) (c : After-close_clean g) → Steps (Touched IsCleanPlace) (g.S.Station.view c.args.station.now) (g.S.Station.view c.close_clean.new.station)
closes g c = on_same c.read_header.ensures.steps c.close_clean.ensures.steps (λ d. record { size = refl; rest = λ k out. refl })

pub returns-then-is_open-clause-clean : goal.returns-then-is_open-clause-clean
returns-then-is_open-clause-clean g c =
    keeps_by (g.met.S.Station.lawful c.args.station.now) (closes g c) (λ told is image touched. clean_closing (g.S.Station.view c.args.station.now).held image is (odd g c told) touched)

pub returns-then-is_open-clause-kept : goal.returns-then-is_open-clause-kept
returns-then-is_open-clause-kept g c told shut = absurd (shut (record { sound = c.in-Ok.ensures.sound told; indexed = version g c told; odd = odd g c told }))

pub returns-else-is_open-clause-synced : goal.returns-else-is_open-clause-synced
returns-else-is_open-clause-synced g c told here =
    let header = c.in-Ok.ensures.header told in
    let clean : c.in-Ok.header.clean ≡ true = header.clean_is.1 here.odd in
    let indexed : INDEXED ≤ c.in-Ok.header.layout.version = omega (arith, here.indexed, ap (λ (l : Layout). l.version) header.layout_is) in
    absurd (grind (arith, nat_tests, c.is_open.ensures, c.if-is_open.false, clean, indexed))

pub returns-else-is_open-clause-clean : goal.returns-else-is_open-clause-clean
returns-else-is_open-clause-clean g c = keeps_same (g.met.S.Station.lawful c.args.station.now) c.read_header.ensures.steps

pub returns-in-Err-NotStore-clause-clean : goal.returns-in-Err-NotStore-clause-clean
returns-in-Err-NotStore-clause-clean g c = keeps_same (g.met.S.Station.lawful c.args.station.now) c.read_header.ensures.steps

pub returns-in-Err-Failed-clause-clean : goal.returns-in-Err-Failed-clause-clean
returns-in-Err-Failed-clause-clean g c = keeps_same (g.met.S.Station.lawful c.args.station.now) c.read_header.ensures.steps
