use mir.Val.{bool_byte}
use Rattle.std.proofs.Common.{◌≡◌, ◌+◌, Bool, true, false, refl, ap, ◌∙◌, arith}
use Rattle.std.specs.Prelude.{if◌then◌else◌}
use Rattle.std.proofs.lemmas.Result.{on_ok_weaker}
use Rattle.station.specs.Bytes.{byte}
use Rattle.header_gate.specs.Header.{gate_place}
use Rattle.header_gate.proofs.gate.set_gate.Goals as goal

-- the byte of a Bool
byte_is : (b : Bool) → bool_byte b ≡ (if b then 1 else 0)
byte_is true = refl
byte_is false = refl

pub returns-clause-set : goal.returns-clause-set
returns-clause-set g c =
    on_ok_weaker c.write_synced.result (λ written told.
    ap (byte (g.S.Station.view c.write_synced.new.station).held) {x = gate_place c.args.gate} {y = c.place.result + 0} (omega (arith, c.place.ensures))
    ∙ (written told).inside 0 (omega arith)
    ∙ byte_is c.args.odd) c.write_synced.ensures.written
