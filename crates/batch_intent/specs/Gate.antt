-- The intent in the header page of a file, and its gate.
use Rattle.std.specs.Prelude.{◌≡◌, ◌⊎◌, ℕ, ◌+◌, ◌<◌, nat_le, ◌==◌, ◌&&◌, if◌then◌else◌, Bool, List, map, length, Option, Some, None}
use Rattle.std.specs.List.{range_with_len}
use Rattle.station.specs.Bytes.{byte, InRange, Touched}
use Rattle.batch_intent.specs.declared.places.TheConstants.{INTENT, INTENT_SIZE}
use Rattle.header_gate.specs.declared.gate.Gate.TheVariants as gates
use Rattle.header_gate.specs.declared.layout.Layout.{Layout}
use Rattle.header_gate.specs.declared.layout.TheConstants.{INTENT_VERSION}
use Rattle.header_gate.specs.Header.{IsPlaceOf, intent_gate}
use Rattle.header_gate.specs.declared.reason.Reason.{Reason}
use Rattle.header_gate.specs.declared.reason.Reason.TheVariants.{Intent}
use Rattle.map_model.specs.Store.{Update}
use Rattle.batch_intent.specs.Spelling.{intent_bytes}
use Rattle.batch_intent.specs.IntentReasons.{wrong_place}

-- the place of its gate
abbrev pub IsIntentGatePlace : ℕ → Type 0
IsIntentGatePlace i = IsPlaceOf gates.Intent i

-- a place of the intent or its gate
abbrev pub IsIntentPlace : ℕ → Type 0
IsIntentPlace i = InRange INTENT INTENT_SIZE i ⊎ IsIntentGatePlace i

-- whether a file of a layout has an intent that is to be applied: its version has intents, and the gate is odd
abbrev pub has_intent : Layout → List ℕ → Bool
has_intent layout file = nat_le INTENT_VERSION layout.version && (intent_gate file == 1)

-- the bytes of the intent
unfoldable pub intent_area : List ℕ → List ℕ
intent_area file = map (λ i. byte file (INTENT + i)) (range_with_len 0 INTENT_SIZE)

-- the spelling of the items stands in the intent
pub record HoldsItems (items : List Update) (file : List ℕ) : Type 0 where
  pub spelled : (i : ℕ) → i < length (intent_bytes items) → byte file (INTENT + i) ≡ byte (intent_bytes items) i

-- What the writing of an intent may leave: intent and gate alone are touched. If the gate was even and is odd, the intent
-- is that of the items.
pub record Intends (items : List Update) (old new : List ℕ) : Type 0 where
  pub touched : Touched IsIntentPlace old new
  pub holds : intent_gate old ≡ 0 → intent_gate new ≡ 1 → HoldsItems items new

-- what is wrong with an intent that is to be applied, by its bytes
abbrev pub reason_at : Option ℕ → Option Reason
reason_at None = None
reason_at (Some place) = Some (Intent (INTENT + place))

abbrev pub form_reason : Layout → List ℕ → Option Reason
form_reason layout file = if has_intent layout file then reason_at (wrong_place layout.format (intent_area file)) else None
