use Rattle.std.proofs.Common.{◌≡◌, ◌≤◌, length, None}
use Rattle.batch_intent.specs.declared.places.TheConstants.{INTENT_SIZE}
use Rattle.batch_intent.specs.Spelling.{place_from, items_from, intent_bytes}
use Rattle.batch_intent.specs.IntentReasons.{first_wrong}
use Rattle.batch_intent.proofs.validating.validate_intent.Given as goal

abbrev pub invariant-loop-j : goal.invariant-loop-j
invariant-loop-j l = record {
  place : l.p ≡ place_from l.bytes l._j 1;
  within : l.p ≤ INTENT_SIZE;
  items : l.intent ≡ items_from l.bytes l._j 1;
  end : length (intent_bytes l.intent) ≡ l.p;
  right : first_wrong l.format l.bytes l._j ≡ None;
}
