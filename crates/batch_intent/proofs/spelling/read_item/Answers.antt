use Rattle.std.proofs.Common.{◌≤◌, ℕ, subst, sym, arith}
use Rattle.batch_intent.specs.declared.places.TheConstants.{INTENT_SIZE}
use Rattle.batch_intent.specs.Spelling.{after_item}
use Rattle.batch_intent.proofs.ItemsRead.{place_next}
use Rattle.batch_intent.proofs.spelling.read_item.Goals as goal

pub item_at-requires-clause-within : goal.item_at-requires-clause-within
item_at-requires-clause-within c =
    subst (λ (p : ℕ). after_item c.args.bytes.now p ≤ INTENT_SIZE) (sym c.place_of.ensures) (omega (arith, c.requires.there, place_next c.args.bytes.now c.args.i 1))
