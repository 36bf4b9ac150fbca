use Rattle.std.proofs.Common.{◌≡◌, ℕ, ◌+◌, ◌<◌, ◌≤◌, List, [], ◌∷◌, ◌++◌, length, slice_set, sym, subst, ap, ◌∙◌, arith, false}
use Rattle.batch_intent.specs.declared.places.TheConstants.{INTENT_SIZE}
use Rattle.station.specs.Bytes.{byte}
use Rattle.map_model.specs.Store.{Update, key_of}
use Rattle.map_model.specs.ItemWords.{has_item}
use Rattle.batch_intent.specs.declared.intent.TheConstants.{MOST_ITEMS}
use Rattle.batch_intent.specs.ItemView.{update_of}
use Rattle.batch_intent.specs.Spelling.{items_in, item_bytes, intent_bytes}
use Rattle.batch_intent.specs.Keeping.{KeepsBy}
use Rattle.batch_intent.specs.Pushing.{push_fault}
use Rattle.batch_intent.proofs.Kept.{kept_reads, pushed_kept, no_fault}
use Rattle.batch_intent.proofs.intent.Intent.push.Goals as goal

pub find_item-requires : goal.find_item-requires
find_item-requires c =
    let reads = kept_reads (items_in c.self.inside.bytes) c.self.inside.bytes c.self.inside.end c.self.invariant in
    omega (arith, reads.end, c.self.invariant.intent.size)

pub invariant_of-self : goal.invariant_of-self
invariant_of-self c =
    let bytes = c.self.inside.bytes in
    let items = items_in bytes in
    let u = update_of c.args.item in
    let reads = kept_reads items bytes c.self.inside.end c.self.invariant in
    let few : length items < MOST_ITEMS = omega (arith, reads.count, c.from.ensures, c.if-from-ge-MOST_ITEMS.false) in
    let other : has_item (key_of u) items ≡ false = ap (λ (k : List ℕ). has_item k items) (sym c.key.ensures) ∙ sym c.find_item.ensures ∙ c.if-find_item.false in
    let fits : length (intent_bytes items) + length (item_bytes u) ≤ INTENT_SIZE = omega (arith, c.if-end-gt-INTENT_SIZE.false, c.len.ensures.size, c.self.invariant.end_is) in
    let pushed = pushed_kept u bytes c.write_item.new.bytes c.self.inside.end c.self.invariant few other c.len.ensures.sizes fits (omega (arith, c.write_item.auto.bytes, c.self.told)) c.write_item.ensures.written c.write_item.ensures.rest in
    let new = slice_set c.write_item.new.bytes 0 (byte bytes 0 + 1) in
    subst (λ (n : ℕ). KeepsBy (items_in new) new (c.self.inside.end + n)) (sym c.len.ensures.size) pushed.1

pub returns-clause-outcome : goal.returns-clause-outcome
returns-clause-outcome c =
    let bytes = c.self.inside.bytes in
    let items = items_in bytes in
    let u = update_of c.args.item in
    let reads = kept_reads items bytes c.self.inside.end c.self.invariant in
    let few : length items < MOST_ITEMS = omega (arith, reads.count, c.from.ensures, c.if-from-ge-MOST_ITEMS.false) in
    let other : has_item (key_of u) items ≡ false = ap (λ (k : List ℕ). has_item k items) (sym c.key.ensures) ∙ sym c.find_item.ensures ∙ c.if-find_item.false in
    let fits : length (intent_bytes items) + length (item_bytes u) ≤ INTENT_SIZE = omega (arith, c.if-end-gt-INTENT_SIZE.false, c.len.ensures.size, c.self.invariant.end_is) in
    let pushed = pushed_kept u bytes c.write_item.new.bytes c.self.inside.end c.self.invariant few other c.len.ensures.sizes fits (omega (arith, c.write_item.auto.bytes, c.self.told)) c.write_item.ensures.written c.write_item.ensures.rest in (
      ap (λ (us : List Update). push_fault us u) (sym c.self.view_is) ∙ no_fault items u few other fits,
      pushed.0 ∙ ap (λ (us : List Update). us ++ u ∷ []) c.self.view_is,
    )

pub returns-clause-intent : goal.returns-clause-intent
returns-clause-intent c = (invariant_of-self c).intent
