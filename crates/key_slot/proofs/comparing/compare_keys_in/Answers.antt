-- The first word that differs decides, and else the lengths.
use Rattle.std.proofs.Common.{◌≡◌, ◌+◌, Some, ◌*◌, ◌∙◌, ℕ, ap, sym, arith, slice_range}
use Rattle.key_slot.specs.Format.{value_place}
use Rattle.key_slot.specs.declared.sizes.TheConstants.{KEY_AT}
use Rattle.key_slot.specs.Record.{Bytes}
use Rattle.key_slot.specs.Slot.{fields_of}
use Rattle.key_slot.proofs.SlotBytes.{length-slot}
use Rattle.key_slot.proofs.KeyOrder.{decided, same_word, by_length}
use Rattle.key_slot.proofs.comparing.compare_keys_in.Goals as goal

pub word_at-requires : goal.word_at-requires
word_at-requires g c = omega (arith, length-slot g.row.FORMAT (Some (fields_of g.row.FORMAT c.args.slot.now)) c.args.slot.now c.requires.slot, c.loop-i-test.true)

pub word_at-requires-in-loop-i : goal.word_at-requires-in-loop-i
word_at-requires-in-loop-i g c = omega (arith, length-slot g.row.FORMAT (Some (fields_of g.row.FORMAT c.args.other.now)) c.args.other.now c.requires.other, c.loop-i-test.true)

-- a part that begins with the keys, by its end
moved : (s t : Bytes) (m n : ℕ) → m ≡ n → slice_range s KEY_AT m ≡ slice_range t KEY_AT m → slice_range s KEY_AT n ≡ slice_range t KEY_AT n
moved s t m n is e = sym (ap (slice_range s KEY_AT) is) ∙ e ∙ ap (slice_range t KEY_AT) is

pub returns-then-is_ne : goal.returns-then-is_ne
returns-then-is_ne g c =
    let at = KEY_AT + c.loop-i.i * 8 in
    decided g.row.FORMAT c.args.slot.now c.args.other.now c.requires.slot c.requires.other at (omega arith) (omega (arith, c.loop-i-test.true)) (moved c.args.slot.now c.args.other.now (KEY_AT + 8 * c.loop-i.i) at (omega arith) c.loop-i.invariant) c.word_at.ensures.bytes c.word_at-in-loop-i.ensures.bytes c.word_at.result c.word_at-in-loop-i.result c.word_at.ensures.word c.word_at-in-loop-i.ensures.word c.cmp-found.result c.cmp-found.ensures (sym c.is_ne.ensures ∙ c.if-is_ne.true)

pub loop-i-preserved : goal.loop-i-preserved
loop-i-preserved g c =
    let at = KEY_AT + c.loop-i.i * 8 in
    moved c.args.slot.now c.args.other.now (KEY_AT + c.loop-i.i * 8 + 8) (KEY_AT + 8 * (c.loop-i.i + 1)) (omega arith)
    (same_word g.row.FORMAT c.args.slot.now c.args.other.now c.requires.slot c.requires.other at (omega arith) (omega (arith, c.loop-i-test.true)) (moved c.args.slot.now c.args.other.now (KEY_AT + 8 * c.loop-i.i) at (omega arith) c.loop-i.invariant) c.word_at.ensures.bytes c.word_at-in-loop-i.ensures.bytes c.word_at.result c.word_at-in-loop-i.result c.word_at.ensures.word c.word_at-in-loop-i.ensures.word c.cmp-found.result c.cmp-found.ensures (sym c.is_ne.ensures ∙ c.if-is_ne.false))

pub returns : goal.returns
returns g c = c.cmp.ensures ∙ by_length g.row.FORMAT c.args.slot.now c.args.other.now c.requires.slot c.requires.other (moved c.args.slot.now c.args.other.now (KEY_AT + 8 * c.loop-i.i) (value_place g.row.FORMAT) (omega (arith, c.loop-i-test.false, c.loop-i.auto.i-end)) c.loop-i.invariant)
