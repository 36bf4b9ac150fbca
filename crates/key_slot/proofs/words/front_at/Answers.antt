-- Two words, as one number.
use Rattle.std.proofs.Common.{◌≡◌, ℕ, ◌+◌, ◌*◌, sym, ap, ◌∙◌, arith, slice_range}
use Rattle.std.specs.Slice.Scan.{big_endian}
use Rattle.std.proofs.lemmas.List.Edits.{length-between}
use Rattle.key_slot.proofs.KeyOrder.{part_split, two_words}
use Rattle.key_slot.proofs.words.front_at.Goals as goal

pub returns-clause-front : goal.returns-clause-front
returns-clause-front c =
    let bytes = c.args.bytes.now in
    let at = c.args.at in
    let low : c.word_at-low.result ≡ big_endian 0 (slice_range c.args.bytes.now (c.args.at + 8) (c.args.at + 16)) =
    c.word_at-low.ensures.word ∙ ap (λ (end : ℕ). big_endian 0 (slice_range bytes (at + 8) end)) {x = at + 8 + 8} {y = at + 16} (omega arith) in
    (λ i. c.word_at-high.ensures.word i * 18446744073709551616 + low i)
    ∙ sym (two_words (slice_range bytes at (at + 8)) (slice_range bytes (at + 8) (at + 16)) (length-between bytes (at + 8) (at + 16) c.requires ∙ omega arith))
    ∙ ap (big_endian 0) (sym (part_split bytes at (at + 8) (at + 16) (omega arith) (omega arith)))
