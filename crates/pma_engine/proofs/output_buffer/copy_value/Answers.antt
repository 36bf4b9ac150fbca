-- A space and the value behind it.
use Rattle.std.proofs.Common.{◌≡◌, ℕ, ◌<◌, List, [], ◌∷◌, ◌++◌, length, take, sym, ap, ◌∙◌, arith, append_assoc}
use Rattle.std.proofs.lemmas.List.{append-nil}
use Rattle.key_slot.specs.Padded.{length-taken}
use Rattle.command_text.specs.Printed.{printed, value_word}
use Rattle.pma_engine.proofs.output_buffer.copy_value.Goals as goal

-- a value that is printed as it is
word_is : (value : List ℕ) → printed value ≡ value → 0 < length value → value_word value ≡ 32 ∷ value
word_is [] plain some = absurd (omega (arith, some))
word_is (b ∷ value) plain some = ap (λ (l : List ℕ). 32 ∷ l) plain

pub returns-then-used-eq0-clause-behind : goal.returns-then-used-eq0-clause-behind
returns-then-used-eq0-clause-behind g c =
    sym (append-nil (take c.args.len c.args.bytes.now)) ∙ ap (λ (n : ℕ). take c.args.len c.args.bytes.now ++ value_word (take n c.args.field.now)) (sym c.if-used-eq0.true)

pub returns-clause-behind : goal.returns-clause-behind
returns-clause-behind g c =
    let value = take c.args.used c.args.field.now in
    let some : 0 < length value = omega (arith, c.if-used-eq0.false, length-taken g.row.VALUE c.args.used c.args.field.now c.requires.field) in
    c.copy_whole.ensures.behind
    ∙ ap (λ (l : List ℕ). l ++ value) c.copy_whole-begun.ensures.behind
    ∙ append_assoc (take c.args.len c.args.bytes.now) (32 ∷ []) value
    ∙ ap (λ (l : List ℕ). take c.args.len c.args.bytes.now ++ l) (sym (word_is value c.requires.plain some))
