-- The parts of the line, one behind another.
use Rattle.std.proofs.Common.{◌≡◌, ℕ, List, [], ◌∷◌, ◌++◌, take, sym, ap, ◌∙◌, append_assoc}
use Rattle.std.specs.Prelude.{codes}
use Rattle.command_text.specs.Printed.{value_word}
use Rattle.pma_engine.proofs.output_buffer.copy_record.Goals as goal

-- parts that were put behind others one by one are all together behind the first
joined : (start a b c d : List ℕ) → (((start ++ a) ++ b) ++ c) ++ d ≡ start ++ ((a ++ (b ++ c)) ++ d)
joined start a b c d =
    ap (λ (l : List ℕ). l ++ d) (append_assoc (start ++ a) b c ∙ append_assoc start a (b ++ c))
    ∙ append_assoc start (a ++ (b ++ c)) d

pub returns-clause-behind : goal.returns-clause-behind
returns-clause-behind g c =
    let start = take c.args.len c.args.bytes.now in
    let key = take c.args.fields.key_len c.args.fields.key.now in
    let value = value_word (take c.args.fields.value_len c.args.fields.value.now) in
    c.copy_whole.ensures.behind
    ∙ ap (λ (l : List ℕ). l ++ 10 ∷ []) (c.copy_value-with_value.ensures.behind ∙ ap (λ (l : List ℕ). l ++ value) (c.copy_whole-with_key.ensures.behind ∙ ap (λ (l : List ℕ). l ++ key) c.copy_whole-begun.ensures.behind))
    ∙ joined start (codes "record ") key value (10 ∷ [])
    ∙ ap (λ (k : List ℕ). start ++ ((codes "record " ++ (k ++ value)) ++ 10 ∷ [])) (sym c.requires.plain_key)
