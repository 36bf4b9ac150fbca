-- No value's word is the empty value, since no bytes decode to no bytes.
use Rattle.std.proofs.Common.{◌≡◌, ℕ, Bool, List, [], ◌∷◌, length, nat_lt, cond, ap, sym, ◌∙◌, arith}
use Rattle.std.proofs.lemmas.Bool.{le-ltb}
use Rattle.percent_encoding.proofs.PercentLemmas.{percent_decode-nil}
use Rattle.key_slot.specs.Format.{value_room}
use Rattle.command_text.specs.declared.command.Command.TheVariants.{Put, OversizedValue}
use Rattle.command_text.specs.ByName.{put_read, key_then, value_then}
use Rattle.command_text.proofs.parse.read_put.Goals as goal

no_value : (f : ℕ) (k : List ℕ) → key_then f k (λ key. value_then f [] (λ value. Put key value)) ≡ put_read f (k ∷ [])
no_value f k =
    ap (λ (v : List ℕ). key_then f k (λ key. cond (nat_lt (value_room f) (length v)) OversizedValue (Put key v))) percent_decode-nil
    ∙ ap (λ (b : Bool). key_then f k (λ key. cond b OversizedValue (Put key []))) (le-ltb (value_room f) 0 (omega arith))

pub returns-in_default-next_word : goal.returns-in_default-next_word
returns-in_default-next_word c =
    c.put.ensures ∙ no_value c.args.format c.in-Some.key.now ∙ ap (put_read c.args.format) (sym (c.in-Some.ensures.0 ∙ ap (λ (l : List (List ℕ)). c.in-Some.key.now ∷ l) c.in_default-next_word.ensures))
