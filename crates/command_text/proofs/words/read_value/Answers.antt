-- What is decoded is the front of a field of zeros.
use Rattle.std.proofs.Common.{arith, ap, ◌∙◌, ◌≡◌, ◌≤◌, ℕ, length, replicate}
use Rattle.std.proofs.lemmas.List.{length-take-le}
use Rattle.key_slot.specs.declared.sizes.TheConstants.{MAX_VALUE_LEN}
use Rattle.command_text.proofs.Fields.{is_padded, front_taken}
use Rattle.command_text.proofs.words.read_value.Goals as goal

pub from_field-requires : goal.from_field-requires
from_field-requires c =
    let decoded = c.in_ok-len.ensures in
    let room = c.value_room.result in
    let within : room ≤ MAX_VALUE_LEN = omega (arith, c.value_room.ensures, c.requires) in
    let size : length c.decode_word.new.out ≡ room = c.decode_word.auto.out ∙ length-take-le room (replicate {A = ℕ} MAX_VALUE_LEN 0) within in
    is_padded MAX_VALUE_LEN room c.in_ok-len.len c.decode_word.new.out within (omega (arith, decoded.0, size)) size decoded.2

pub returns : goal.returns
returns c =
    let decoded = c.in_ok-len.ensures in
    let room = c.value_room.result in
    let within : room ≤ MAX_VALUE_LEN = omega (arith, c.value_room.ensures, c.requires) in
    let size : length c.decode_word.new.out ≡ room = c.decode_word.auto.out ∙ length-take-le room (replicate {A = ℕ} MAX_VALUE_LEN 0) within in
    let is = c.from_field.ensures ∙ front_taken MAX_VALUE_LEN room c.in_ok-len.len c.decode_word.new.out within (omega (arith, decoded.0, size)) size ∙ decoded.1 in
    (is, omega (arith, ap length (c.from_field.ensures ∙ front_taken MAX_VALUE_LEN room c.in_ok-len.len c.decode_word.new.out within (omega (arith, decoded.0, size)) size), length-take-le c.in_ok-len.len c.decode_word.new.out decoded.0, decoded.0, size, c.value_room.ensures))
