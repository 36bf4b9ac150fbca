-- Where no rare byte was found, none is escaped; where all are common, none is found.
use Rattle.std.proofs.Common.{◌≡◌, ℕ, ◌<◌, Bool, true, false, not, List, length, get_or, sym, ap, arith, IsTrue}
use mathlib.Core.Bool.{true≢false}
use Rattle.std.proofs.lemmas.Bool.{false_from_ne_true}
use Rattle.command_text.specs.Printed.{printed, is_escaped}
use Rattle.command_text.proofs.Escapes.{printed-plain}
use Rattle.command_text.proofs.text.are_plain.Goals as goal

none_found : (bytes : List ℕ) (rare : Bool) → ((i : ℕ) → i < length bytes → IsTrue (is_escaped (get_or bytes i 0)) → IsTrue rare) → IsTrue (not rare) → printed bytes ≡ bytes
none_found bytes true found none = absurd (true≢false (sym none))
none_found bytes false found none = printed-plain bytes (λ i within. false_from_ne_true (is_escaped (get_or bytes i 0)) (λ e. true≢false (sym (found i within e))))

pub returns-then-bytes-ge16-clause-plain : goal.returns-then-bytes-ge16-clause-plain
returns-then-bytes-ge16-clause-plain c = none_found c.args.bytes.now c.has_rare_block.result c.has_rare_block.ensures.found

pub returns-then-bytes-ge16-clause-known : goal.returns-then-bytes-ge16-clause-known
returns-then-bytes-ge16-clause-known c = λ common. ap not (c.has_rare_block.ensures.common common)

pub returns-then-bytes-ge8-clause-plain : goal.returns-then-bytes-ge8-clause-plain
returns-then-bytes-ge8-clause-plain c = none_found c.args.bytes.now c.has_rare_block-then-bytes-ge8.result c.has_rare_block-then-bytes-ge8.ensures.found

pub returns-then-bytes-ge8-clause-known : goal.returns-then-bytes-ge8-clause-known
returns-then-bytes-ge8-clause-known c = λ common. ap not (c.has_rare_block-then-bytes-ge8.ensures.common common)

pub returns-clause-plain : goal.returns-clause-plain
returns-clause-plain c = none_found c.args.bytes.now c.has_rare.result (λ i within. c.has_rare.ensures.found i (omega arith) (omega (arith, within)))

pub returns-clause-known : goal.returns-clause-known
returns-clause-known c = λ common. ap not (c.has_rare.ensures.common (λ i behind within. common i (omega (arith, within))))
