-- A byte so far that is escaped was found, and none that is common.
use Rattle.std.proofs.Common.{ℕ, ◌≡◌, ◌+◌, ◌<◌, ◌≤◌, false, get_or, IsTrue}
use Rattle.command_text.specs.Printed.{is_common, is_escaped}
use Rattle.command_text.proofs.text.has_rare.Given as goal

abbrev pub invariant-loop-i : goal.invariant-loop-i
invariant-loop-i l =
    ((i : ℕ) → l.first ≤ i → i < l.first + l.i → IsTrue (is_escaped (get_or l.bytes i 0)) → IsTrue l.rare)
    × (((i : ℕ) → l.first ≤ i → i < l.first + l.i → IsTrue (is_common (get_or l.bytes i 0))) → l.rare ≡ false)
