use Rattle.std.proofs.Common.{◌≡◌, ◌≤◌, take}
use Rattle.recovery.specs.Intents.{puts_in}
use Rattle.recovery.proofs.fullness.count_puts.Given as goal

abbrev pub invariant-loop-i : goal.invariant-loop-i
invariant-loop-i l = record {
  counted : l.puts ≡ puts_in (take l.i l.intent);
  low : l.puts ≤ l.i;
}
