-- The fields are equal so far.
use Rattle.std.proofs.Common.{◌≡◌, ◌*◌, take, slice_range}
use Rattle.key_slot.specs.declared.sizes.TheConstants.{KEY_AT, MAX_KEY_LEN}
use Rattle.key_slot.specs.Format.{value_place, key_room}
use Rattle.key_slot.specs.Padded.{padded}
use Rattle.key_slot.proofs.comparing.compare_key_in.Given as goal

abbrev pub invariant-loop-i : goal.invariant-loop-i
invariant-loop-i g l = take (l.i * 8) (slice_range l.slot KEY_AT (value_place g.row.FORMAT)) ≡ take (l.i * 8) (take (key_room g.row.FORMAT) (padded MAX_KEY_LEN l.key))
