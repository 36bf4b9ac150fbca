use Rattle.std.proofs.Common.{arith, refl}
use Rattle.std.specs.FinMap.{entries, entries_sorted, entries-from_sorted, same_entries_map, from_sorted}
use Rattle.key_slot.specs.Record.{key_cmp}
use Rattle.map_model.proofs.Entries.{length-rows}
use Rattle.bulk_load.proofs.TextFaults.{dump_is_text}
use Rattle.bulk_load.proofs.laws.dumps_are_load_texts.Goals as goal

pub returns-clause-text : goal.returns-clause-text
returns-clause-text c format m known all small = dump_is_text format (entries m) (entries_sorted m) known all (omega (arith, length-rows (entries m) m refl, small))

pub returns-clause-map : goal.returns-clause-map
returns-clause-map c m = same_entries_map (from_sorted (entries m)) m (entries-from_sorted key_cmp (entries m) (entries_sorted m))
