use Rattle.bulk_load.proofs.UpdateReading.{whole_full}
use Rattle.std.proofs.lemmas.List.{take-append-drop}
use Rattle.std.proofs.Common.{take, drop, sym}
use Rattle.bulk_load.proofs.MergeReading.{text_of}
use Rattle.bulk_load.proofs.MergeFaults.{map_read, first_unmerged, unfinished, merged_full, overfull}
use Rattle.bulk_load.proofs.merge_laws.merge_texts_are_read_by_lines.Goals as goal

pub returns-clause-text : goal.returns-clause-text
returns-clause-text c = text_of

pub returns-clause-read : goal.returns-clause-read
returns-clause-read c = map_read

pub returns-clause-wrong : goal.returns-clause-wrong
returns-clause-wrong c = first_unmerged

pub returns-clause-unfinished : goal.returns-clause-unfinished
returns-clause-unfinished c = unfinished

pub returns-clause-full : goal.returns-clause-full
returns-clause-full c = merged_full

pub returns-clause-overfull : goal.returns-clause-overfull
returns-clause-overfull c = overfull

pub returns-clause-stays : goal.returns-clause-stays
returns-clause-stays c format most k rows lines is = whole_full format most rows lines (take k lines) (drop k lines) (sym (take-append-drop k lines)) is
