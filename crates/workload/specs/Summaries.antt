-- What commands were answered, counted.
use Rattle.std.specs.Prelude.{◌≡◌, ℕ, ◌+◌, ◌^◌, ◌<◌, Bool, true, false, List, [], ◌∷◌, ◌++◌, codes, decimal}
use Rattle.std.specs.List.{count_by, sum_by}
use Rattle.std.specs.FinMap.{len}
use Rattle.map_model.specs.Store.{State}
use Rattle.command_text.specs.declared.reply.Reply.{Reply}
use Rattle.command_text.specs.declared.reply.Reply.TheVariants.{Stored, Replaced, Removed, Absent, Found, End}
use Rattle.workload.specs.declared.summary.Summary.{Summary}

-- which line of a reply a line is
abbrev pub is_stored : Reply → Bool
is_stored Stored = true
is_stored _ = false

abbrev pub is_replaced : Reply → Bool
is_replaced Replaced = true
is_replaced _ = false

abbrev pub is_removed : Reply → Bool
is_removed Removed = true
is_removed _ = false

abbrev pub is_absent : Reply → Bool
is_absent Absent = true
is_absent _ = false

abbrev pub is_found : Reply → Bool
is_found (Found value) = true
is_found _ = false

-- the number in the line that ends a range
abbrev pub rows_ended : Reply → ℕ
rows_ended (End rows) = rows
rows_ended _ = 0

-- that many commands, counted by all lines of their replies; of no size
abbrev pub summary_of : ℕ → List Reply → Summary
summary_of commands lines = record {
  commands = commands;
  stored = count_by is_stored lines;
  replaced = count_by is_replaced lines;
  removed = count_by is_removed lines;
  absent = count_by is_absent lines;
  found = count_by is_found lines;
  ranged = sum_by rows_ended lines;
  records = 0;
  height = 0;
}

-- a summary with one command more, whose reply has these lines
abbrev pub counted : Summary → List Reply → Summary
counted s lines = record {
  commands = s.commands + 1;
  stored = s.stored + count_by is_stored lines;
  replaced = s.replaced + count_by is_replaced lines;
  removed = s.removed + count_by is_removed lines;
  absent = s.absent + count_by is_absent lines;
  found = s.found + count_by is_found lines;
  ranged = s.ranged + sum_by rows_ended lines;
  records = s.records;
  height = s.height;
}

-- of these lines the last counts alone
abbrev pub CountsBy : List Reply → Reply → Type 0
CountsBy lines last = (s : Summary) → counted s lines ≡ counted s (last ∷ [])

-- a summary with the size of a store
abbrev pub sized : Summary → State → Summary
sized s state = record s { records = len state.map; height = state.height }

-- all counts are numbers below 2^32
pub record Fits (s : Summary) : Type 0 where
  pub commands : s.commands < 2 ^ 32
  pub stored : s.stored < 2 ^ 32
  pub replaced : s.replaced < 2 ^ 32
  pub removed : s.removed < 2 ^ 32
  pub absent : s.absent < 2 ^ 32
  pub found : s.found < 2 ^ 32
  pub ranged : s.ranged < 2 ^ 32

-- the line of a summary
unfoldable pub summary_text : Summary → List ℕ
summary_text s =
    codes "gen commands=" ++ decimal s.commands
    ++ codes " stored=" ++ decimal s.stored
    ++ codes " replaced=" ++ decimal s.replaced
    ++ codes " removed=" ++ decimal s.removed
    ++ codes " absent=" ++ decimal s.absent
    ++ codes " found=" ++ decimal s.found
    ++ codes " ranged=" ++ decimal s.ranged
    ++ codes " records=" ++ decimal s.records
    ++ codes " height=" ++ decimal s.height
    ++ 10 ∷ []
