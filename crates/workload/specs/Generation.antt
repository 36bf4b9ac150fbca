-- Generated commands on an empty store, and what they come to.
use Rattle.std.specs.Prelude.{◌≡◌, ℕ, List, [], ◌∷◌, ◌++◌}
use Rattle.std.specs.FinMap.{empty}
use Rattle.key_slot.specs.Record.{Bytes}
use Rattle.density_rule.specs.Marks.{no_marks}
use Rattle.header_gate.specs.declared.layout.Layout.{Layout}
use Rattle.header_gate.specs.Places.{height_limit}
use Rattle.map_model.specs.ArrayState.{ArrayState, plain}
use Rattle.command_text.specs.declared.command.Command.{Command}
use Rattle.command_text.specs.declared.reply.Reply.{Reply}
use Rattle.command_text.specs.Answers.{answers}
use Rattle.command_text.specs.ArraySession.{array_step, array_state_after}
use Rattle.workload.specs.declared.summary.Summary.{Summary}
use Rattle.workload.specs.Generator.{draw, generated}
use Rattle.workload.specs.Summaries.{summary_of, sized, summary_text}

-- the layout of the store's file: a greatest height of 11 segments of format 1, a journal as large as a region
abbrev pub gen_layout : Layout
gen_layout = record { hmax = 11; journal = 2048; version = 1; format = 1 }

-- the greatest height of the store
abbrev pub gen_hmax : ℕ
gen_hmax = height_limit gen_layout

-- the empty store: one segment without a record, and no window rested
abbrev pub empty_state : ArrayState
empty_state = record { map = empty; height = 0; array = [] ∷ []; marks = no_marks 0 }

-- the lines of the replies to commands, from a state on, in a store whose file has this layout
abbrev pub lines_to : Layout → ArrayState → List Command → List Reply
lines_to l s [] = []
lines_to l s (c ∷ cs) = answers l s c ++ lines_to l (array_step l s c) cs

-- the state after the first that many commands of a seed
abbrev pub gen_state : ℕ → ℕ → ArrayState
gen_state count seed = array_state_after gen_layout empty_state (generated count seed)

-- their replies counted
abbrev pub gen_counts : ℕ → ℕ → Summary
gen_counts count seed = summary_of count (lines_to gen_layout empty_state (generated count seed))

-- the same with the size of the store behind them
abbrev pub gen_summary : ℕ → ℕ → Summary
gen_summary count seed = sized (gen_counts count seed) (plain (gen_state count seed))

-- the line that sums them up
abbrev pub gen_line : ℕ → ℕ → Bytes
gen_line count seed = summary_text (gen_summary count seed)

-- The first `count` commands of a seed were carried out, one after another: x is what the generator holds, s has their
-- replies counted, and `state` is the state after them.
pub record HasRun (count seed x : ℕ) (s : Summary) (state : ArrayState) : Type 0 where
  pub drawn : x ≡ draw seed count
  pub counts : s ≡ gen_counts count seed
  pub state_is : state ≡ gen_state count seed
