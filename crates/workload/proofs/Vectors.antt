-- The first commands of three seeds, and the lines of four runs, as they are known from outside.
use Rattle.std.proofs.Common.{◌≡◌, ℕ, ◌+◌, Bool, false, cond, List, [], ◌∷◌, ◌++◌, Some, None, Option, is_some, refl, ap, ◌∙◌}
use Rattle.std.specs.Prelude.{codes, nat_lt}
use Rattle.std.specs.Fmt.{digits}
use Rattle.std.specs.FinMap.{contains_key, insert, len, get-empty, len-empty, len-insert}
use Rattle.std.specs.Cmp.Lexicographic.{nat_list_cmp_total}
use Rattle.key_slot.specs.Record.{Bytes, Record, key_cmp}
use Rattle.density_rule.specs.Bounds.{upper_of}
use Rattle.map_model.specs.Store.{bind, Adds, effect_by, effect_of, effect_map, effect_height}
use Rattle.map_model.specs.After.{map_after, height_after}
use Rattle.map_model.specs.Scan.{scanned}
use Rattle.command_text.specs.Answers.{found_or_absent, range_lines, effect_line}
use Rattle.command_text.specs.declared.command.Command.TheVariants.{Put, Get, Range}
use Rattle.command_text.specs.declared.reply.Reply.{Reply}
use Rattle.command_text.specs.declared.reply.Reply.TheVariants.{Stored, Absent, End}
use Rattle.workload.specs.Generator.{next_draw, key_numbered, command_chosen, generated}
use Rattle.workload.specs.Summaries.{summary_of, summary_text}
use Rattle.workload.specs.Generation.{gen_layout, empty_state, lines_to, gen_state, gen_line}
use Rattle.workload.proofs.Beginning.{nothing, no_entries}

generated_of_0 : generated 1 0 ≡ Range (Some (codes "k93975")) None 10 ∷ []
unfolding next_draw command_chosen key_numbered digits
generated_of_0 = refl

generated_of_1 : generated 1 1 ≡ Get (codes "k04346") ∷ []
unfolding next_draw command_chosen key_numbered digits
generated_of_1 = refl

generated_of_2 : generated 1 2 ≡ Put (codes "k14717") (codes "1") ∷ []
unfolding next_draw command_chosen key_numbered digits
generated_of_2 = refl

-- the line of commands with these replies, after which the store has this size
line_by : (count seed n h : ℕ) (lines : List Reply) → lines_to gen_layout empty_state (generated count seed) ≡ lines → len (gen_state count seed).map ≡ n → (gen_state count seed).height ≡ h
    → gen_line count seed ≡ summary_text (record (summary_of count lines) { records = n; height = h })
line_by count seed n h lines lines_are count_is height_is = λ i. summary_text (record (summary_of count (lines_are i)) { records = count_is i; height = height_is i })

none : len nothing ≡ 0
none = len-empty key_cmp Bytes

pub line_of_nothing : gen_line 0 7 ≡ codes "gen commands=0 stored=0 replaced=0 removed=0 absent=0 found=0 ranged=0 records=0 height=0" ++ 10 ∷ []
unfolding summary_text digits
line_of_nothing = line_by 0 7 0 0 [] refl none refl

-- a range of an empty store
pub line_of_range : gen_line 1 0 ≡ codes "gen commands=1 stored=0 replaced=0 removed=0 absent=0 found=0 ranged=0 records=0 height=0" ++ 10 ∷ []
unfolding summary_text next_draw command_chosen key_numbered digits
line_of_range = line_by 1 0 0 0 (End 0 ∷ []) (ap (λ (rs : List Record). range_lines (scanned (Some (codes "k93975")) None 10 rs) ++ []) no_entries) none refl

-- a get in it
pub line_of_get : gen_line 1 1 ≡ codes "gen commands=1 stored=0 replaced=0 removed=0 absent=1 found=0 ranged=0 records=0 height=0" ++ 10 ∷ []
unfolding summary_text next_draw command_chosen key_numbered digits
line_of_get = line_by 1 1 0 0 (Absent ∷ []) (ap (λ (v : Option Bytes). found_or_absent v ∷ []) (get-empty key_cmp (codes "k04346"))) none refl

abbrev key : Bytes
key = codes "k14717"

absent : contains_key nothing key ≡ false
absent = ap is_some (get-empty key_cmp key)

-- it adds a record
added : effect_of 11 nothing (bind key (codes "1")) ≡ Adds
added = (λ t. effect_by (absent t) (nat_lt (none t) (upper_of 11)) (bind key (codes "1")))

stored : map_after 11 nothing (bind key (codes "1")) ≡ insert nothing key (codes "1")
stored = (λ t. effect_map (added t) nothing (bind key (codes "1")))

low : height_after 11 0 nothing (bind key (codes "1")) ≡ 0
low = (λ t. effect_height (added t) 0 (none t))

one_held : len (insert nothing key (codes "1")) ≡ 1
one_held = len-insert nat_list_cmp_total nothing key (codes "1") ∙ ap (λ (b : Bool). cond b (len nothing) (len nothing + 1)) absent ∙ ap (λ (n : ℕ). n + 1) none

-- a put into it
pub line_of_put : gen_line 1 2 ≡ codes "gen commands=1 stored=1 replaced=0 removed=0 absent=0 found=0 ranged=0 records=1 height=0" ++ 10 ∷ []
unfolding summary_text next_draw command_chosen key_numbered digits
line_of_put = line_by 1 2 1 0 (Stored ∷ []) (λ t. effect_line (upper_of 11) (added t) ∷ []) (ap len stored ∙ one_held) low
