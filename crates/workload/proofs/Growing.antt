-- One command more: its state, the lines of its reply, and what they count.
use Rattle.std.proofs.Common.{◌≡◌, ℕ, suc, ◌+◌, List, [], ◌∷◌, ◌++◌, length, map, cond, refl, sym, ap, subst, ◌∙◌, arith, append-nil, append_assoc}
use Rattle.std.specs.List.{sum_by}
use Rattle.std.proofs.lemmas.List.Sums.{sum_by-append, sum_by-cons}
use Rattle.key_slot.specs.Record.{Record}
use Rattle.header_gate.specs.declared.layout.Layout.{Layout}
use Rattle.map_model.specs.ArrayState.{ArrayState}
use Rattle.command_text.specs.Answers.{answers, row_line, range_lines}
use Rattle.command_text.specs.ArraySession.{array_step, array_state_after}
use Rattle.command_text.specs.declared.command.Command.{Command}
use Rattle.command_text.specs.declared.reply.Reply.{Reply}
use Rattle.command_text.specs.declared.reply.Reply.TheVariants.{End}
use Rattle.workload.specs.Summaries.{is_stored, is_replaced, is_removed, is_absent, is_found, rows_ended, summary_of, counted, CountsBy}
use Rattle.workload.specs.Generator.{next_draw, draw, generated, command_numbered}
use Rattle.workload.specs.Generation.{gen_layout, empty_state, lines_to, gen_state, gen_counts}

pub state_more : (l : Layout) (s : ArrayState) (cs : List Command) (c : Command) → array_state_after l s (cs ++ c ∷ []) ≡ array_step l (array_state_after l s cs) c
state_more l s [] c = refl
state_more l s (d ∷ cs) c = state_more l (array_step l s d) cs c

pub lines_more : (l : Layout) (s : ArrayState) (cs : List Command) (c : Command) → lines_to l s (cs ++ c ∷ []) ≡ lines_to l s cs ++ answers l (array_state_after l s cs) c
lines_more l s [] c = append-nil (answers l s c)
lines_more l s (d ∷ cs) c =
    let next = array_step l s d in
    ap (λ (lines : List Reply). answers l s d ++ lines) (lines_more l next cs c)
    ∙ sym (append_assoc (answers l s d) (lines_to l next cs) (answers l (array_state_after l next cs) c))

one_more : (count : ℕ) → suc count ≡ count + 1
one_more count = omega arith

-- a summary of more lines
pub summary_more : (n : ℕ) (xs ys : List Reply) → summary_of (n + 1) (xs ++ ys) ≡ counted (summary_of n xs) ys
summary_more n xs ys = λ i. record {
  commands = n + 1;
  stored = sum_by-append (λ x. cond (is_stored x) 1 0) xs ys i;
  replaced = sum_by-append (λ x. cond (is_replaced x) 1 0) xs ys i;
  removed = sum_by-append (λ x. cond (is_removed x) 1 0) xs ys i;
  absent = sum_by-append (λ x. cond (is_absent x) 1 0) xs ys i;
  found = sum_by-append (λ x. cond (is_found x) 1 0) xs ys i;
  ranged = sum_by-append rows_ended xs ys i;
  records = 0;
  height = 0;
}

-- lines of records that don't count
pub rows_count_nothing : (f : Reply → ℕ) → ((r : Record) → f (row_line r) ≡ 0) → (rows : List Record) (last : Reply) → sum_by f (map row_line rows ++ last ∷ []) ≡ sum_by f (last ∷ [])
rows_count_nothing f none [] last = refl
rows_count_nothing f none (r ∷ rows) last =
    omega (arith, sum_by-cons f (row_line r) (map row_line rows ++ last ∷ []), none r, rows_count_nothing f none rows last)

pub ranges_by_end : (rows : List Record) → CountsBy (range_lines rows) (End (length rows))
ranges_by_end rows s =
    let end : Reply = End (length rows) in
    λ i. record {
      commands = s.commands + 1;
      stored = s.stored + rows_count_nothing (λ x. cond (is_stored x) 1 0) (λ r. refl) rows end i;
      replaced = s.replaced + rows_count_nothing (λ x. cond (is_replaced x) 1 0) (λ r. refl) rows end i;
      removed = s.removed + rows_count_nothing (λ x. cond (is_removed x) 1 0) (λ r. refl) rows end i;
      absent = s.absent + rows_count_nothing (λ x. cond (is_absent x) 1 0) (λ r. refl) rows end i;
      found = s.found + rows_count_nothing (λ x. cond (is_found x) 1 0) (λ r. refl) rows end i;
      ranged = s.ranged + rows_count_nothing rows_ended (λ r. refl) rows end i;
      records = s.records;
      height = s.height;
    }

-- one generated command more
pub draw_next : (count seed : ℕ) → draw seed (count + 1) ≡ next_draw (draw seed count)
draw_next count seed = subst (λ (n : ℕ). draw seed n ≡ next_draw (draw seed count)) (one_more count) refl

pub state_next : (count seed : ℕ) → gen_state (count + 1) seed ≡ array_step gen_layout (gen_state count seed) (command_numbered seed (count + 1))
state_next count seed = subst (λ (n : ℕ). gen_state n seed ≡ array_step gen_layout (gen_state count seed) (command_numbered seed n)) (one_more count) (state_more gen_layout empty_state (generated count seed) (command_numbered seed (suc count)))

pub counts_next : (count seed : ℕ) → gen_counts (count + 1) seed ≡ counted (gen_counts count seed) (answers gen_layout (gen_state count seed) (command_numbered seed (count + 1)))
counts_next count seed =
    let lines = lines_to gen_layout empty_state (generated count seed) in
    let next : List Reply = answers gen_layout (gen_state count seed) (command_numbered seed (suc count)) in
    subst (λ (n : ℕ). gen_counts n seed ≡ counted (gen_counts count seed) (answers gen_layout (gen_state count seed) (command_numbered seed n))) (one_more count)
    (ap (summary_of (suc count)) (lines_more gen_layout empty_state (generated count seed) (command_numbered seed (suc count)))
    ∙ ap (λ (n : ℕ). summary_of n (lines ++ next)) (one_more count)
    ∙ summary_more count lines next)
