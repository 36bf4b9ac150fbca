-- A run of generated commands, from its beginning on.
use Rattle.std.proofs.Common.{◌≡◌, ℕ, ◌+◌, ◌<◌, [], ◌∷◌, refl, sym, ap, subst, ◌∙◌, arith}
use Rattle.map_model.specs.ArrayState.{ArrayState, plain}
use Rattle.command_text.specs.Answers.{answers}
use Rattle.command_text.specs.ArraySession.{array_step}
use Rattle.command_text.specs.declared.command.Command.{Command}
use Rattle.command_text.specs.declared.reply.Reply.{Reply}
use Rattle.workload.specs.declared.summary.Summary.{Summary}
use Rattle.workload.specs.Generator.{next_draw, draw, command_by, command_numbered}
use Rattle.workload.specs.Summaries.{summary_of, counted, CountsBy, sized, Fits}
use Rattle.workload.specs.Generation.{gen_layout, empty_state, gen_counts, gen_summary, HasRun}
use Rattle.workload.proofs.Growing.{draw_next, state_next, counts_next}
use Rattle.workload.proofs.Fitting.{fits}

pub run_begins : (seed : ℕ) → HasRun 0 seed seed (summary_of 0 []) empty_state
run_begins seed = record { drawn = refl; counts = refl; state_is = refl }

pub run_ends : (count seed x : ℕ) (s : Summary) (state : ArrayState) → HasRun count seed x s state → sized s (plain state) ≡ gen_summary count seed
run_ends count seed x s state run = λ i. sized (run.counts i) (plain (run.state_is i))

module _ (count seed x : ℕ) (s : Summary) (state : ArrayState) (c : Command) (last : Reply) (run : HasRun count seed x s state) (command_is : c ≡ command_by (next_draw x) (count + 1)) where
  drawn : next_draw x ≡ draw seed (count + 1)
  drawn = ap next_draw run.drawn ∙ sym (draw_next count seed)

  numbered : c ≡ command_numbered seed (count + 1)
  numbered = command_is ∙ ap (λ (d : ℕ). command_by d (count + 1)) drawn

  counted_next : CountsBy (answers gen_layout state c) last → counted s (last ∷ []) ≡ gen_counts (count + 1) seed
  counted_next by_last = sym (by_last s) ∙ (λ i. counted (run.counts i) (answers gen_layout (run.state_is i) (numbered i))) ∙ sym (counts_next count seed)

  pub run_next : CountsBy (answers gen_layout state c) last → HasRun (count + 1) seed (next_draw x) (counted s (last ∷ [])) (array_step gen_layout state c)
  run_next by_last = record {
    drawn = drawn;
    counts = counted_next by_last;
    state_is = (λ i. array_step gen_layout (run.state_is i) (numbered i)) ∙ sym (state_next count seed);
  }

  pub run_fits : count < 1000000 → CountsBy (answers gen_layout state c) last → Fits (counted s (last ∷ []))
  run_fits few by_last = subst Fits (sym (counted_next by_last)) (fits (count + 1) seed (omega (arith, few)))
