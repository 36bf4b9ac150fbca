-- A store over any number of boots.
use Rattle.std.proofs.Common.{◌≡◌, ◌⊎◌, inl, inr, ℕ, ◌+◌, List, [], ◌∷◌, ◌++◌, length, take, refl, sym, ap, subst, ◌∙◌}
use Rattle.std.specs.FinMap.{empty}
use Rattle.header_gate.specs.Header.{layout_in}
use Rattle.header_gate.specs.Places.{height_limit}
use Rattle.header_gate.specs.declared.layout.Layout.{Layout}
use Rattle.map_model.specs.Store.{Map, State}
use Rattle.map_model.proofs.Resuming.{map_of_items}
use Rattle.batch_intent.specs.Means.{Means}
use Rattle.batch_intent.proofs.Meanings.{in_own}
use Rattle.command_text.specs.Answers.{step}
use Rattle.command_text.specs.ArraySession.{plain_state_after}
use Rattle.command_text.specs.Updates.{updates_made}
use Rattle.command_text.specs.declared.command.Command.{Command}
use Rattle.pma_engine.specs.Boots.{Boot, AreBoots, BootsLead, CarriesOut, after_boot, carried_out, commands_on, left_by, map_after_commands}
use Rattle.pma_engine.specs.Headline.{Headline, replies_begun}

-- the map of a session goes by its map alone
map_of_commands : (l : Layout) (s : State) (cs : List Command) → (plain_state_after l s cs).map ≡ map_after_commands l s.map cs
map_of_commands l s [] = refl
map_of_commands l s (c ∷ cs) = map_of_commands l (step l s c) cs ∙ ap (λ (m : Map). map_after_commands l m cs) (map_of_items (height_limit l) s (updates_made l s.map c))

after_append : (l : Layout) (m : Map) (done more : List Command) → map_after_commands l m (done ++ more) ≡ map_after_commands l (map_after_commands l m done) more
after_append l m [] more = refl
after_append l m (c ∷ done) more = after_append l (map_after_commands l m (c ∷ [])) done more

-- one boot more, in front of others
led_on : (start : List ℕ) (m : Map) (b : Boot) (bs : List Boot) (n : ℕ) → layout_in b.image ≡ layout_in start → CarriesOut start m b n → BootsLead b.image (after_boot start m b n) bs → BootsLead start m (b ∷ bs)
led_on start m b bs n same carries next = record {
  counts = n ∷ next.counts;
  last = next.last;
  lead = (carries, next.lead);
  as_one =
      next.as_one
      ∙ ap (λ (l : Layout). map_after_commands l (after_boot start m b n) (carried_out b.image bs next.counts)) same
      ∙ sym (after_append (layout_in start) m (take n (commands_on start b)) (carried_out b.image bs next.counts));
  means = subst (λ (l : Layout). Means l (left_by b.image bs) next.last) same next.means;
}

module _ (start : List ℕ) (m : Map) (means : Means (layout_in start) start m) (b : Boot) (run : Headline (layout_in start) means.begins empty (commands_on start b) b.said_before b.image b.said) where
  carries : (n : ℕ) → (n ≡ replies_begun run.texts (length run.new)) ⊎ (n ≡ replies_begun run.texts (length run.new) + 1) → CarriesOut start m b n
  carries n is = record {
    means = means;
    texts = run.texts;
    are = run.are;
    new = run.new;
    rest = run.rest;
    said_is = run.said_is;
    front = run.front;
    count_is = is;
  }

  left : (n : ℕ) → Means (layout_in start) b.image (plain_state_after (layout_in start) means.begins (take n (commands_on start b))).map → Means (layout_in start) b.image (after_boot start m b n)
  left n is =
      subst (Means (layout_in start) b.image)
      (map_of_commands (layout_in start) means.begins (take n (commands_on start b)) ∙ ap (λ (base : Map). map_after_commands (layout_in start) base (take n (commands_on start b))) means.map_is) is

-- by induction over the boots
pub boots_lead : (start : List ℕ) (m : Map) → Means (layout_in start) start m → (boots : List Boot) → AreBoots start boots → BootsLead start m boots
boots_lead start m here [] are = record { counts = []; last = m; lead = refl; as_one = refl; means = here }
boots_lead start m here (b ∷ bs) are =
    let run = are.0 (layout_in start) m here in
    let n = replies_begun run.texts (length run.new) in
    elim run.stands [
      | inl stands ↦
          let means = left start m here b run n stands in
          led_on start m b bs n means.layout_is (carries start m here b run n (inl refl)) (boots_lead b.image (after_boot start m b n) (in_own b.image (after_boot start m b n) means) bs are.1)
      | inr stands ↦
          let means = left start m here b run (n + 1) stands in
          led_on start m b bs (n + 1) means.layout_is (carries start m here b run (n + 1) (inr refl)) (boots_lead b.image (after_boot start m b (n + 1)) (in_own b.image (after_boot start m b (n + 1)) means) bs are.1)
    ]
