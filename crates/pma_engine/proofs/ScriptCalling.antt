-- The calls of lines behind one another.
use Rattle.std.proofs.Common.{◌≡◌, ℕ, ◌+◌, ◌≤◌, List, [], ◌∷◌, ◌++◌, length, refl, sym, subst, ◌∙◌, inl, inr, arith}
use Rattle.station.specs.View.{View, Told}
use Rattle.header_gate.specs.declared.layout.Layout.{Layout}
use Rattle.map_model.specs.Cursors.{Cursors}
use Rattle.map_model.specs.Store.{Update}
use Rattle.command_text.specs.Script.{command_of_raw, commands_in}
use Rattle.command_text.specs.Session.{Session, session_reply, session_step, session_after}
use Rattle.command_text.specs.declared.command.Command.{Command}
use Rattle.command_text.specs.declared.command.Command.TheVariants.{Nothing, Put, Remove, Batch, Get, Range, Check, Probe, Cost, Open, Next, Prev, Close, OversizedKey, OversizedValue, RepeatedKey, Bad}
use Rattle.pma_store.specs.BatchCalls.{IsForBatch, IsForIntent}
use Rattle.pma_store.specs.StoreView.{StoreView, IsOpenOn}
use Rattle.pma_store.proofs.BatchCalls.{are_from}
use Rattle.pma_engine.specs.CommandCalls.{IsForCommand}
use Rattle.pma_engine.specs.Carrying.{CallsOnLine, SessionView, layout_on, session_in}
use Rattle.pma_engine.specs.ScriptCalls.{IsForLine, AreForLines}
use Rattle.pma_engine.proofs.ScriptCommands.{if_any_is, commands_in-nothing, commands_in-some}

-- the intent of a batch and its items, seen from before calls that tell as much
intent_for : (items : List Update) (s : StoreView) (a v : View) (n : ℕ) → (Told v → Told a) → IsForIntent items s a n → IsForIntent items s (record v { held = a.held }) n
intent_for items s a v n on is = record { of_items = is.of_items; are_for = are_from items s is.of_items on (λ told. refl) is.are_for; is = is.is }

-- a batch, likewise
batch_for : (items : List Update) (s : StoreView) (a v : View) (n : ℕ) → (Told v → Told a) → IsForBatch items s a n → IsForBatch items s (record v { held = a.held }) n
batch_for items s a v n on is = record {
  looked = is.looked;
  are_own = record { ascends = is.are_own.ascends; few = is.are_own.few; below = is.are_own.below; own = λ told. is.are_own.own (on told) };
  behind = is.behind;
  is_for = elim is.is_for [
    | inl commit ↦ inl commit
    | inr intent ↦ inr (intent_for items s a v is.behind on intent)
  ];
  is = is.is;
  at_once = λ told one. is.at_once (on told) one;
}

-- the calls of a command, seen from before calls that tell as much
for_view : (c : Command) (s : StoreView) (k : Cursors) (a v : View) (n : ℕ) → (Told v → Told a) → IsForCommand c s k a n → IsForCommand c s k (record v { held = a.held }) n
for_view (Put key value) s k a v n on is = record { at = is.at; within = is.within; own = λ told. is.own (on told); is = is.is }
for_view (Remove key) s k a v n on is = record { at = is.at; within = is.within; own = λ told. is.own (on told); is = is.is }
for_view (Batch items) s k a v n on is = batch_for items s a v n on is
for_view (Get key) s k a v n on is = is
for_view (Range low high limit) s k a v n on is = record { within = is.within; few = λ told. is.few (on told) }
for_view Check s k a v n on is = is
for_view Nothing s k a v n on is = is
for_view (Probe key block) s k a v n on is = is
for_view Cost s k a v n on is = is
for_view (Open name low high) s k a v n on is = is
for_view (Next name) s k a v n on is = is
for_view (Prev name) s k a v n on is = is
for_view (Close name) s k a v n on is = is
for_view OversizedKey s k a v n on is = is
for_view OversizedValue s k a v n on is = is
for_view RepeatedKey s k a v n on is = is
for_view (Bad why) s k a v n on is = is

-- lines behind others
pub lines_on : (v : View) (l : Layout) (x : Session) (cs ds : List Command) (before more : ℕ) → AreForLines v l x cs before → AreForLines v l (session_after l x cs) ds more → AreForLines v l x (cs ++ ds) (before + more)
lines_on v l x [] ds before more is next = subst (AreForLines v l x ds) (omega (arith, is)) next
lines_on v l x (c ∷ cs) ds before more is next = (is.0, is.1 + more, is.2, lines_on v l (session_step l x c) cs ds is.1 more is.3 next, omega (arith, is.4))

-- a line that was begun, in the state of the session
pub line_called : (v : View) (l : Layout) (x : Session) (c : Command) (m : SessionView) (a b : View) → (Told v → Told a) → Told a → IsOpenOn m.store a → layout_on m.store ≡ l → session_in m a.held ≡ x → CallsOnLine c m a b
    → (calls : ℕ) × IsForLine v l x c calls × (b.calls ≤ a.calls + calls)
line_called v l x c m a b on told open_yet place state called =
    let reply : length (session_reply (layout_on m.store) (session_in m a.held) c) ≡ length (session_reply l x c) = λ t. length (session_reply (place t) (state t) c) in (
      called.calls + length (session_reply l x c),
      record {
        on = m;
        image = a.held;
        stands = open_yet.on.stands a.held (inl (told, refl));
        place = place;
        state = state;
        own = called.calls;
        is_for = for_view c m.store m.cursors a v called.calls on called.is_for;
        is = refl;
      },
      omega (arith, called.most, called.told told, reply),
    )

-- a line without a command makes none
none_called : (v : View) (l : Layout) (x : Session) (calls : ℕ) → IsForLine v l x Nothing calls → calls ≡ 0
none_called v l x calls is = let none : length (session_reply l x Nothing) ≡ 0 = refl in omega (arith, is.is, is.is_for, none)

-- it is one of the lines
pub one_called : (v : View) (l : Layout) (x : Session) (raw : List ℕ) (c : Command) (calls : ℕ) → c ≡ command_of_raw l.format raw → IsForLine v l x c calls → AreForLines v l x (commands_in l.format (raw ∷ [])) calls
one_called v l x raw c calls is line = elim (if_any_is (command_of_raw l.format raw)) [
  | inl nothing ↦
      let none = none_called v l x calls (subst (λ (d : Command). IsForLine v l x d calls) (is ∙ nothing.1) line) in
      subst (λ (cs : List Command). AreForLines v l x cs calls) (sym (commands_in-nothing l.format raw [] nothing.0)) none
  | inr some ↦
      subst (λ (cs : List Command). AreForLines v l x cs calls) (sym (commands_in-some l.format raw (command_of_raw l.format raw) [] some))
      (calls, 0, subst (λ (d : Command). IsForLine v l x d calls) is line, refl, omega arith)
]
