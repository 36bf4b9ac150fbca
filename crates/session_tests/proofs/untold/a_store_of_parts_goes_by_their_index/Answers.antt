use Rattle.std.proofs.Common.{◌^◌, ◌≤◌, List, ℕ, inl, inr, sym, ap, subst}
use Rattle.std.proofs.lemmas.Bool.{false≢true}
use Rattle.station.specs.View.{View, MayHold}
use Rattle.header_gate.specs.Places.{file_length}
use Rattle.header_gate.specs.declared.layout.Layout.{Layout}
use Rattle.redo_journal.specs.Rest.{RestsAt}
use Rattle.pma_store.specs.StoreView.{StoreView}
use Rattle.mem_sessions.specs.Untold.{untold_station}
use Rattle.session_tests.proofs.untold.a_store_of_parts_goes_by_their_index.Goals as goal

-- The station tells nothing, so the store stands for each file that it may hold.
pub get-requires : goal.get-requires
get-requires g c = record {
  «open» = record {
    on = record {
      stands = λ image held. none image held;
      rests = subst (λ (s : StoreView). RestsAt s.place.layout s.turn v) (sym c.from_parts-store.ensures.store) c.in_ok-parts.ensures.rests;
      reach = subst (λ (l : Layout). file_length l ≤ 2 ^ 40) (sym (ap (λ (s : StoreView). s.place.layout) c.from_parts-store.ensures.store)) c.in_ok-parts.ensures.reach;
    };
    opened = ap (λ (s : StoreView). s.closed) c.from_parts-store.ensures.store;
    no_intent = λ image held. none image held;
  };
}
  where
    v : View
    v = untold_station c.open_store.new.station.attached c.open_store.new.station.calls c.open_store.new.station.disk_faults c.open_store.new.station.say_faults c.open_store.new.station.travel

    none : {P : Type 0} (image : List ℕ) → MayHold v image → P
    none image (inl told) = absurd (false≢true told.0)
    none image (inr held) = absurd (false≢true held.0)
