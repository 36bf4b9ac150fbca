use Rattle.std.proofs.Common.{ℕ, inl, refl, ap, subst, sym}
use Rattle.redo_journal.specs.Frames.{Batch}
use Rattle.redo_journal.specs.Replaying.{gate_after}
use Rattle.redo_journal.specs.Rest.{RestsAt}
use Rattle.redo_journal.proofs.Live.{rests_by, gate_replayed, after_single}
use Rattle.redo_journal.proofs.replays.replay_live.Goals as goal

pub returns-clause-rests : goal.returns-clause-rests
returns-clause-rests g c =
    let l = c.args.place.now.layout in
    let turn = c.args.turn in
    let a = g.S.Station.view c.args.station.now in
    let b = g.S.Station.view c.replay_batch.new.station in
    subst (λ (t : ℕ). RestsAt l t b) (sym (ap (λ (x : Batch). x.turn) c.set_turn.ensures.after))
    (rests_by l (gate_after l turn) (g.met.S.Station.lawful c.replay_batch.new.station) c.replay_batch.ensures.replays.steps.frame c.in_ok-replay_batch.ensures.replays.rest (after_single l turn)
    (λ told. gate_replayed l turn a.held b.held (c.requires.gate a.held (inl (told, refl))) (c.in_ok-replay_batch.ensures.replays.closed told) (c.in_ok-replay_batch.ensures.replays.kept told)))

pub replay_batch-requires-clause-at : goal.replay_batch-requires-clause-at
replay_batch-requires-clause-at g c = λ image left. record { at = c.requires.at image left; gate_is = c.requires.gate image left }
