use Rattle.std.proofs.Common.{arith, ◌≡◌, refl, ℕ, ◌/◌, None, false, ap, sym, ◌∙◌}
use Rattle.resize_region.specs.Shares.{places}
use Rattle.bulk_load.proofs.TakenLaws.{none_taken}
use Rattle.bulk_load.proofs.run.start_run.Goals as goal
use Rattle.bulk_load.proofs.run.start_run.Goals.{After-start_shares}

-- the places are those of the journal
started : (c : After-start_shares) → places c.args.place.now.layout.format c.start_shares.new.frames ≡ c.batch_room.result
started c = ap (λ (j : ℕ). j / c.args.place.now.layout.format) (c.start_shares.ensures.journal ∙ c.requires.journal) ∙ sym c.batch_room.ensures.room

pub start_shares-requires-clause-all : goal.start_shares-requires-clause-all
start_shares-requires-clause-all c = c.batch_room.ensures.room ∙ sym (ap (λ (j : ℕ). j / c.args.place.now.layout.format) c.requires.journal)

pub returns-clause-taken : goal.returns-clause-taken
returns-clause-taken c =
    none_taken c.args.place.now.layout (record { records = 0; written = 0; last = None; ended = false }) c.start_shares.new.frames refl refl refl c.start_shares.ensures.shares (λ f lt. c.start_shares.ensures.empty f (omega (arith, lt, started (goal.at.returns-clause-taken c).After-start_shares)))
