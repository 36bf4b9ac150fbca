use Rattle.redo_journal.proofs.Live.{rest_settled, rest_nothing, rest_recovers, rest_held, rest_head, rest_tables, rest_still, rests_settled, settled_rests}
use Rattle.redo_journal.proofs.laws.stations_at_rest.Goals as goal

pub returns-clause-single : goal.returns-clause-single
returns-clause-single g c l = rest_settled l (g.S.Station.view c.args.a.now)

pub returns-clause-nothing : goal.returns-clause-nothing
returns-clause-nothing g c l = rest_nothing l (g.S.Station.view c.args.a.now)

pub returns-clause-recovers : goal.returns-clause-recovers
returns-clause-recovers g c l = rest_recovers l (g.S.Station.view c.args.a.now) (g.met.S.Station.lawful c.args.a.now)

pub returns-clause-held : goal.returns-clause-held
returns-clause-held g c l = rest_held l (g.S.Station.view c.args.a.now)

pub returns-clause-gates : goal.returns-clause-gates
returns-clause-gates g c l rest image left = (rest_head l (g.S.Station.view c.args.a.now) (g.met.S.Station.lawful c.args.a.now) rest image left).0

pub returns-clause-copies : goal.returns-clause-copies
returns-clause-copies g c l rest image left = (rest_head l (g.S.Station.view c.args.a.now) (g.met.S.Station.lawful c.args.a.now) rest image left).1

pub returns-clause-tables : goal.returns-clause-tables
returns-clause-tables g c l = rest_tables l (g.S.Station.view c.args.a.now) (g.met.S.Station.lawful c.args.a.now)

pub returns-clause-still : goal.returns-clause-still
returns-clause-still g c l = rest_still l (g.S.Station.view c.args.a.now) (g.S.Station.view c.args.b.now) (g.met.S.Station.lawful c.args.a.now)

pub returns-clause-settled : goal.returns-clause-settled
returns-clause-settled g c l turn single rests = (rests_settled l turn (g.S.Station.view c.args.a.now) single rests).1

pub returns-clause-rests : goal.returns-clause-rests
returns-clause-rests g c l = settled_rests l (g.S.Station.view c.args.a.now)
