use Rattle.array_tests.proofs.opened.open_cleared.Goals as goal

pub returns-in-Ok-clause-stands : goal.returns-in-Ok-clause-stands
returns-in-Ok-clause-stands g c = c.in-Ok.ensures.stands c.in_ok-parts.parts.tally (λ image may. (c.in_ok-parts.ensures.agrees image may).stands.stands)
