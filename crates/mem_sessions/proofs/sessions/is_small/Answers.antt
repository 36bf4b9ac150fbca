use Rattle.std.proofs.Common.{Some, sym, ap, ◌∙◌, map, rules}
use Rattle.std.specs.Prelude.{string_bytes}
use Rattle.pma_engine.specs.CommandLines.{job_of}
use Rattle.mem_sessions.proofs.Layouts.{short_made}
use Rattle.mem_sessions.proofs.sessions.is_small.Goals as goal

pub returns-then-height-le4-clause-short : goal.returns-then-height-le4-clause-short
returns-then-height-le4-clause-short c few l made =
    short_made (job_of (map string_bytes c.args.words.now)) c.in-Some-Create.height c.in-Some-Create.journal l
    (sym c.read_words.ensures ∙ c.in-Some-Create.is ∙ ap Some c.in-Some-Create.field-0-is) made (search rules) (search rules)
