use Rattle.std.proofs.Common.{ap, ◌∙◌, map, arith}
use Rattle.std.specs.Prelude.{string_bytes}
use Rattle.pma_cli.proofs.Layouts.{created_is_short}
use Rattle.pma_cli.proofs.tests.see_created.Goals as goal

pub run_words-requires-clause-reach : goal.run_words-requires-clause-reach
run_words-requires-clause-reach g c l is = omega (arith, c.requires.reach, created_is_short (map string_bytes c.deref.result.now) l (ap (map string_bytes) c.deref.ensures.value ∙ c.in_ok-words.ensures) is)
