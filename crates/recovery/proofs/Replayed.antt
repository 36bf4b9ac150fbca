-- Whether a journal is replayed, by the gate and the version that were read, and what it costs where no page is to be laid.
use Rattle.std.proofs.Common.{◌≡◌, ◌==◌, ◌+◌, ℕ, Bool, true, false, List, refl, ◌∙◌, ap, arith}
use Rattle.std.specs.Prelude.{if◌then◌else◌, ◌||◌}
use Rattle.std.proofs.lemmas.Bool.Decides.{nat_tests}
use Rattle.header_gate.specs.declared.layout.Layout.{Layout}
use Rattle.header_gate.specs.declared.layout.TheConstants.{PAIRED}
use Rattle.header_gate.specs.Header.{layout_in}
use Rattle.header_gate.specs.Recovered.{live_table, names_some}
use Rattle.redo_journal.specs.Neighbours.{run_count}
use Rattle.recovery.specs.OpeningCosts.{bare_calls, bare_reads, laying_calls}
use Rattle.recovery.specs.StoreParts.{turn_of}

-- where there is one journal it is replayed only if the gate is odd
pub said_odd : (l : Layout) (odd : Bool) → ((l.version == PAIRED) || odd) ≡ true → (l.version ≡ PAIRED → ⊥) → turn_of odd ≡ 1
said_odd l true is single = refl
said_odd l false is single = absurd (single (grind (arith, nat_tests, is)))

-- where none is replayed there is one, and the gate is even
pub said_single : (l : Layout) (odd : Bool) → ((l.version == PAIRED) || odd) ≡ false → l.version ≡ PAIRED → ⊥
said_single l odd is paired = absurd (grind (arith, nat_tests, is, paired))

pub said_even : (l : Layout) (odd : Bool) → ((l.version == PAIRED) || odd) ≡ false → turn_of odd ≡ 0
said_even l false is = refl
said_even l true is = absurd (grind (arith, nat_tests, is))

pub paired_reads : (l : Layout) → l.version ≡ PAIRED → bare_reads l ≡ 4
paired_reads l is = grind (arith, nat_tests, is)

pub paired_calls : (l : Layout) → l.version ≡ PAIRED → bare_calls l ≡ 2
paired_calls l is = grind (arith, nat_tests, is)

-- a journal that names some page asks for that many calls
pub named_calls : (l : Layout) (image : List ℕ) → layout_in image ≡ l → names_some l image ≡ true → laying_calls image ≡ 6 + run_count (live_table l image)
named_calls l image is named =
    (λ t. if names_some (is t) image then 6 + run_count (live_table (is t) image) else 0)
    ∙ ap (λ (b : Bool). if b then 6 + run_count (live_table l image) else 0) named
