use Rattle.std.proofs.Common.{◌≡◌, ◌+◌, ◌∙◌, List, ℕ, ap, arith, length, subst, sym, true}
use Rattle.std.specs.FinMap.{entries, from_sorted, len-entries}
use Rattle.header_gate.specs.Header.{layout_in}
use Rattle.line_source.specs.Lines.{raw_lines}
use Rattle.batch_intent.specs.Means.{Means}
use Rattle.bulk_load.specs.LoadText.{IsLoadText}
use Rattle.bulk_load.specs.LoadLines.{loading, reads}
use Rattle.pma_engine.proofs.Dumped.{means_few, means_narrow, means_printed}
use Rattle.pma_engine.proofs.laws.dumps_load_back.Goals as goal

pub returns-clause-text : goal.returns-clause-text
returns-clause-text c l s m format records few room is told = (
  subst (λ (text : List ℕ). IsLoadText l.format (raw_lines text) (entries m)) (sym is) (c.dumps_are_load_texts.ensures.text l.format m format records few),
  omega (arith, room, len-entries m),
)

pub returns-clause-map : goal.returns-clause-map
returns-clause-map c l s m image format records few told is text =
    let most : ℕ = length text.rows + length (entries m) in
    let own : IsLoadText l.format (raw_lines s.left) (entries m) = subst (λ (t : List ℕ). IsLoadText l.format (raw_lines t) (entries m)) (sym is) (c.dumps_are_load_texts.ensures.text l.format m format records few) in
    let first : loading l.format most (raw_lines s.left) ≡ reads text.rows true = c.texts_are_read_by_lines.ensures.read l.format most (raw_lines s.left) text.rows (text.text told).0 (omega arith) in
    let second : loading l.format most (raw_lines s.left) ≡ reads (entries m) true = c.texts_are_read_by_lines.ensures.read l.format most (raw_lines s.left) (entries m) own (omega arith) in
    let both : reads text.rows true ≡ reads (entries m) true = sym first ∙ second in
    let same : text.rows ≡ entries m = cc in
    subst (Means l image) (ap from_sorted same ∙ c.dumps_are_load_texts.ensures.map m) text.means

-- Of a file of bytes.

pub returns-clause-meant : goal.returns-clause-meant
returns-clause-meant c image s m are means is =
    let narrow = means_narrow image m means in
    returns-clause-text c (layout_in image) s m narrow.0 (means_printed image m means are) narrow.1 (means_few image m means) is

pub returns-clause-again : goal.returns-clause-again
returns-clause-again c image new s m are means told is text =
    let narrow = means_narrow image m means in
    returns-clause-map c (layout_in image) s m new narrow.0 (means_printed image m means are) narrow.1 told is text
