use Rattle.std.proofs.Common.{◌+◌, Bool, cond, Option, sym, ap, ◌∙◌}
use Rattle.std.specs.Cmp.Lexicographic.{texts_ties}
use Rattle.key_slot.specs.Record.{Bytes}
use Rattle.range_scan.specs.SeekReads.{is_at}
use Rattle.range_scan.proofs.Lookings.{at_index}
use Rattle.range_scan.proofs.ahead.index_past.Goals as goal

pub returns-in-Some-clause-index : goal.returns-in-Some-clause-index
returns-in-Some-clause-index c =
    let from = c.start_in-index.result in
    record {
      from = from;
      before = c.start_in-index.ensures.below;
      behind = c.start_in-index.ensures.from;
      index_is = sym (ap (λ (b : Bool). cond b (from + 1) from)
          (at_index c.args.past.now c.args.rows.now from c.key.result c.key.ensures ∙ ap (λ (p : Option Bytes). is_at p c.key.result) c.in-Some.is ∙ sym (texts_ties c.key.result c.in-Some.past) ∙ sym c.eq.ensures ∙ c.if-eq.true));
    }

pub returns-in_default-clause-index : goal.returns-in_default-clause-index
returns-in_default-clause-index c =
    let from = c.start_in-index.result in
    record {
      from = from;
      before = c.start_in-index.ensures.below;
      behind = c.start_in-index.ensures.from;
      index_is = sym (ap (λ (b : Bool). cond b (from + 1) from)
          (at_index c.args.past.now c.args.rows.now from c.key.result c.key.ensures ∙ ap (λ (p : Option Bytes). is_at p c.key.result) c.in-Some.is ∙ sym (texts_ties c.key.result c.in-Some.past) ∙ sym c.eq.ensures ∙ c.if-eq.false));
    }
