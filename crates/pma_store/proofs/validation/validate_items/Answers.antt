use Rattle.std.proofs.Common.{rules, ◌≡◌, ℕ, suc, ◌+◌, ◌<◌, true, false, [], length, get_or, Ok, Err, refl, sym, ap, subst, ◌∙◌, arith, inl, inr}
use Rattle.std.specs.FinMap.{contains_key}
use Rattle.std.specs.Prelude.{is_ok}
use Rattle.std.proofs.lemmas.Bool.{cases_eq}
use Rattle.std.proofs.lemmas.Grind.{get_or-set_at}
use Rattle.std.proofs.lemmas.List.{get_or-set_other}
use Rattle.density_rule.specs.Bounds.{upper_of}
use Rattle.map_model.specs.Store.{Update, unbind, key_of}
use Rattle.recovery.specs.Intents.{meets_by, records_by}
use Rattle.pma_store.specs.ItemEffects.{counts_of, counted_by, counted_first}
use Rattle.pma_store.specs.Updating.{update_of}
use Rattle.pma_store.proofs.Validations.{IsValidated, none_validated, all_validated, full_validated, next_validated, full_of, room_of}
use Rattle.std.proofs.lemmas.List.{get_or_default}
use Rattle.pma_store.proofs.Fullness.{meets_full}
use Rattle.pma_store.proofs.Sums.{next_first, none_first}
use Rattle.pma_store.proofs.validation.validate_items.Goals as goal

pub loop-i-init : goal.loop-i-init
loop-i-init c = record {
  counted = refl;
  size = refl;
  validated = λ hmax m most records found. none_validated hmax m c.args.intent.now c.args.records records;
  first = none_first c.args.intent.now _ c.args.records c.args.most;
  found = λ k lt. absurd (omega (arith, lt));
}

pub returns-then-not-count_item : goal.returns-then-not-count_item
returns-then-not-count_item c =
    let items = c.args.intent.now in
    let d : Update = unbind [] in
    let i = c.loop-i.i in
    let is = c.loop-i.invariant in
    let lt : i < length items = omega (arith, c.len-i-end.ensures.count, c.loop-i-test.true) in
    let item : update_of c.update_in-update.result ≡ get_or items i d = c.update_in-update.ensures ∙ c.item.ensures d in
    record {
      validated = λ hmax m most records found.
          let there : c.is_ok-present.result ≡ contains_key m (key_of (get_or items i d)) = c.is_ok-present.ensures.value ∙ ap is_ok (get_or_default c.args.found.now i (Ok 0) (Err 0) (omega (arith, lt, c.len-i-end.ensures.intent.most, c.requires))) ∙ found i d lt in
          let full : meets_by (get_or items i d) c.is_ok-present.result c.loop-i.records (upper_of hmax) ≡ true =
          (λ t. meets_by (sym item t) c.is_ok-present.result c.loop-i.records (sym most t)) ∙ full_of c.count_item.result (meets_by (update_of c.update_in-update.result) c.is_ok-present.result c.loop-i.records c.args.most) c.count_item.ensures.room c.if-not-count_item.true in
          full_validated hmax m items i c.loop-i.records (counts_of c.loop-i.validated) d lt c.len-i-end.ensures.intent.distinct (is.validated hmax m most records found) c.is_ok-present.result there full;
      found = tt;
      full = λ _.
          let full : meets_by (get_or items i d) c.is_ok-present.result c.loop-i.records c.args.most ≡ true =
          (λ t. meets_by (sym item t) c.is_ok-present.result c.loop-i.records c.args.most) ∙ full_of c.count_item.result (meets_by (update_of c.update_in-update.result) c.is_ok-present.result c.loop-i.records c.args.most) c.count_item.ensures.room c.if-not-count_item.true in
          meets_full items (λ k. is_ok (get_or c.args.found.now k (Err 0))) c.args.records c.args.most i c.loop-i.records c.is_ok-present.result lt is.first.records_are full;
      total = tt;
      as_found = tt;
    }

pub loop-i-preserved : goal.loop-i-preserved
loop-i-preserved c =
    let items = c.args.intent.now in
    let d : Update = unbind [] in
    let i = c.loop-i.i in
    let is = c.loop-i.invariant in
    let lt : i < length items = omega (arith, c.len-i-end.ensures.count, c.loop-i-test.true) in
    let few : i < 16 = omega (arith, lt, c.len-i-end.ensures.intent.most) in
    let present = c.is_ok-present.result in
    let item : update_of c.update_in-update.result ≡ get_or items i d = c.update_in-update.ensures ∙ c.item.ensures d in
    let old = c.loop-i.validated.found in
    record {
      counted = c.count_item.ensures.total c.if-not-count_item.false ∙ ap (λ (n : ℕ). n + 1) is.counted;
      size = search rules;
      validated = λ hmax m most records found.
          let there : present ≡ contains_key m (key_of (get_or items i d)) = c.is_ok-present.ensures.value ∙ ap is_ok (get_or_default c.args.found.now i (Ok 0) (Err 0) (omega (arith, lt, c.len-i-end.ensures.intent.most, c.requires))) ∙ found i d lt in
          let room : meets_by (get_or items i d) present c.loop-i.records (upper_of hmax) ≡ false =
          (λ t. meets_by (sym item t) present c.loop-i.records (sym most t)) ∙ room_of c.count_item.result (meets_by (update_of c.update_in-update.result) present c.loop-i.records c.args.most) c.count_item.ensures.room c.if-not-count_item.false in
          let more = c.count_item.ensures.records c.if-not-count_item.false ∙ ap (λ (u : Update). records_by u present c.loop-i.records) item in
          let counted = c.count_item.ensures.counts c.if-not-count_item.false ∙ ap (λ (u : Update). counted_by u present (counts_of c.loop-i.validated)) item in
          let e : suc i ≡ i + 1 = omega arith in
          subst (λ (n : ℕ). IsValidated hmax m items n c.count_item.new.records (counts_of c.count_item.new.validated)) e
          (next_validated hmax m items i c.loop-i.records (counts_of c.loop-i.validated) d lt c.len-i-end.ensures.intent.distinct (is.validated hmax m most records found) present there room c.count_item.new.records (counts_of c.count_item.new.validated) more counted);
      first =
          next_first items (λ k. is_ok (get_or c.args.found.now k (Err 0))) c.args.records c.args.most i c.loop-i.records (counts_of c.loop-i.validated) is.first (update_of c.update_in-update.result) item present
          (c.is_ok-present.ensures.value ∙ ap is_ok (get_or_default c.args.found.now i (Ok 0) (Err 0) (omega (arith, few, c.requires))))
          (room_of c.count_item.result (meets_by (update_of c.update_in-update.result) present c.loop-i.records c.args.most) c.count_item.ensures.room c.if-not-count_item.false)
          c.count_item.new.records (counts_of c.count_item.new.validated) (c.count_item.ensures.records c.if-not-count_item.false) (c.count_item.ensures.counts c.if-not-count_item.false);
      found = λ k low. elim (cases_eq k i) [
        | inl same ↦ get_or-set_at c.count_item.new.validated.found i k present false same (omega (arith, few, is.size, ap length c.count_item.ensures.found)) ∙ c.is_ok-present.ensures.value ∙ ap is_ok (get_or_default c.args.found.now i (Ok 0) (Err 0) (omega (arith, few, c.requires))) ∙ ap (λ (n : ℕ). is_ok (get_or c.args.found.now n (Err 0))) (sym same)
        | inr other ↦ get_or-set_other c.count_item.new.validated.found i k present false other ∙ ap (λ l. get_or l k false) c.count_item.ensures.found ∙ is.found k (omega (arith, low, other))
      ];
    }

pub returns : goal.returns
returns c =
    let is = c.loop-i.invariant in
    let end : c.loop-i.i ≡ length c.args.intent.now = omega (arith, c.len-i-end.ensures.count, c.loop-i-test.false) in
    record {
      validated = λ hmax m most records found. all_validated hmax m c.args.intent.now c.loop-i.i c.loop-i.records (counts_of c.loop-i.validated) end (is.validated hmax m most records found);
      found = λ k lt. is.found k (omega (arith, lt, end));
      full = λ none. absurd cc;
      total = is.counted ∙ end;
      as_found = record {
        counts_are = is.first.counts_are ∙ ap (counted_first c.args.intent.now (λ k. is_ok (get_or c.args.found.now k (Err 0)))) end;
        room = λ k lt. is.first.room k (omega (arith, lt, end));
      };
    }
