use Rattle.std.proofs.Common.{◌≡◌, ℕ, ◌<◌, List, length, set, get_or, Result, Err, sym, subst, ap, ◌∙◌, arith, inl, inr}
use Rattle.std.proofs.lemmas.Bool.{cases_eq}
use Rattle.std.proofs.lemmas.List.{length-set, get_or-set_same, get_or-set_other}
use Rattle.map_model.specs.Store.{Update, key_of}
use Rattle.pma_store.specs.Own.{FindsIn}
use Rattle.pma_store.proofs.batch_scan.Search.find_items.Goals as goal
use Rattle.pma_store.proofs.batch_scan.Search.find_items.Goals.{then-self-i, else-self-i}

pub loop-i-preserved : goal.loop-i-preserved
loop-i-preserved c =
    let n = c.args.n in
    let is = c.args.self.now.segments.now in
    let us = c.args.self.now.intent.now in
    let rows = c.args.rows.now in
    let i = c.loop-i.i in
    let was = c.loop-i.found in
    let room : i < length was = omega (arith, c.len-i-end.ensures.count, c.loop-i-test.true, c.requires.room, c.loop-i.invariant.size) in
    elim c.if-self-i.branch [
      | then-self-i w ↦ record {
        own = λ k d low here. elim (cases_eq k i) [
          | inl same ↦
              subst (λ (x : Result ℕ ℕ). FindsIn (key_of (get_or us k d)) rows x)
              (sym (ap (λ (l : List (Result ℕ ℕ)). get_or l k (Err 0)) w.found-is ∙ ap (λ (m : ℕ). get_or (set was i w.find_item.result) m (Err 0)) same ∙ get_or-set_same was i w.find_item.result (Err 0) room))
              (subst (λ (u : Update). FindsIn (key_of u) rows w.find_item.result) (w.item.ensures d ∙ ap (λ (m : ℕ). get_or us m d) (sym same)) w.find_item.ensures)
          | inr other ↦
              subst (λ (x : Result ℕ ℕ). FindsIn (key_of (get_or us k d)) rows x) (sym (ap (λ (l : List (Result ℕ ℕ)). get_or l k (Err 0)) w.found-is ∙ get_or-set_other was i k w.find_item.result (Err 0) other))
              (c.loop-i.invariant.own k d (omega (arith, low, other)) here)
        ];
        others = λ k apart.
            ap (λ (l : List (Result ℕ ℕ)). get_or l k (Err 0)) w.found-is ∙ get_or-set_other was i k w.find_item.result (Err 0) (λ same. apart (ap (λ (m : ℕ). get_or is m 0) same ∙ w.if-self-i.true)) ∙ c.loop-i.invariant.others k apart;
        size = ap length w.found-is ∙ length-set was i w.find_item.result ∙ c.loop-i.invariant.size;
      }
      | else-self-i w ↦ record {
        own = λ k d low here.
            subst (λ (l : List (Result ℕ ℕ)). FindsIn (key_of (get_or us k d)) rows (get_or l k (Err 0))) (sym w.found-is)
            (c.loop-i.invariant.own k d (omega (arith, low, λ (same : k ≡ i). w.if-self-i.false (ap (λ (m : ℕ). get_or is m 0) (sym same) ∙ here))) here);
        others = λ k apart. ap (λ (l : List (Result ℕ ℕ)). get_or l k (Err 0)) w.found-is ∙ c.loop-i.invariant.others k apart;
        size = ap length w.found-is ∙ c.loop-i.invariant.size;
      }
    ]
