use Rattle.std.proofs.Common.{inl, inr, ap, ◌∙◌}
use Rattle.pma_store.specs.StoreView.{StoreView}
use Rattle.pma_store.specs.declared.store.Store.TheInside.{Inside}
use Rattle.pma_store.proofs.Meeting.{mid_as}
use Rattle.pma_store.proofs.store.Store.batch.Goals as goal

pub returns-in-Err-clause-batch : goal.returns-in-Err-clause-batch
returns-in-Err-clause-batch g c =
    let is = ap (λ (s : Inside). s.array) c.self-inside.view_is ∙ c.self.view_is in
    let made = c.in-Err.ensures.batch in
    record {
      answer = tt;
      state = tt;
      refused = tt;
      unread = tt;
      meant = made.meant;
      touched = made.touched;
      layout = ap (λ (s : StoreView). s.place.layout) is ∙ made.layout;
      images = tt;
      cost = tt;
      most = made.most;
      spent = made.spent;
      looks = tt;
      calls = made.calls;
      at_once = made.at_once;
      paid = tt;
      counted = tt;
      found = tt;
      met = elim made.met [
        | inl disk ↦ inl disk
        | inr more ↦ elim more [
          | inl looked ↦ inr (inl looked)
          | inr mid ↦ inr (inr (mid_as c.args.intent.now c.args.self.now _ _ c.in-Err.fault (ap (λ (s : StoreView). s.tally) is) (ap (λ (s : StoreView). s.place) is) mid))
        ]
      ];
      complete = made.complete;
    }
