use Rattle.std.proofs.Common.{ℕ, ◌+◌, ◌<◌, List, Result, length, sym, subst, ◌∙◌, arith}
use mathlib.Core.Bool.{true≢false}
use Rattle.pma_store.specs.Looked.{HasFound}
use Rattle.pma_store.specs.Once.{AreUsed}
use Rattle.pma_store.proofs.OnceLaws.{has_edited, used_more}
use Rattle.pma_store.proofs.BatchScanLaws.{finds_more, none_here, edits_kept, edits_more}
use Rattle.pma_store.proofs.batch_scan.BatchScan.take_in.Goals as goal
use Rattle.pma_store.proofs.batch_scan.BatchScan.take_in.Goals.{else-self-via-then-self+else-has_edit, else-self-via-else-self}

pub returns-then-has_edit-clause-looked : goal.returns-then-has_edit-clause-looked
returns-then-has_edit-clause-looked c = λ array some ascends belong here was.
    let format = c.args.search.now.place.now.layout.format in
    let numbers = c.args.search.now.segments.now in
    let items = c.args.search.now.intent.now in
    let n = c.args.segment in
    let new = c.find_items.new.found in
    let own = finds_more format array numbers items some ascends c.requires.intent.distinct c.requires.may.sizes belong n c.args.rows.now here c.args.self.now.found new c.find_items.ensures.own c.find_items.ensures.others in
    record {
      found = subst (λ (l : List (Result ℕ ℕ)). HasFound array numbers items l (n + 1)) (sym c.load_edits-self.ensures.found.0) (own was.found);
      edits = λ whole.
          edits_more format array numbers items some ascends c.requires.intent.distinct c.requires.may.sizes belong n c.args.rows.now here c.args.self.now.found new c.find_items.ensures.own c.find_items.ensures.others
          c.args.frames.now c.load_edits-self.new.frames (c.load_edits-self.ensures.more whole) (was.edits c.if-self.true);
    }

pub returns-else-self-clause-looked : goal.returns-else-self-clause-looked
returns-else-self-clause-looked c = λ array some ascends belong here was.
    let format = c.args.search.now.place.now.layout.format in
    let numbers = c.args.search.now.segments.now in
    let items = c.args.search.now.intent.now in
    let n = c.args.segment in
    let new = c.find_items.new.found in
    record {
      found = finds_more format array numbers items some ascends c.requires.intent.distinct c.requires.may.sizes belong n c.args.rows.now here c.args.self.now.found new c.find_items.ensures.own c.find_items.ensures.others was.found;
      edits = λ whole. elim c.else-self.branch [
        | else-self-via-then-self+else-has_edit w ↦
            edits_kept format array numbers items some ascends c.requires.intent.distinct c.requires.may.sizes belong n c.args.rows.now here c.args.self.now.found new c.find_items.ensures.own c.find_items.ensures.others
            c.args.frames.now
            (none_here format array numbers items some ascends c.requires.intent.distinct c.requires.may.sizes belong n c.args.rows.now here c.args.self.now.found new c.find_items.ensures.own c.find_items.ensures.others (w.has_edit.ensures.none w.if-has_edit.false))
            (was.edits whole)
        | else-self-via-else-self w ↦ absurd (true≢false (sym whole ∙ w.if-self.false))
      ];
    }

pub returns-then-has_edit-clause-used : goal.returns-then-has_edit-clause-used
returns-then-has_edit-clause-used c = λ array inside ascends belong here was.
    let numbers = c.args.search.now.segments.now in
    let items = c.args.search.now.intent.now in
    let n = c.args.segment in
    let new = c.find_items.new.found in
    let some : 0 < length array = omega (arith, inside) in
    let edited = has_edited array numbers items n c.args.rows.now new some ascends c.requires.intent.distinct c.requires.may.sizes belong here c.find_items.ensures.own (c.has_edit.ensures.some c.if-has_edit.true) in
    used_more c.args.search.now.place.now.layout array numbers items ascends c.requires.intent.distinct c.requires.intent.most c.requires.may.sizes belong n inside c.args.rows.now here c.args.frames.now c.args.self.now c.requires.may.loaded edited
    c.load_edits-self.new.frames c.load_edits-self.result (λ whole. (c.load_edits-self.ensures.more whole).numbers_are) (λ part. (c.load_edits-self.ensures.kept part).0) c.load_edits-self.ensures.short
    (subst (AreUsed c.args.search.now.place.now.layout array items c.args.frames.now) c.if-self.true was)

pub returns-else-self-clause-used : goal.returns-else-self-clause-used
returns-else-self-clause-used c = λ array inside ascends belong here was. was
