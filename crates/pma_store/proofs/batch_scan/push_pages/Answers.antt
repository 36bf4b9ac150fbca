use Rattle.std.proofs.Common.{arith, ◌≡◌, ◌+◌, ◌*◌, inl, inr, ℕ, suc, ◌-◌, List, [], ◌∷◌, ◌++◌, length, get_or, sym, ap, ◌∙◌, append_assoc}
use Rattle.std.specs.List.{range_with_len}
use Rattle.std.proofs.lemmas.Bool.{cases_lt}
use Rattle.std.proofs.lemmas.List.{length-append, get_or_append_left, get_or-append_right, append-nil}
use Rattle.redo_journal.specs.Frames.{Batch}
use Rattle.segment_frames.proofs.RunNumbers.{range_more}
use Rattle.pma_store.proofs.Loaded.{pages_below, pages_more}
use Rattle.pma_store.proofs.batch_scan.push_pages.Goals as goal

pub push-requires-clause-room : goal.push-requires-clause-room
push-requires-clause-room c = omega (arith, c.requires.room, c.loop-i.invariant.size, c.loop-i.invariant.journal, c.loop-i-test.true)

pub push-requires-clause-above : goal.push-requires-clause-above
push-requires-clause-above c i last = c.loop-i.invariant.below i (omega (arith, last))

pub loop-i-init : goal.loop-i-init
loop-i-init c = record {
  frames = ap (λ (ns : List ℕ). record c.args.frames.now { numbers = ns }) (sym (append-nil c.args.frames.now.numbers));
  kept = c.requires.held.frames;
  journal = λ t. c.args.frames.now.journal;
  size = omega arith;
  below = λ j lt. omega (arith, pages_below c.args.format c.args.frames.now c.args.segment c.requires.held c.requires.above j lt);
}

pub loop-i-preserved : goal.loop-i-preserved
loop-i-preserved c =
    let was = c.loop-i.frames in
    let now = c.push.new.self in
    let first = c.args.format * c.args.segment in
    let numbers : now.numbers ≡ was.numbers ++ (first + c.loop-i.i) ∷ [] = ap (λ (b : Batch). b.numbers) c.push.ensures.after in
    let next : suc c.loop-i.i ≡ c.loop-i.i + 1 = omega arith in
    let long : length now.numbers ≡ length was.numbers + 1 = ap length numbers ∙ length-append was.numbers ((first + c.loop-i.i) ∷ []) in
    record {
      frames =
          c.push.ensures.after ∙ ap (λ (b : Batch). record b { numbers = b.numbers ++ (first + c.loop-i.i) ∷ [] }) c.loop-i.invariant.frames
          ∙ ap (λ (ns : List ℕ). record c.args.frames.now { numbers = ns })
          (append_assoc c.args.frames.now.numbers (range_with_len first c.loop-i.i) ((first + c.loop-i.i) ∷ [])
          ∙ ap (λ (ns : List ℕ). c.args.frames.now.numbers ++ ns) (sym (range_more first c.loop-i.i) ∙ ap (range_with_len first) next));
      kept = c.push.ensures.batch;
      journal = ap (λ (b : Batch). b.journal) c.push.ensures.after ∙ c.loop-i.invariant.journal;
      size = omega (arith, long, c.loop-i.invariant.size);
      below = λ j lt. elim (cases_lt j (length was.numbers)) [
        | inl small ↦ omega (arith, ap (λ (ns : List ℕ). get_or ns j 0) numbers, get_or_append_left was.numbers ((first + c.loop-i.i) ∷ []) 0 j small, c.loop-i.invariant.below j small)
        | inr large ↦
            let here : j - length was.numbers ≡ 0 = omega (arith, large, lt, long) in
            omega (
              arith,
              ap (λ (ns : List ℕ). get_or ns j 0) numbers,
              get_or-append_right was.numbers ((first + c.loop-i.i) ∷ []) (length was.numbers) j 0 (λ t. length was.numbers) large,
              ap (λ (k : ℕ). get_or ((first + c.loop-i.i) ∷ []) k 0) here,
            )
      ];
    }

pub returns-clause-after : goal.returns-clause-after
returns-clause-after c =
    let end : c.loop-i.i ≡ c.args.format = omega (arith, c.loop-i.auto.i-end, c.loop-i-test.false) in
    c.loop-i.invariant.frames
    ∙ ap (λ (ns : List ℕ). record c.args.frames.now { numbers = ns }) (ap (λ (n : ℕ). c.args.frames.now.numbers ++ range_with_len (c.args.format * c.args.segment) n) end ∙ pages_more c.args.format c.args.frames.now c.args.segment c.requires.held)
