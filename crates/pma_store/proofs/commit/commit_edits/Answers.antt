use Rattle.std.proofs.Common.{ℕ, ◌*◌, ◌^◌, length, ap, ◌∙◌, sym, subst, arith, rules}
use Rattle.std.proofs.Math.Pow.{pow_mono}
use Rattle.std.proofs.lemmas.List.{get_or_default}
use Rattle.header_gate.specs.Places.{height_limit}
use Rattle.header_gate.proofs.PagedSegments.{length-pages_of_all, pages_fit}
use Rattle.key_slot.proofs.SegmentLaws.{times_up}
use Rattle.segment_frames.specs.Lists.{segments_in}
use Rattle.redo_journal.specs.Frames.{Batch}
use Rattle.pma_store.specs.AtOnce.{RenewsFences}
use Rattle.pma_store.specs.Looked.{AreLoaded}
use Rattle.pma_store.proofs.FittingLaws.{renews_turned}
use Rattle.pma_store.proofs.Loaded.{loaded_turned, pages_below}
use Rattle.pma_store.proofs.commit.commit_edits.Goals as goal

pub commit_frames-requires-clause-pages : goal.commit_frames-requires-clause-pages
commit_frames-requires-clause-pages g c =
    let format = c.args.place.now.layout.format in
    ap length c.requires.loaded.held.pages ∙ length-pages_of_all format (segments_in format c.args.frames.now.numbers) ∙ ap (λ (n : ℕ). format * n) (sym c.requires.loaded.count_is)

pub commit_frames-requires-clause-below : goal.commit_frames-requires-clause-below
commit_frames-requires-clause-below g c k d lt =
    let l = c.args.place.now.layout in
    let b = c.args.frames.now in
    let most = 2 ^ c.args.index.now.height in
    let page = pages_below l.format b most c.requires.loaded.held (λ j low. c.requires.loaded.below j (omega (arith, low, c.requires.loaded.count_is))) k lt in
    omega (
      arith,
      get_or_default b.numbers k d 0 lt,
      page,
      times_up l.format most (2 ^ height_limit l) (pow_mono {i = c.args.index.now.height} {j = height_limit l} c.requires.tall),
      pages_fit l.hmax l.format (height_limit l) c.requires.layout.format (omega arith),
    )

-- the frames hold the same, whatever they note of the gate
pub renew_fences-requires : goal.renew_fences-requires
renew_fences-requires g c =
    subst (λ (b : Batch). AreLoaded c.args.place.now.layout.format b c.args.edits.now.look.now (2 ^ c.args.index.now.height)) (sym c.commit_frames.ensures.frames)
    (loaded_turned c.args.place.now.layout.format c.args.frames.now c.args.edits.now.look.now (2 ^ c.args.index.now.height) c.commit_frames.new.frames.turn (c.in_ok-commit_frames.ensures.turn c.requires.loaded.held.frames.turn) c.requires.loaded)

pub returns-clause-committed : goal.returns-clause-committed
returns-clause-committed g c =
    let format = c.args.place.now.layout.format in
    let b = c.args.frames.now in
    record {
      frames = c.in_ok-commit_frames.ensures.committed;
      fences = renews_turned format b c.commit_frames.new.frames.turn c.args.edits.now.look.now.count c.args.index.now c.renew_fences.new.index
          (subst (λ (b : Batch). RenewsFences format b c.args.edits.now.look.now.count c.args.index.now c.renew_fences.new.index) c.commit_frames.ensures.frames c.renew_fences.ensures);
      counted = search rules;
      is_tally = search rules;
      balanced = search rules;
      sizes = search rules;
      index_sizes = search rules;
      paid = search rules;
      unchanged = tt;
    }
