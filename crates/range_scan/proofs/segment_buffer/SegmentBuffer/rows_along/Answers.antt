use Rattle.std.proofs.Common.{◌≡◌, ◌<◌, ◌≤◌, ◌+◌, ◌-◌, ◌*◌, ◌/◌, ℕ, [], length, take, drop, sym, ap, subst, ◌∙◌, arith}
use Rattle.std.proofs.lemmas.List.{length-drop, length-take-le}
use Rattle.key_slot.specs.Format.{format_of, narrow, segment_length}
use Rattle.key_slot.specs.Record.{Bytes}
use Rattle.key_slot.specs.Segment.{segment_of}
use Rattle.segment.specs.Viewed.{IsValidated}
use Rattle.range_scan.specs.PageView.{PageView, page_of, pages_of}
use Rattle.range_scan.specs.Running.{first_of}
use Rattle.range_scan.proofs.Runs.{along_first, length-pages_of, size_less}
use Rattle.range_scan.proofs.segment_buffer.SegmentBuffer.rows_along.Goals as goal

-- The segment behind, in the bytes of a page.
module _ (bytes : Bytes) (start size more len : ℕ) (page : PageView) (view : page_of (take size (drop start bytes)) (pages_of size more (drop (start + size) bytes)) ≡ page) (within : start + size + size * more ≤ length bytes) (lt : 0 < length page.along) (validated : IsValidated len (first_of page.along [])) where
  some : 0 < more
  some = omega (arith, lt, ap (λ (v : PageView). length v.along) view, length-pages_of size more (drop (start + size) bytes))

  abbrev next : Bytes
  next = take (start + size + size - (start + size)) (drop (start + size) bytes)

  first : first_of page.along [] ≡ next
  first = sym (along_first size more start bytes some ∙ ap (λ (v : PageView). first_of v.along []) view)

  here : IsValidated len next
  here = subst (IsValidated len) first validated

  format : format_of next ≡ page.format
  format =
      let room : start + size + size ≤ length bytes = omega (arith, within, size_less size more some) in
      let width : start + size + size - (start + size) ≡ size = omega arith in
      let one = length-take-le (start + size + size - (start + size)) (drop (start + size) bytes) (omega (arith, room, width, length-drop (start + size) bytes)) in
      let other = length-take-le size (drop start bytes) (omega (arith, room, length-drop start bytes)) in
      ap (λ (n : ℕ). n / segment_length narrow) (one ∙ width ∙ sym other) ∙ ap (λ (v : PageView). v.format) view

pub again-requires-clause-sound : goal.again-requires-clause-sound
again-requires-clause-sound c = (here c.self.inside.bytes c.self.inside.start c.self.inside.size c.self.inside.more c.args.len c.args.self.now c.self.view_is c.self.invariant.0 c.requires.some c.requires.validated).sound

pub again-requires-clause-count : goal.again-requires-clause-count
again-requires-clause-count c = (here c.self.inside.bytes c.self.inside.start c.self.inside.size c.self.inside.more c.args.len c.args.self.now c.self.view_is c.self.invariant.0 c.requires.some c.requires.validated).count

pub returns : goal.returns
returns c =
    c.again.ensures
    ∙ (λ i. segment_of (format c.self.inside.bytes c.self.inside.start c.self.inside.size c.self.inside.more c.args.len c.args.self.now c.self.view_is c.self.invariant.0 c.requires.some c.requires.validated i)
    (sym (first c.self.inside.bytes c.self.inside.start c.self.inside.size c.self.inside.more c.args.len c.args.self.now c.self.view_is c.self.invariant.0 c.requires.some c.requires.validated) i))
