-- The bytes are a segment, with another number of rows.
use Rattle.std.proofs.Common.{◌≡◌, ◌≢◌, ℕ, length, None, Some, ap, ◌∙◌, ne_eqb}
use Rattle.std.specs.Prelude.{if◌then◌else◌}
use Rattle.key_slot.specs.Format.{format_of}
use Rattle.key_slot.specs.Segment.{first_bad_slot, segment_of}
use Rattle.key_slot.proofs.SegmentLaws.{segment_sound}
use Rattle.segment.specs.declared.fault.Damage.TheVariants.{OtherCount}
use Rattle.segment.specs.Validated.{damage_by}
use Rattle.segment.proofs.validating.validate_kept.Goals as goal

other_count : (found kept : ℕ) → found ≢ kept → damage_by None found kept ≡ Some (OtherCount found kept)
other_count found kept other = ap (λ b. if b then None else Some (OtherCount found kept)) (ne_eqb found kept other)

pub returns-in-Err-validate_count-clause-damage : goal.returns-in-Err-validate_count-clause-damage
returns-in-Err-validate_count-clause-damage c =
    let f = format_of c.args.page.now in
    let none : first_bad_slot (format_of c.args.page.now) c.args.page.now ≡ None = segment_sound f (segment_of f c.args.page.now) c.args.page.now c.in-Ok.ensures.sound in
    let count : length (segment_of (format_of c.args.page.now) c.args.page.now) ≡ c.in-Ok.found = c.in-Ok.ensures.count in
    (OtherCount c.in-Ok.found c.args.kept, (λ t. damage_by (none t) (count t) c.args.kept) ∙ other_count c.in-Ok.found c.args.kept c.in-Err-validate_count.ensures.other, c.in-Err-validate_count.ensures.damaged)
