-- Load texts with their records, as they are known from outside.
use Rattle.std.proofs.Common.{◌≡◌, ◌<◌, inr, ℕ, [], ◌∷◌, true, refl, sym, subst, arith, replicate, ◌++◌}
use Rattle.std.specs.Prelude.{codes}
use Rattle.std.specs.Fmt.{digits}
use Rattle.percent_encoding.specs.Percent.{percent_decode}
use Rattle.density_rule.specs.Spread.{shares}
use Rattle.line_source.specs.Lines.{raw_lines}
use Rattle.command_text.specs.Number.{number_of}
use Rattle.density_rule.specs.Bounds.{upper_of}
use Rattle.bulk_load.specs.Loads.{IsLeastHeight}
use Rattle.bulk_load.specs.LoadLines.{loading, reads, wrong, full, IsWrongLine}

-- two records, and none
two_records : loading 1 64 (raw_lines (codes "record a 1\nrecord b\nend 2\n")) ≡ reads ((codes "a", codes "1") ∷ (codes "b", []) ∷ []) true
unfolding percent_decode number_of digits
two_records = refl

no_records : loading 1 64 (raw_lines (codes "end 0\n")) ≡ reads [] true
unfolding percent_decode number_of digits
no_records = refl

-- keys that don't ascend, a wrong number, and no end
descending : loading 1 64 (raw_lines (codes "record b\nrecord a\nend 2\n")) ≡ wrong 2
unfolding percent_decode number_of digits
descending = refl

wrong_count : loading 1 64 (raw_lines (codes "record a\nend 2\n")) ≡ wrong 2
unfolding percent_decode number_of digits
wrong_count = refl

no_end : IsWrongLine 1 64 (raw_lines (codes "record a\n")) 2
unfolding percent_decode number_of digits
no_end = inr ((codes "a", []) ∷ [], refl, refl)

-- one record too many, where a wrong line before it decides first, and one behind it doesn't count
one_too_many : loading 1 1 (raw_lines (codes "record a\nrecord b\nfrob\n")) ≡ full
unfolding percent_decode number_of digits
one_too_many = refl

wrong_when_full : loading 1 1 (raw_lines (codes "record b\nrecord a\nend 1\n")) ≡ wrong 2
unfolding percent_decode number_of digits
wrong_when_full = refl

-- notes and blank lines are counted and skipped, behind the end too; nothing else may follow it, and a long note is no note
with_notes : loading 1 64 (raw_lines (codes "# stock\n\nrecord a\n  \nend 1\n# done")) ≡ reads ((codes "a", []) ∷ []) true
unfolding percent_decode number_of digits
with_notes = refl

behind_the_end : loading 1 64 (raw_lines (codes "# stock\nend 0\nrecord a\n")) ≡ wrong 3
unfolding percent_decode number_of digits
behind_the_end = refl

long_note : loading 1 64 (raw_lines (35 ∷ replicate 512 120 ++ 10 ∷ codes "end 0\n")) ≡ wrong 1
unfolding percent_decode number_of digits
long_note = refl

-- 65 records go to two segments
pub height_of_65 : IsLeastHeight 65 1
height_of_65 = record {
  holds = omega arith;
  least = λ h lt. let none : h ≡ 0 = omega (arith, lt) in subst (λ (k : ℕ). upper_of k < 65) (sym none) (omega arith);
}

shares_of_65 : shares 65 2 ≡ 32 ∷ 33 ∷ []
shares_of_65 = refl
