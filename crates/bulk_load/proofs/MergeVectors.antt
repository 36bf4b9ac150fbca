-- Merge texts beside records, and what comes of them, as they are known from outside.
use Rattle.std.proofs.Common.{◌≡◌, inr, [], ◌∷◌, true, refl}
use Rattle.std.specs.Prelude.{codes}
use Rattle.std.specs.Fmt.{digits}
use Rattle.percent_encoding.specs.Percent.{percent_decode}
use Rattle.line_source.specs.Lines.{raw_lines}
use Rattle.map_model.specs.Store.{bind, unbind}
use Rattle.command_text.specs.Number.{number_of}
use Rattle.bulk_load.specs.MergeText.{front_rows, rest_rows, merged_rows}
use Rattle.bulk_load.specs.MergeLines.{merging, reads, wrong, full, IsUnmergedLine}

-- a record is added, one replaced, one removed, and one isn't there
four_edits : merged_rows (bind (codes "a") [] ∷ bind (codes "b") (codes "9") ∷ unbind (codes "c") ∷ unbind (codes "d") ∷ []) ((codes "b", codes "1") ∷ (codes "c", codes "2") ∷ (codes "e", codes "3") ∷ [])
    ≡ (codes "a", []) ∷ (codes "b", codes "9") ∷ (codes "e", codes "3") ∷ []
four_edits = refl

-- what results up to the last key, and what is above it
up_to_the_last : (front_rows (unbind (codes "c") ∷ []) ((codes "b", codes "1") ∷ (codes "c", codes "2") ∷ (codes "e", codes "3") ∷ []) ≡ (codes "b", codes "1") ∷ [])
    × (rest_rows (unbind (codes "c") ∷ []) ((codes "b", codes "1") ∷ (codes "c", codes "2") ∷ (codes "e", codes "3") ∷ []) ≡ (codes "e", codes "3") ∷ [])
up_to_the_last = (refl, refl)

no_edits : merged_rows [] ((codes "b", codes "1") ∷ []) ≡ (codes "b", codes "1") ∷ []
no_edits = refl

all_removed : merged_rows (unbind (codes "a") ∷ unbind (codes "b") ∷ []) ((codes "a", []) ∷ (codes "b", codes "1") ∷ []) ≡ []
all_removed = refl

-- both kinds of lines, and none
two_lines : merging 1 64 ((codes "b", codes "1") ∷ []) (raw_lines (codes "record a 1\nremove b\nend 2\n")) ≡ reads (bind (codes "a") (codes "1") ∷ unbind (codes "b") ∷ []) true
unfolding percent_decode number_of digits
two_lines = refl

no_lines : merging 1 64 ((codes "b", codes "1") ∷ []) (raw_lines (codes "# none today\n\nend 0\n# done")) ≡ reads [] true
unfolding percent_decode number_of digits
no_lines = refl

-- keys ascend over both kinds, and the number counts both
one_key_twice : merging 1 64 [] (raw_lines (codes "record a\nremove a\nend 2\n")) ≡ wrong 2
unfolding percent_decode number_of digits
one_key_twice = refl

wrong_count : merging 1 64 [] (raw_lines (codes "record a\nremove b\nend 1\n")) ≡ wrong 3
unfolding percent_decode number_of digits
wrong_count = refl

behind_the_end : merging 1 64 [] (raw_lines (codes "end 0\nremove a\n")) ≡ wrong 2
unfolding percent_decode number_of digits
behind_the_end = refl

no_end : IsUnmergedLine 1 64 [] (raw_lines (codes "remove a\n")) 2
unfolding percent_decode number_of digits
no_end = inr (unbind (codes "a") ∷ [], refl, refl)

-- a record too many, below a key that is removed; one that a later removal takes isn't; and a wrong line before it decides first
one_too_many : merging 1 1 ((codes "b", []) ∷ []) (raw_lines (codes "record a\nremove c\nend 2\n")) ≡ full
unfolding percent_decode number_of digits
one_too_many = refl

makes_room : merging 1 1 ((codes "b", []) ∷ []) (raw_lines (codes "record a\nremove b\nend 2\n")) ≡ reads (bind (codes "a") [] ∷ unbind (codes "b") ∷ []) true
unfolding percent_decode number_of digits
makes_room = refl

wrong_before_full : merging 1 1 ((codes "b", []) ∷ []) (raw_lines (codes "record a\nremove a\nremove c\nend 3\n")) ≡ wrong 2
unfolding percent_decode number_of digits
wrong_before_full = refl
