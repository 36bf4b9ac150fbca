-- The lines of a load text are lines of a merge text.
use Rattle.std.proofs.Common.{◌≡◌, ◌≢◌, ℕ, ◌^◌, ◌<◌, Bool, true, false, cond, List, [], ◌∷◌, ◌++◌, refl, sym, ap, ◌∙◌}
use Rattle.std.specs.Prelude.{codes, decimal}
use Rattle.std.specs.Str.{bytes_eq}
use Rattle.std.specs.Str.Lines.{strip_carriage_return}
use Rattle.std.proofs.lemmas.Slice.Eq.{bytes_eq-Decides}
use Rattle.line_source.specs.Lines.{is_long}
use Rattle.command_text.specs.Words.{words}
use Rattle.command_text.specs.Load.{load_named, load_words, load_line_raw}
use Rattle.command_text.specs.Merge.{merge_line_of, removal_line, merge_named, merge_words, merge_line_raw}
use Rattle.command_text.specs.declared.load.LoadLine.TheVariants as load
use Rattle.command_text.specs.declared.merge.MergeLine.TheVariants.{End, Bad}
use Rattle.command_text.proofs.LoadLaws.{dump_reads_back}

-- a line that may stand in a load text isn't a removal
named : (f : ℕ) (name : List ℕ) (rest : List (List ℕ)) → (load_named f name rest ≢ load.Bad) → merge_named f name rest ≡ merge_line_of (load_named f name rest)
named f name rest good = by (bytes_eq name (codes "remove")) refl
  where
    by : (same : Bool) → bytes_eq name (codes "remove") ≡ same → cond same (removal_line f rest) (merge_line_of (load_named f name rest)) ≡ merge_line_of (load_named f name rest)
    by false is = refl
    by true is = absurd (good (ap (λ (x : List ℕ). load_named f x rest) (equal is)))
      where
        equal : bytes_eq name (codes "remove") ≡ true → name ≡ codes "remove"
        equal h = (bytes_eq-Decides name (codes "remove")).0 h

all_words : (f : ℕ) (ws : List (List ℕ)) → (load_words f ws ≢ load.Bad) → merge_words f ws ≡ merge_line_of (load_words f ws)
all_words f [] good = refl
all_words f (name ∷ rest) good = named f name rest good

pub merged_line : (f : ℕ) (raw : List ℕ) → (load_line_raw f raw ≢ load.Bad) → merge_line_raw f raw ≡ merge_line_of (load_line_raw f raw)
merged_line f raw good = by (is_long raw) refl
  where
    by : (long : Bool) → is_long raw ≡ long → merge_line_raw f raw ≡ merge_line_of (load_line_raw f raw)
    by true is = absurd (good (ap (λ b. cond b load.Bad (load_words f (words (strip_carriage_return raw)))) is))
    by false is =
        let ws = words (strip_carriage_return raw) in
        let short : load_line_raw f raw ≡ load_words f ws = ap (λ b. cond b load.Bad (load_words f ws)) is in
        ap (λ b. cond b Bad (merge_words f ws)) is ∙ all_words f ws (λ e. good (short ∙ e)) ∙ ap merge_line_of (sym short)

-- the line with a number of updates
pub end_read : (f n : ℕ) → n < 2 ^ 32 → merge_line_raw f (codes "end " ++ decimal n) ≡ End n
end_read f n small =
    let read = dump_reads_back.end f n small in
    merged_line f (codes "end " ++ decimal n) (λ e. no_bad (sym read ∙ e)) ∙ ap merge_line_of read
  where
    no_bad : load.End n ≡ load.Bad → ⊥
    no_bad e = cc
