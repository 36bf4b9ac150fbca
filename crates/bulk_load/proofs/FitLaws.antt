-- The record of a line of a load text fits a slot of the format.
use Rattle.std.proofs.Common.{◌≡◌, ℕ, ◌<◌, ◌==◌, ◌||◌, Bool, true, false, List, [], ◌∷◌, length, nat_lt, Option, Some, None, refl, subst, sym, arith}
use Rattle.std.specs.Prelude.{if◌then◌else◌, slice_index, codes}
use Rattle.std.specs.Str.{bytes_eq}
use Rattle.std.proofs.lemmas.Bool.{ltb-false}
use Rattle.percent_encoding.specs.Percent.{percent_decode}
use Rattle.percent_encoding.proofs.PercentLemmas.{length-percent_decode}
use Rattle.key_slot.specs.Format.{key_room, value_room}
use Rattle.key_slot.proofs.SlotLaws.{is_record_by_sizes}
use Rattle.command_text.specs.Words.{words}
use Rattle.command_text.specs.Number.{number_of}
use Rattle.command_text.specs.Load.{row_of, record_line, end_line, if_number, load_words, load_line}
use Rattle.command_text.specs.declared.load.LoadLine.{LoadLine}
use Rattle.command_text.specs.declared.load.LoadLine.TheVariants.{Nothing, Row, Bad}
use Rattle.command_text.proofs.WordLaws.{AreWords, words_are}
use Rattle.bulk_load.specs.TextReading.{FitsLine}

module _ (f : ℕ) where
  either : (b : Bool) (x y : LoadLine) → FitsLine f x → FitsLine f y → FitsLine f (if b then x else y)
  either true x y first second = first
  either false x y first second = second

  row_fits : (key value : List ℕ) → 0 < length key → FitsLine f (row_of f key value)
  row_fits key value some = by (nat_lt (key_room f) (length key)) refl (nat_lt (value_room f) (length value)) refl
    where
      by : (a : Bool) → nat_lt (key_room f) (length key) ≡ a → (b : Bool) → nat_lt (value_room f) (length value) ≡ b → FitsLine f (row_of f key value)
      by true long b e = subst (λ (x : Bool). FitsLine f (if x || nat_lt (value_room f) (length value) then Bad else Row (record { key = key; value = value }))) (sym long) (record {})
      by false short true long =
          subst (λ (x : Bool). FitsLine f (if x || nat_lt (value_room f) (length value) then Bad else Row (record { key = key; value = value }))) (sym short)
          (subst (λ (x : Bool). FitsLine f (if x then Bad else Row (record { key = key; value = value }))) (sym long) (record {}))
      by false short false low =
          subst (λ (x : Bool). FitsLine f (if x || nat_lt (value_room f) (length value) then Bad else Row (record { key = key; value = value }))) (sym short)
          (subst (λ (x : Bool). FitsLine f (if x then Bad else Row (record { key = key; value = value }))) (sym low)
          (is_record_by_sizes f (key, value) (record { some = some; key = ltb-false (key_room f) (length key) short; value = ltb-false (value_room f) (length value) low })))

  decoded : (word : List ℕ) → 0 < length word → 0 < length (percent_decode word)
  decoded word some = omega (arith, (length-percent_decode word).1, some)

  record_fits : (rest : List (List ℕ)) → AreWords rest → FitsLine f (record_line f rest)
  record_fits [] are = record {}
  record_fits (k ∷ []) are = row_fits (percent_decode k) [] (decoded k are.0)
  record_fits (k ∷ v ∷ []) are = row_fits (percent_decode k) (percent_decode v) (decoded k are.0)
  record_fits (k ∷ v ∷ w ∷ rest) are = record {}

  number_fits : (n : Option ℕ) → FitsLine f (if_number n)
  number_fits None = record {}
  number_fits (Some n) = record {}

  end_fits : (rest : List (List ℕ)) → FitsLine f (end_line rest)
  end_fits [] = record {}
  end_fits (n ∷ []) = number_fits (number_of n)
  end_fits (n ∷ v ∷ rest) = record {}

  pub words_fit : (ws : List (List ℕ)) → AreWords ws → FitsLine f (load_words f ws)
  words_fit [] are = record {}
  words_fit (name ∷ rest) are =
      either (slice_index name 0 == 35) Nothing (if bytes_eq name (codes "record") then record_line f rest else (if bytes_eq name (codes "end") then end_line rest else Bad)) (record {})
      (either (bytes_eq name (codes "record")) (record_line f rest) (if bytes_eq name (codes "end") then end_line rest else Bad) (record_fits rest are.1)
      (either (bytes_eq name (codes "end")) (end_line rest) Bad (end_fits rest) (record {})))

  pub line_fits : (line : List ℕ) → FitsLine f (load_line f line)
  line_fits line = words_fit (words line) (words_are line)
