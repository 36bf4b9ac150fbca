-- The lines that a dump says are those of a load text.
use Rattle.std.proofs.Common.{◌%◌, ◌≡◌, ◌≢◌, ℕ, zero, suc, ◌+◌, ◌-◌, ◌*◌, ◌^◌, ◌<◌, ◌≤◌, ◌||◌, List, [], ◌∷◌, ◌++◌, length, cond, nat_lt, All, refl, ap, ◌∙◌, arith, length-append, ne_eqb, slice_index, take}
use Rattle.std.specs.Prelude.{codes, decimal}
use Rattle.std.specs.Str.Lines.{strip_carriage_return}
use Rattle.std.proofs.lemmas.Bool.{le-ltb}
use Rattle.std.proofs.lemmas.Fmt.{decimal_by_steps, length-decimal-le, decimal_nonempty}
use Rattle.std.proofs.lemmas.List.Elements.{All-weaker, All-append}
use Rattle.percent_encoding.specs.Percent.{percent_decode}
use Rattle.key_slot.specs.Format.{wide, key_room, value_room}
use Rattle.key_slot.proofs.SlotLaws.{sizes}
use Rattle.line_source.specs.Lines.{NoFeed, line_limit}
use Rattle.command_text.specs.Printed.{printed, value_word}
use Rattle.command_text.specs.ReadsBack.{IsPrintedByte, MayBeRecord, DumpReadsBack}
use Rattle.command_text.specs.Load.{load_line, load_line_raw, record_line, row_of, end_line, if_number}
use Rattle.command_text.specs.declared.load.LoadLine.TheVariants.{Row, End, Bad}
use Rattle.command_text.proofs.NumberLaws.{some_of}
use Rattle.command_text.proofs.PrintedLaws.{clean, decodes, length-printed, record_words, some_words}
use Rattle.command_text.proofs.WordLaws.{words-last}

-- bytes behind the control bytes and the space, or the space
abbrev IsText : ℕ → Type 0
IsText b = 31 < b

one : (P : ℕ → Type 0) (b : ℕ) → P b → All P (b ∷ [])
one P b is zero d lt = is
one P b is (suc k) d lt = absurd (omega arith)

more : (P : ℕ → Type 0) (b : ℕ) (bytes : List ℕ) → P b → All P bytes → All P (b ∷ bytes)
more P b bytes is all zero d lt = is
more P b bytes is all (suc k) d lt = all k d (omega arith)

text_printed : (bytes : List ℕ) → All IsText (printed bytes)
text_printed bytes = All-weaker IsPrintedByte IsText (λ b is. omega (arith, is.0)) (printed bytes) (clean bytes)

text_value : (value : List ℕ) → All IsText (value_word value)
text_value [] = λ k d lt. absurd (omega arith)
text_value (b ∷ value) = more IsText 32 (printed (b ∷ value)) (omega arith) (text_printed (b ∷ value))

text_digits : (n : ℕ) → n < 2 ^ 64 → All (λ b. 47 < b) (decimal n)
text_digits = decimal_by_steps (λ m ds. All (λ b. 47 < b) ds) (λ m l. one (λ b. 47 < b) (48 + m) (omega arith)) (λ m ds l h. All-append (λ b. 47 < b) ds ((48 + m % 10) ∷ []) h (one (λ b. 47 < b) (48 + m % 10) (omega arith)))

text_record : (key value : List ℕ) → All IsText (codes "record " ++ printed key ++ value_word value)
text_record key value =
    let t = printed key ++ value_word value in
    let tail = All-append IsText (printed key) (value_word value) (text_printed key) (text_value value) in
    more IsText 114 (101 ∷ 99 ∷ 111 ∷ 114 ∷ 100 ∷ 32 ∷ t) (omega arith) (more IsText 101 (99 ∷ 111 ∷ 114 ∷ 100 ∷ 32 ∷ t) (omega arith) (more IsText 99 (111 ∷ 114 ∷ 100 ∷ 32 ∷ t) (omega arith) (more IsText 111 (114 ∷ 100 ∷ 32 ∷ t) (omega arith) (more IsText 114 (100 ∷ 32 ∷ t) (omega arith) (more IsText 100 (32 ∷ t) (omega arith) (more IsText 32 t (omega arith) tail))))))

text_end : (n : ℕ) → n < 2 ^ 64 → All IsText (codes "end " ++ decimal n)
text_end n small =
    let t = decimal n in
    let tail = All-weaker (λ b. 47 < b) IsText (λ b is. omega (arith, is)) (decimal n) (text_digits n small) in
    more IsText 101 (110 ∷ 100 ∷ 32 ∷ t) (omega arith) (more IsText 110 (100 ∷ 32 ∷ t) (omega arith) (more IsText 100 (32 ∷ t) (omega arith) (more IsText 32 t (omega arith) tail)))

-- Such a line has no line feed, and no carriage return at its end.

no_feed : (line : List ℕ) → All IsText line → NoFeed line
no_feed line all = All-weaker IsText (λ b. b ≢ 10) (λ b is e. omega (arith, is, e)) line all

kept : (line : List ℕ) → 0 < length line → All IsText line → strip_carriage_return line ≡ line
kept line some all =
    let last : 31 < slice_index line (length line - 1) = all (length line - 1) 0 (omega (arith, some)) in
    ap (λ b. cond b (take (length line - 1) line) line) (ne_eqb (slice_index line (length line - 1)) 13 (λ e. omega (arith, last, e)))

as_line : (f : ℕ) (line : List ℕ) → 0 < length line → length line ≤ line_limit → All IsText line → load_line_raw f line ≡ load_line f line
as_line f line some short all = ap (λ b. cond b Bad (load_line f (strip_carriage_return line))) (le-ltb line_limit (length line) short) ∙ ap (load_line f) (kept line some all)

-- A record.

length_value : (value : List ℕ) → length (value_word value) ≤ 1 + 3 * length value
length_value [] = omega arith
length_value (b ∷ value) = omega (arith, length-printed (b ∷ value))

fits : (f : ℕ) (key value : List ℕ) → MayBeRecord f key value → row_of f key value ≡ Row (record { key = key; value = value })
fits f key value is =
    let size = sizes f (key, value) is.fits in
    ap (λ b. cond (b || nat_lt (value_room f) (length value)) Bad (Row (record { key = key; value = value }))) (le-ltb (key_room f) (length key) size.key)
    ∙ ap (λ b. cond b Bad (Row (record { key = key; value = value }))) (le-ltb (value_room f) (length value) size.value)

read_words : (f : ℕ) (key value : List ℕ) → MayBeRecord f key value → record_line f (printed key ∷ some_words value) ≡ row_of f key value
read_words f key [] is = ap (λ k. row_of f k []) (decodes key is.key_bytes)
read_words f key (b ∷ value) is = ap (λ k. row_of f k (percent_decode (printed (b ∷ value)))) (decodes key is.key_bytes) ∙ ap (row_of f key) (decodes (b ∷ value) is.value_bytes)

read_record : (f : ℕ) (key value : List ℕ) → MayBeRecord f key value → load_line f (codes "record " ++ printed key ++ value_word value) ≡ Row (record { key = key; value = value })
read_record f key value is =
    ap (record_line f) (record_words key value (omega (arith, (sizes f (key, value) is.fits).some))) ∙ read_words f key value is ∙ fits f key value is

short_record : (f : ℕ) (key value : List ℕ) → f ≤ wide → MayBeRecord f key value → length (codes "record " ++ printed key ++ value_word value) ≤ line_limit
short_record f key value is_f is =
    let size = sizes f (key, value) is.fits in
    omega (arith, length-append (printed key) (value_word value), length-printed key, length_value value, size.key, size.value, is_f)

-- The end.

no_space : (n : ℕ) → n < 2 ^ 64 → All (λ b. b ≢ 32) (decimal n)
no_space n small = All-weaker (λ b. 47 < b) (λ b. b ≢ 32) (λ b is e. omega (arith, is, e)) (decimal n) (text_digits n small)

read_end : (f n : ℕ) → n < 2 ^ 32 → load_line f (codes "end " ++ decimal n) ≡ End n
read_end f n small =
    ap end_line (words-last (decimal n) (decimal_nonempty n (omega (arith, small))) (no_space n (omega (arith, small)))) ∙ ap if_number (some_of (decimal n) n small refl)

short_end : (n : ℕ) → n < 2 ^ 32 → length (codes "end " ++ decimal n) ≤ line_limit
short_end n small = omega (arith, length-decimal-le 10 n (omega arith) (omega (arith, small)) (omega (arith, small)))

pub dump_reads_back : DumpReadsBack
dump_reads_back = record {
  row = λ f key value is_f is. as_line f (codes "record " ++ printed key ++ value_word value) (omega arith) (short_record f key value is_f is) (text_record key value) ∙ read_record f key value is;
  end = λ f n small. as_line f (codes "end " ++ decimal n) (omega arith) (short_end n small) (text_end n (omega (arith, small))) ∙ read_end f n small;
  row_line = λ key value. no_feed (codes "record " ++ printed key ++ value_word value) (text_record key value);
  end_line = λ n small. no_feed (codes "end " ++ decimal n) (text_end n (omega (arith, small)));
}
