-- A text is read one line at a time.
use Rattle.std.proofs.Common.{◌≡◌, inl, ℕ, ◌+◌, ◌<◌, ◌≤◌, Bool, false, cond, List, [], ◌∷◌, ◌++◌, length, Err, refl, sym, ap, ◌∙◌, arith, length-append}
use Rattle.std.specs.Str.Lines.{strip_carriage_return}
use Rattle.std.proofs.lemmas.Bool.{lt-ltb, le-ltb}
use Rattle.line_source.specs.Lines.{raw_lines, line_limit}
use Rattle.line_source.specs.SourceView.{SourceView, SourceTold}
use Rattle.line_source.specs.LineStep.{Takes}
use Rattle.line_source.specs.Progress.{HasGiven}
use Rattle.line_source.specs.LineReaderView.{ReaderView, rest}
use Rattle.line_source.proofs.Reading.{took_on}
use Rattle.key_slot.specs.Record.{Record}
use Rattle.command_text.specs.Load.{load_line, load_line_raw}
use Rattle.command_text.specs.declared.load.LoadLine.{LoadLine}
use Rattle.command_text.specs.declared.load.LoadLine.TheVariants.{Bad}
use Rattle.bulk_load.specs.LoadLines.{Loading, TakesAtMost, reads, wrong, full, after_line, load_step, load_from, loading}
use Rattle.bulk_load.specs.LoadFaults.{IsLineFault, IsReadingFault}
use Rattle.bulk_load.specs.TextReading.{IsNextEntry, GivesEntry}
use Rattle.bulk_load.specs.declared.fault.LoadFault.{LoadFault}
use Rattle.bulk_load.specs.declared.fault.LoadFault.TheVariants.{NotEmpty, Line, Full, Disk, Damaged, Script, Spent}

-- Where reading stopped it stays stopped.

pub stays_wrong : (format most k n : ℕ) (lines : List (List ℕ)) → load_from format most k (wrong n) lines ≡ wrong n
stays_wrong format most k n [] = refl
stays_wrong format most k n (raw ∷ lines) = stays_wrong format most (k + 1) n lines

pub stays_full : (format most k : ℕ) (lines : List (List ℕ)) → load_from format most k full lines ≡ full
stays_full format most k [] = refl
stays_full format most k (raw ∷ lines) = stays_full format most (k + 1) lines

-- Lines that are put together.

pub from_append : (format most k : ℕ) (s : Loading) (xs ys : List (List ℕ)) → load_from format most k s (xs ++ ys) ≡ load_from format most (k + length xs) (load_from format most k s xs) ys
from_append format most k s [] ys = ap (λ (n : ℕ). load_from format most n s ys) (omega arith)
from_append format most k s (raw ∷ xs) ys =
    from_append format most (k + 1) (load_step format most k s raw) xs ys
    ∙ ap (λ (n : ℕ). load_from format most n (load_from format most (k + 1) (load_step format most k s raw) xs) ys) (omega arith)

pub loading_append : (format most : ℕ) (xs ys : List (List ℕ)) → loading format most (xs ++ ys) ≡ load_from format most (1 + length xs) (loading format most xs) ys
loading_append format most xs ys = from_append format most 1 (reads [] false) xs ys

-- one line more
pub loading_more : (format most k : ℕ) (given : List (List ℕ)) (raw : List ℕ) (rows : List Record) (ended : Bool) → k ≡ length given + 1 → loading format most given ≡ reads rows ended → loading format most (given ++ raw ∷ []) ≡ after_line most k rows ended (load_line_raw format raw)
loading_more format most k given raw rows ended is reading =
    loading_append format most given (raw ∷ []) ∙ ap (λ (s : Loading). load_step format most (1 + length given) s raw) reading
    ∙ ap (λ (n : ℕ). after_line most n rows ended (load_line_raw format raw)) (omega (arith, is))

-- a line at fault is at fault in the whole
module _ (format most : ℕ) (lines given behind : List (List ℕ)) (are : lines ≡ given ++ behind) where
  pub whole_wrong : (n : ℕ) → loading format most given ≡ wrong n → loading format most lines ≡ wrong n
  whole_wrong n is = ap (loading format most) are ∙ loading_append format most given behind ∙ ap (λ (s : Loading). load_from format most (1 + length given) s behind) is ∙ stays_wrong format most (1 + length given) n behind

  pub whole_full : loading format most given ≡ full → loading format most lines ≡ full
  whole_full is = ap (loading format most) are ∙ loading_append format most given behind ∙ ap (λ (s : Loading). load_from format most (1 + length given) s behind) is ∙ stays_full format most (1 + length given) behind

-- The line that an answer of the reader speaks of.

pub raw_line : (format : ℕ) (raw line : List ℕ) → length raw ≤ line_limit → line ≡ strip_carriage_return raw → load_line_raw format raw ≡ load_line format line
raw_line format raw line short is = ap (λ b. cond b Bad (load_line format (strip_carriage_return raw))) (le-ltb line_limit (length raw) short) ∙ ap (load_line format) (sym is)

pub raw_long : (format : ℕ) (raw : List ℕ) → line_limit < length raw → load_line_raw format raw ≡ Bad
raw_long format raw long = ap (λ b. cond b Bad (load_line format (strip_carriage_return raw))) (lt-ltb line_limit (length raw) long)

-- Why reading ends.

module _ (format most : ℕ) (r0 : ReaderView) (s0 : SourceView) (given : List (List ℕ)) (rows : List Record) (ended : Bool) (loaded : SourceTold s0 → loading format most given ≡ reads rows ended) where
  -- where no line is given
  pub reading_fault : (r : ReaderView) (s : SourceView) (fault : LoadFault) → IsNextEntry format (Err fault) r0 s0 given r s → IsReadingFault format most r0 s0 s fault
  reading_fault r s (NotEmpty n) next = absurd next
  reading_fault r s (Line n) next = absurd next
  reading_fault r s (Full n) next = absurd next
  reading_fault r s Disk next = absurd next
  reading_fault r s (Damaged segment why) next = absurd next
  reading_fault r s Script next = (
    next.1,
    λ told. record {
      given = given;
      cut = next.0 told;
      rows = rows;
      ended = ended;
      reading = loaded told;
    },
  )
  reading_fault r s Spent next = λ told. record {
    read = record {
      given = given;
      cut = (next told).0;
      rows = rows;
      ended = ended;
      reading = loaded told;
    };
    all = (next told).1;
  }

  module _ (k : ℕ) (line : LoadLine) (r : ReaderView) (s : SourceView) (gives : GivesEntry format r0 s0 given line r s) (k_is : k ≡ length given + 1) where
    -- what comes of the lines with the next one
    pub loaded_more : SourceTold s0 → loading format most (given ++ gives.raw ∷ []) ≡ after_line most k rows ended line
    loaded_more told = loading_more format most k given gives.raw rows ended k_is (loaded told) ∙ ap (after_line most k rows ended) (sym (gives.line_is told))

    -- where a line is at fault
    pub line_fault : (s1 : SourceView) (fault : LoadFault) → IsLineFault most (after_line most k rows ended line) fault → IsReadingFault format most r0 s0 s1 fault
    line_fault s1 (NotEmpty n) is = absurd is
    line_fault s1 (Line n) is = λ told. inl (whole_wrong format most (raw_lines (rest r0 s0)) (given ++ gives.raw ∷ []) (raw_lines (rest r s)) (gives.more.lines told) n (loaded_more told ∙ is))
    line_fault s1 (Full n) is = (is.1, λ told. whole_full format most (raw_lines (rest r0 s0)) (given ++ gives.raw ∷ []) (raw_lines (rest r s)) (gives.more.lines told) (loaded_more told ∙ is.0))
    line_fault s1 Disk is = record {}
    line_fault s1 (Damaged segment why) is = absurd is
    line_fault s1 Script is = absurd is
    line_fault s1 Spent is = absurd is

-- What was taken.

-- by calls that gave lines
pub takes_given : (r0 : ReaderView) (s0 : SourceView) (given : List (List ℕ)) (r : ReaderView) (s : SourceView) → HasGiven r0 s0 given r s → SourceTold s0 → TakesAtMost r0.room s0 s
takes_given r0 s0 given r s here told =
    let took = here.front told in
    record { front = took.front; is = took.is; most_is = omega (arith, here.taken told, ap length took.is, length-append took.front s.left) }

-- and by the last call
pub takes_last : (r0 : ReaderView) (s0 : SourceView) (given : List (List ℕ)) (r : ReaderView) (s : SourceView) (r1 : ReaderView) (s1 : SourceView) → HasGiven r0 s0 given r s → (SourceTold s → Takes r s r1 s1) → SourceTold s0 → TakesAtMost r0.room s0 s1
takes_last r0 s0 given r s r1 s1 here takes told =
    let last = takes (here.went.tells ∙ told) in
    let took = took_on s0 s s1 (here.front told) last.front in
    record { front = took.front; is = took.is; most_is = omega (arith, here.taken told, last.count, ap length took.is, length-append took.front s1.left) }

-- nothing at all
pub takes_none : (most : ℕ) (s : SourceView) → TakesAtMost most s s
takes_none most s = record { front = []; is = refl; most_is = omega arith }
