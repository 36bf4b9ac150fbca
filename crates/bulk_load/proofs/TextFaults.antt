-- Where lines are at fault, and what a dump says.
use Rattle.std.proofs.Common.{◌≡◌, ℕ, zero, suc, ◌+◌, ◌-◌, ◌^◌, ◌<◌, ◌≤◌, ◌==◌, max, not, Bool, true, false, cond, List, [], ◌∷◌, ◌++◌, length, take, map, All, refl, sym, ap, subst, ◌∙◌, arith, append_assoc, ne_eqb}
use Rattle.std.specs.Prelude.{codes, decimal}
use Rattle.std.specs.List.{flat_map, cons_option}
use Rattle.std.proofs.lemmas.Bool.Decides.{nat_tests}
use Rattle.std.proofs.lemmas.List.{append-nil, length-append, take_at}
use Rattle.std.proofs.lemmas.List.Concat.{flat_map-append}
use Rattle.line_source.specs.Lines.{raw_lines, NoFeed}
use Rattle.line_source.proofs.LineLaws.{raw_lines-line}
use Rattle.key_slot.specs.Record.{Record, IsAscending}
use Rattle.key_slot.specs.Row.{record_of}
use Rattle.key_slot.specs.declared.row.Row.{Row as RowData}
use Rattle.map_model.specs.FileReasons.{last_key, begins_above}
use Rattle.command_text.specs.Answers.{range_lines, row_line}
use Rattle.command_text.specs.Reply.{reply_text, reply_body}
use Rattle.command_text.specs.declared.reply.Reply.TheVariants as reply
use Rattle.command_text.specs.Load.{load_line_raw}
use Rattle.key_slot.specs.Format.{wide}
use Rattle.command_text.specs.ReadsBack.{MayBeRecord}
use Rattle.command_text.specs.declared.load.LoadLine.{LoadLine}
use Rattle.command_text.specs.declared.load.LoadLine.TheVariants.{Nothing, Row, End, Bad}
use Rattle.command_text.proofs.LoadLaws.{dump_reads_back}
use Rattle.bulk_load.specs.LoadText.{record_of_line, records_in, IsEntry, IsLoadText, BeginsText, IsFirstWrong, IsUnfinished, IsOneTooMany}
use Rattle.bulk_load.specs.LoadLines.{Loading, reads, wrong, full, after_line, load_step, load_from, loading}
use Rattle.bulk_load.proofs.ReadLaws.{stays_wrong, stays_full, loading_append}
use Rattle.bulk_load.proofs.TextLaws.{no_wrong, no_full, full_no_wrong, true_false, same_rows, same_end, number_of, AreEntries, Reads, none, start, reads_all, taken, ended_by, entries_of, text_read}

-- A store with more room reads on in the same way.

module _ (format most more : ℕ) (le : most ≤ more) where
  -- a record that is taken is taken there too
  record_on : (k : ℕ) (rows now : List Record) (is_ended : Bool) (r : Record) (few : length rows ≤ most) (goes : Bool) (fills : Bool) → (length rows == most) ≡ fills → cond (not goes) (wrong k) (cond fills full (reads (rows ++ r ∷ []) false)) ≡ reads now is_ended
      → cond (not goes) (wrong k) (cond (length rows == more) full (reads (rows ++ r ∷ []) false)) ≡ reads now is_ended
  record_on k rows now is_ended r few false fills is e = absurd (no_wrong e)
  record_on k rows now is_ended r few true true is e = absurd (no_full e)
  record_on k rows now is_ended r few true false is e = ap (λ b. cond b full (reads (rows ++ r ∷ []) false)) (ne_eqb (length rows) more (λ h. other (omega (arith, h, le, few)))) ∙ e
    where
      other : length rows ≡ most → ⊥
      other h = true_false (sym (same h) ∙ is)
        where
          same : length rows ≡ most → (length rows == most) ≡ true
          same e = grind (arith, nat_tests)

  line_on : (k : ℕ) (rows now : List Record) (ended is_ended : Bool) (line : LoadLine) → length rows ≤ most → after_line most k rows ended line ≡ reads now is_ended → after_line more k rows ended line ≡ reads now is_ended
  line_on k rows now false is_ended Nothing few e = e
  line_on k rows now true is_ended Nothing few e = e
  line_on k rows now false is_ended (Row row) few e = record_on k rows now is_ended (record_of row) few (begins_above (last_key rows) (record_of row ∷ [])) (length rows == most) refl e
  line_on k rows now true is_ended (Row row) few e = e
  line_on k rows now false is_ended (End n) few e = e
  line_on k rows now true is_ended (End n) few e = e
  line_on k rows now false is_ended Bad few e = e
  line_on k rows now true is_ended Bad few e = e

  -- and a wrong line is wrong there too
  wrong_record : (k n : ℕ) (rows : List Record) (r : Record) (goes fills : Bool) → cond (not goes) (wrong k) (cond fills full (reads (rows ++ r ∷ []) false)) ≡ wrong n → cond (not goes) (wrong k) (cond (length rows == more) full (reads (rows ++ r ∷ []) false)) ≡ wrong n
  wrong_record k n rows r false fills e = e
  wrong_record k n rows r true true e = absurd (full_no_wrong e)
  wrong_record k n rows r true false e = absurd (no_wrong (sym e))

  wrong_on : (k n : ℕ) (rows : List Record) (ended : Bool) (line : LoadLine) → after_line most k rows ended line ≡ wrong n → after_line more k rows ended line ≡ wrong n
  wrong_on k n rows false Nothing e = e
  wrong_on k n rows true Nothing e = e
  wrong_on k n rows false (Row row) e = wrong_record k n rows (record_of row) (begins_above (last_key rows) (record_of row ∷ [])) (length rows == most) e
  wrong_on k n rows true (Row row) e = e
  wrong_on k n rows false (End m) e = e
  wrong_on k n rows true (End m) e = e
  wrong_on k n rows false Bad e = e
  wrong_on k n rows true Bad e = e

-- as many records as may be, at most
few_record : (most k : ℕ) (rows now : List Record) (is_ended : Bool) (r : Record) → length rows ≤ most → (goes fills : Bool) → (length rows == most) ≡ fills → cond (not goes) (wrong k) (cond fills full (reads (rows ++ r ∷ []) false)) ≡ reads now is_ended → length now ≤ most
few_record most k rows now is_ended r few false fills is e = absurd (no_wrong e)
few_record most k rows now is_ended r few true true is e = absurd (no_full e)
few_record most k rows now is_ended r few true false is e = omega (arith, few, differ, length-append rows (r ∷ []), ap length (same_rows e))
  where
    same : length rows ≡ most → (length rows == most) ≡ true
    same h = grind (arith, nat_tests)

    differ : length rows ≡ most → ⊥
    differ h = true_false (sym (same h) ∙ is)

few_line : (most k : ℕ) (rows now : List Record) (ended is_ended : Bool) (line : LoadLine) → length rows ≤ most → after_line most k rows ended line ≡ reads now is_ended → length now ≤ most
few_line most k rows now false is_ended Nothing few e = omega (arith, few, ap length (same_rows e))
few_line most k rows now true is_ended Nothing few e = omega (arith, few, ap length (same_rows e))
few_line most k rows now false is_ended (Row row) few e = few_record most k rows now is_ended (record_of row) few (begins_above (last_key rows) (record_of row ∷ [])) (length rows == most) refl e
few_line most k rows now true is_ended (Row row) few e = absurd (no_wrong e)
few_line most k rows now false is_ended (End n) few e = by (n == length rows) e
  where
    by : (same : Bool) → cond same (reads rows true) (wrong k) ≡ reads now is_ended → length now ≤ most
    by true e = omega (arith, few, ap length (same_rows e))
    by false e = absurd (no_wrong e)
few_line most k rows now true is_ended (End n) few e = absurd (no_wrong e)
few_line most k rows now false is_ended Bad few e = absurd (no_wrong e)
few_line most k rows now true is_ended Bad few e = absurd (no_wrong e)

-- All lines, in a store with more room.

record GoesOn (format most more k : ℕ) (rows now : List Record) (ended is_ended : Bool) (lines : List (List ℕ)) : Type 0 where
  few : length now ≤ most
  same : load_from format more k (reads rows ended) lines ≡ reads now is_ended

goes_on : (format most more k : ℕ) → most ≤ more → (rows now : List Record) (ended is_ended : Bool) (lines : List (List ℕ)) → length rows ≤ most → load_from format most k (reads rows ended) lines ≡ reads now is_ended → GoesOn format most more k rows now ended is_ended lines
goes_on format most more k le rows now ended is_ended [] few e = record { few = omega (arith, few, ap length (same_rows e)); same = e }
goes_on format most more k le rows now ended is_ended (raw ∷ lines) few e =
    by (λ mid mid_ended room f. goes_on format most more (k + 1) le mid now mid_ended is_ended lines room f) (load_step format most k (reads rows ended) raw) refl
  where
    by : ((mid : List Record) (mid_ended : Bool) → length mid ≤ most → load_from format most (k + 1) (reads mid mid_ended) lines ≡ reads now is_ended → GoesOn format most more (k + 1) mid now mid_ended is_ended lines)
        → (s : Loading) → load_step format most k (reads rows ended) raw ≡ s → GoesOn format most more k rows now ended is_ended (raw ∷ lines)
    by again (reads mid mid_ended) is =
        let there = again mid mid_ended (few_line most k rows mid ended mid_ended (load_line_raw format raw) few is) (ap (λ (s : Loading). load_from format most (k + 1) s lines) (sym is) ∙ e) in
        record { few = there.few; same = ap (λ (s : Loading). load_from format more (k + 1) s lines) (line_on format most more le k rows mid ended mid_ended (load_line_raw format raw) few is) ∙ there.same }
    by again (wrong n) is = absurd (no_wrong (sym (stays_wrong format most (k + 1) n lines) ∙ ap (λ (s : Loading). load_from format most (k + 1) s lines) (sym is) ∙ e))
    by again full is = absurd (no_full (sym (stays_full format most (k + 1) lines) ∙ ap (λ (s : Loading). load_from format most (k + 1) s lines) (sym is) ∙ e))

-- The line at which reading stops.

pub record StopsAt (format most k n : ℕ) (rows : List Record) (ended : Bool) (lines : List (List ℕ)) : Type 0 where
  pub done : List (List ℕ)
  pub raw : List ℕ
  pub rest : List (List ℕ)
  pub lines_are : lines ≡ done ++ raw ∷ rest
  pub now : List Record
  pub now_ended : Bool
  pub reading : load_from format most k (reads rows ended) done ≡ reads now now_ended
  pub number : n ≡ k + length done
  pub stops : after_line most n now now_ended (load_line_raw format raw) ≡ wrong n

-- a line that is wrong has its own number
own_number : (most k n : ℕ) (rows : List Record) (ended : Bool) (line : LoadLine) → after_line most k rows ended line ≡ wrong n → n ≡ k
own_number most k n rows false Nothing e = absurd (no_wrong (sym e))
own_number most k n rows true Nothing e = absurd (no_wrong (sym e))
own_number most k n rows false (Row row) e = by (begins_above (last_key rows) (record_of row ∷ [])) (length rows == most) e
  where
    by : (goes fills : Bool) → cond (not goes) (wrong k) (cond fills full (reads (rows ++ record_of row ∷ []) false)) ≡ wrong n → n ≡ k
    by false fills e = let m : suc k ≡ suc n = ap number_of e in omega (arith, m)
    by true true e = absurd (full_no_wrong e)
    by true false e = absurd (no_wrong (sym e))
own_number most k n rows true (Row row) e = let m : suc k ≡ suc n = ap number_of e in omega (arith, m)
own_number most k n rows false (End m) e = by (m == length rows) e
  where
    by : (same : Bool) → cond same (reads rows true) (wrong k) ≡ wrong n → n ≡ k
    by true e = absurd (no_wrong (sym e))
    by false e = let m : suc k ≡ suc n = ap number_of e in omega (arith, m)
own_number most k n rows true (End m) e = let m : suc k ≡ suc n = ap number_of e in omega (arith, m)
own_number most k n rows false Bad e = let m : suc k ≡ suc n = ap number_of e in omega (arith, m)
own_number most k n rows true Bad e = let m : suc k ≡ suc n = ap number_of e in omega (arith, m)

pub stops_at : (format most k n : ℕ) (rows : List Record) (ended : Bool) (lines : List (List ℕ)) → load_from format most k (reads rows ended) lines ≡ wrong n → StopsAt format most k n rows ended lines
stops_at format most k n rows ended [] e = absurd (no_wrong (sym e))
stops_at format most k n rows ended (raw ∷ lines) e = by (λ mid mid_ended f. stops_at format most (k + 1) n mid mid_ended lines f) (load_step format most k (reads rows ended) raw) refl
  where
    by : ((mid : List Record) (mid_ended : Bool) → load_from format most (k + 1) (reads mid mid_ended) lines ≡ wrong n → StopsAt format most (k + 1) n mid mid_ended lines) → (s : Loading) → load_step format most k (reads rows ended) raw ≡ s → StopsAt format most k n rows ended (raw ∷ lines)
    by again (reads mid mid_ended) is =
        let there = again mid mid_ended (ap (λ (s : Loading). load_from format most (k + 1) s lines) (sym is) ∙ e) in
        record {
          done = raw ∷ there.done;
          raw = there.raw;
          rest = there.rest;
          lines_are = ap (λ (l : List (List ℕ)). raw ∷ l) there.lines_are;
          now = there.now;
          now_ended = there.now_ended;
          reading = ap (λ (s : Loading). load_from format most (k + 1) s there.done) is ∙ there.reading;
          number = there.number ∙ omega arith;
          stops = there.stops;
        }
    by again (wrong m) is =
        let all : wrong m ≡ wrong n = sym (stays_wrong format most (k + 1) m lines) ∙ ap (λ (s : Loading). load_from format most (k + 1) s lines) (sym is) ∙ e in
        let here : n ≡ k = own_number most k n rows ended (load_line_raw format raw) (is ∙ all) in
        record {
          done = [];
          raw = raw;
          rest = lines;
          lines_are = refl;
          now = rows;
          now_ended = ended;
          reading = refl;
          number = here ∙ omega arith;
          stops = ap (λ (j : ℕ). after_line most j rows ended (load_line_raw format raw)) here ∙ is ∙ all;
        }
    by again full is = absurd (full_no_wrong (sym (stays_full format most (k + 1) lines) ∙ ap (λ (s : Loading). load_from format most (k + 1) s lines) (sym is) ∙ e))

-- Beginnings.

-- the line with a number of records, as it is dumped
abbrev pub end_raw : ℕ → List ℕ
end_raw n = codes "end " ++ decimal n

pub begins : (format most : ℕ) (lines : List (List ℕ)) (rows : List Record) (ended : Bool) → most < 2 ^ 32 → length rows ≤ most → Reads format lines rows ended → BeginsText format lines
begins format most lines rows false small few so = record {
  behind = end_raw (length rows) ∷ [];
  rows = rows;
  text = ended_by format lines (end_raw (length rows)) rows (dump_reads_back.end format (length rows) (omega (arith, few, small))) so;
}
begins format most lines rows true small few so = record { behind = []; rows = rows; text = subst (λ (l : List (List ℕ)). IsLoadText format l rows) (sym (append-nil lines)) so }

module _ (format most : ℕ) (lines : List (List ℕ)) where
  pub first_wrong : (n : ℕ) → most < 2 ^ 32 → loading format most lines ≡ wrong n → IsFirstWrong format lines n
  first_wrong n small e =
      let s = stops_at format most 1 n [] false lines e in
      let on = goes_on format most most 1 (omega arith) [] s.now false s.now_ended s.done (omega arith) s.reading in
      let so = reads_all format most 1 [] [] s.now false s.now_ended s.done (start format) s.reading in
      let front : take (n - 1) lines ≡ s.done = ap (take (n - 1)) s.lines_are ∙ take_at s.done (s.raw ∷ s.rest) (n - 1) (omega (arith, s.number)) in
      let whole : take n lines ≡ s.done ++ s.raw ∷ [] =
      ap (take n) (s.lines_are ∙ sym (append_assoc s.done (s.raw ∷ []) s.rest)) ∙ take_at (s.done ++ s.raw ∷ []) s.rest n (omega (arith, s.number, length-append s.done (s.raw ∷ []))) in
      record {
        some = omega (arith, s.number);
        there = omega (arith, s.number, ap length s.lines_are, length-append s.done (s.raw ∷ s.rest));
        before = subst (BeginsText format) (sym front) (begins format most s.done s.now s.now_ended small on.few so);
        wrong = λ b. never s (subst (BeginsText format) whole b);
      }
    where
      never : (s : StopsAt format most 1 n [] false lines) → BeginsText format (s.done ++ s.raw ∷ []) → ⊥
      never s b =
          let more = max most (length b.rows) in
          let on = goes_on format most more 1 (omega arith) [] s.now false s.now_ended s.done (omega arith) s.reading in
          let all : (s.done ++ s.raw ∷ []) ++ b.behind ≡ s.done ++ s.raw ∷ b.behind = append_assoc s.done (s.raw ∷ []) b.behind in
          let read : loading format more (s.done ++ s.raw ∷ b.behind) ≡ reads b.rows true = ap (loading format more) (sym all) ∙ text_read format more ((s.done ++ s.raw ∷ []) ++ b.behind) b.rows b.text (omega arith) in
          let here : 1 + length s.done ≡ n = sym s.number in
          let stop : loading format more (s.done ++ s.raw ∷ b.behind) ≡ wrong n =
          loading_append format more s.done (s.raw ∷ b.behind) ∙ ap (λ (x : Loading). load_from format more (1 + length s.done) x (s.raw ∷ b.behind)) on.same
          ∙ ap (λ (j : ℕ). load_from format more (1 + length s.done + 1) (after_line more j s.now s.now_ended (load_line_raw format s.raw)) b.behind) here
          ∙ ap (λ (x : Loading). load_from format more (1 + length s.done + 1) x b.behind) (wrong_on format most more (omega arith) n n s.now s.now_ended (load_line_raw format s.raw) s.stops)
          ∙ stays_wrong format more (1 + length s.done + 1) n b.behind in
          no_wrong (sym stop ∙ read)

  pub unfinished : (rows : List Record) → most < 2 ^ 32 → loading format most lines ≡ reads rows false → IsUnfinished format lines
  unfinished rows small e =
      let on = goes_on format most most 1 (omega arith) [] rows false false lines (omega arith) e in
      record {
        begins = begins format most lines rows false small on.few (entries_of format most lines rows e);
        no_text = λ now text.
            let more = max most (length now) in
            let there = goes_on format most more 1 (omega arith) [] rows false false lines (omega arith) e in
            true_false (same_end (sym (text_read format more lines now text (omega arith)) ∙ there.same));
      }

  pub few_rows : (rows : List Record) (ended : Bool) → loading format most lines ≡ reads rows ended → length rows ≤ most
  few_rows rows ended e = (goes_on format most most 1 (omega arith) [] rows false ended lines (omega arith) e).few

-- One record too many.

-- the line at which there are too many
record FillsAt (format most k : ℕ) (rows : List Record) (ended : Bool) (lines : List (List ℕ)) : Type 0 where
  done : List (List ℕ)
  raw : List ℕ
  rest : List (List ℕ)
  lines_are : lines ≡ done ++ raw ∷ rest
  now : List Record
  now_ended : Bool
  at : ℕ
  reading : load_from format most k (reads rows ended) done ≡ reads now now_ended
  fills : after_line most at now now_ended (load_line_raw format raw) ≡ full

fills_at : (format most k : ℕ) (rows : List Record) (ended : Bool) (lines : List (List ℕ)) → load_from format most k (reads rows ended) lines ≡ full → FillsAt format most k rows ended lines
fills_at format most k rows ended [] e = absurd (no_full (sym e))
fills_at format most k rows ended (raw ∷ lines) e = by (λ mid mid_ended f. fills_at format most (k + 1) mid mid_ended lines f) (load_step format most k (reads rows ended) raw) refl
  where
    by : ((mid : List Record) (mid_ended : Bool) → load_from format most (k + 1) (reads mid mid_ended) lines ≡ full → FillsAt format most (k + 1) mid mid_ended lines) → (s : Loading) → load_step format most k (reads rows ended) raw ≡ s → FillsAt format most k rows ended (raw ∷ lines)
    by again (reads mid mid_ended) is =
        let there = again mid mid_ended (ap (λ (s : Loading). load_from format most (k + 1) s lines) (sym is) ∙ e) in
        record {
          done = raw ∷ there.done;
          raw = there.raw;
          rest = there.rest;
          lines_are = ap (λ (l : List (List ℕ)). raw ∷ l) there.lines_are;
          now = there.now;
          now_ended = there.now_ended;
          at = there.at;
          reading = ap (λ (s : Loading). load_from format most (k + 1) s there.done) is ∙ there.reading;
          fills = there.fills;
        }
    by again (wrong m) is = absurd (full_no_wrong (sym e ∙ ap (λ (s : Loading). load_from format most (k + 1) s lines) is ∙ stays_wrong format most (k + 1) m lines))
    by again full is = record { done = []; raw = raw; rest = lines; lines_are = refl; now = rows; now_ended = ended; at = k; reading = refl; fills = is }

-- it has a record that may stand there, behind as many as may be
record FillsBy (most : ℕ) (rows : List Record) (ended : Bool) (line : LoadLine) : Type 0 where
  row : RowData
  line_is : line ≡ Row row
  not_ended : ended ≡ false
  above : begins_above (last_key rows) (record_of row ∷ []) ≡ true
  count : length rows ≡ most

fills_by : (most k : ℕ) (rows : List Record) (ended : Bool) (line : LoadLine) → after_line most k rows ended line ≡ full → FillsBy most rows ended line
fills_by most k rows false Nothing e = absurd (no_full (sym e))
fills_by most k rows true Nothing e = absurd (no_full (sym e))
fills_by most k rows false (Row row) e = by (begins_above (last_key rows) (record_of row ∷ [])) refl (length rows == most) refl e
  where
    eq_of : (a b : ℕ) → (a == b) ≡ true → a ≡ b
    eq_of a b h = grind (arith, nat_tests)

    by : (goes : Bool) → begins_above (last_key rows) (record_of row ∷ []) ≡ goes → (fills : Bool) → (length rows == most) ≡ fills → cond (not goes) (wrong k) (cond fills full (reads (rows ++ record_of row ∷ []) false)) ≡ full → FillsBy most rows false (Row row)
    by false above fills is e = absurd (full_no_wrong (sym e))
    by true above false is e = absurd (no_full (sym e))
    by true above true is e = record { row = row; line_is = refl; not_ended = refl; above = above; count = eq_of (length rows) most is }
fills_by most k rows true (Row row) e = absurd (full_no_wrong (sym e))
fills_by most k rows false (End n) e = by (n == length rows) e
  where
    by : (same : Bool) → cond same (reads rows true) (wrong k) ≡ full → FillsBy most rows false (End n)
    by true e = absurd (no_full (sym e))
    by false e = absurd (full_no_wrong (sym e))
fills_by most k rows true (End n) e = absurd (full_no_wrong (sym e))
fills_by most k rows false Bad e = absurd (full_no_wrong (sym e))
fills_by most k rows true Bad e = absurd (full_no_wrong (sym e))

pub one_too_many : (format most : ℕ) (lines : List (List ℕ)) → most + 1 < 2 ^ 32 → loading format most lines ≡ full → IsOneTooMany format most lines
one_too_many format most lines small e =
    let s = fills_at format most 1 [] false lines e in
    let b = fills_by most s.at s.now s.now_ended (load_line_raw format s.raw) s.fills in
    let so : AreEntries format s.done s.now = subst (Reads format s.done s.now) b.not_ended (reads_all format most 1 [] [] s.now false s.now_ended s.done (start format) s.reading) in
    let next = taken format s.done s.raw s.now b.row b.line_is b.above so in
    let n = length s.done + 1 in
    let size : length (s.now ++ record_of b.row ∷ []) ≡ most + 1 = length-append s.now (record_of b.row ∷ []) ∙ omega (arith, b.count) in
    let whole : take n lines ≡ s.done ++ s.raw ∷ [] =
    ap (take n) (s.lines_are ∙ sym (append_assoc s.done (s.raw ∷ []) s.rest)) ∙ take_at (s.done ++ s.raw ∷ []) s.rest n (omega (arith, length-append s.done (s.raw ∷ []))) in
    record {
      n = n;
      there = omega (arith, ap length s.lines_are, length-append s.done (s.raw ∷ s.rest));
      begins = subst (BeginsText format) (sym whole) (begins format (most + 1) (s.done ++ s.raw ∷ []) (s.now ++ record_of b.row ∷ []) false small (omega (arith, size)) next);
      records = ap (λ (l : List (List ℕ)). length (records_in format l)) whole ∙ ap (λ (l : List Record). length l) next.rows_are ∙ size;
    }

-- What a dump says.

dumped_rows : (format : ℕ) (rows : List Record) → format ≤ wide → All (λ r. MayBeRecord format r.0 r.1) rows → (All (λ raw. IsEntry (load_line_raw format raw)) (map (λ r. reply_body (row_line r)) rows)) × (records_in format (map (λ r. reply_body (row_line r)) rows) ≡ rows)
dumped_rows format [] known all = (none (λ raw. IsEntry (load_line_raw format raw)), refl)
dumped_rows format (r ∷ rows) known all =
    let rest = dumped_rows format rows known (λ k d lt. all (suc k) d (omega (arith, lt))) in
    let here = dump_reads_back.row format r.0 r.1 known (all 0 r (omega arith)) in
    (first (subst IsEntry (sym here) (record {})) rest.0, ap (λ (l : LoadLine). cons_option (record_of_line l) (records_in format (map (λ q. reply_body (row_line q)) rows))) here ∙ ap (λ (l : List Record). r ∷ l) rest.1)
  where
    first : IsEntry (load_line_raw format (reply_body (row_line r))) → All (λ raw. IsEntry (load_line_raw format raw)) (map (λ q. reply_body (row_line q)) rows) → All (λ raw. IsEntry (load_line_raw format raw)) (map (λ q. reply_body (row_line q)) (r ∷ rows))
    first is rest zero d lt = is
    first is rest (suc k) d lt = rest k d (omega (arith, lt))

dumped_lines : (rows : List Record) (last : List ℕ) → NoFeed last → raw_lines (flat_map reply_text (map row_line rows) ++ (last ++ 10 ∷ [])) ≡ map (λ r. reply_body (row_line r)) rows ++ last ∷ []
dumped_lines [] last none_in = raw_lines-line last [] none_in
dumped_lines (r ∷ rows) last none_in =
    let body = reply_body (row_line r) in
    let tail = flat_map reply_text (map row_line rows) in
    let end = last ++ 10 ∷ [] in
    let rest = dumped_lines rows last none_in in
    let one : ((body ++ 10 ∷ []) ++ tail) ++ end ≡ body ++ 10 ∷ (tail ++ end) = append_assoc (body ++ 10 ∷ []) tail end ∙ append_assoc body (10 ∷ []) (tail ++ end) in
    ap raw_lines one ∙ raw_lines-line body (tail ++ end) (dump_reads_back.row_line r.0 r.1) ∙ ap (λ (l : List (List ℕ)). body ∷ l) rest

-- the lines of all records, and the last line with their number, are a load text with these records
pub dump_is_text : (format : ℕ) (rows : List Record) → IsAscending rows → format ≤ wide → All (λ r. MayBeRecord format r.0 r.1) rows → length rows < 2 ^ 32 → IsLoadText format (raw_lines (flat_map reply_text (range_lines rows))) rows
dump_is_text format rows up known all small =
    let last = reply_body (reply.End (length rows)) in
    let both = dumped_rows format rows known all in
    let text : flat_map reply_text (range_lines rows) ≡ flat_map reply_text (map row_line rows) ++ (last ++ 10 ∷ []) =
    flat_map-append reply_text (map row_line rows) (reply.End (length rows) ∷ []) ∙ ap (λ (l : List ℕ). flat_map reply_text (map row_line rows) ++ l) (append-nil (last ++ 10 ∷ [])) in
    record {
      front = map (λ r. reply_body (row_line r)) rows;
      last = last;
      behind = [];
      lines_are = ap raw_lines text ∙ dumped_lines rows last (dump_reads_back.end_line (length rows) small);
      front_is = both.0;
      end_is = dump_reads_back.end format (length rows) small;
      behind_is = none (λ r. load_line_raw format r ≡ Nothing);
      rows_are = both.1;
      ascending = up;
    }
