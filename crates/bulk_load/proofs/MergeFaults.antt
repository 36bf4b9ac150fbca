-- Where merge lines are at fault.
use Rattle.std.proofs.Common.{◌≡◌, inl, inr, ℕ, suc, ◌+◌, ◌-◌, ◌<◌, ◌≤◌, nat_lt, ◌==◌, max, not, Bool, true, false, cond, List, [], ◌∷◌, ◌++◌, length, take, drop, Some, refl, sym, ap, subst, ◌∙◌, arith, append_assoc}
use Rattle.std.specs.Prelude.{codes, decimal}
use Rattle.std.specs.FinMap.{entries, len, len-entries}
use Rattle.std.proofs.lemmas.Bool.{lt-ltb, le-ltb, cases_lt}
use Rattle.std.proofs.lemmas.Bool.Decides.{nat_tests}
use Rattle.std.proofs.lemmas.List.{append-nil, length-append, take_at, take-append-drop}
use Rattle.key_slot.specs.Record.{Record}
use Rattle.map_model.specs.Store.{Map, Update, bind, unbind}
use Rattle.command_text.specs.Merge.{merge_line_raw}
use Rattle.command_text.specs.declared.merge.MergeLine.{MergeLine}
use Rattle.command_text.specs.declared.merge.MergeLine.TheVariants.{Nothing, Bind, Remove, End, Bad}
use Rattle.bulk_load.specs.MergeText.{edit_of_line, edits_in, IsEdit, AreAscending, IsMergeText, BeginsMerge, IsFirstUnmerged, IsMergeUnfinished, IsMergedFull, front_rows, rest_rows, map_after_edits}
use Rattle.bulk_load.specs.MergeLines.{Merging, reads, wrong, full, may_follow, after_merge_line, merge_step, merge_from, merging, IsOverfull}
use Rattle.bulk_load.proofs.MergeLaws.{merged_are}
use Rattle.bulk_load.proofs.MergeLines.{end_read}
use Rattle.bulk_load.proofs.MergeReading.{no_wrong, no_full, full_no_wrong, same_edits, same_end, number_of, stays_wrong, stays_full, merging_append, AreEdits, Reads, reads_all, start, taken, ended_by, begun_of, text_read}

true_false : true ≡ false → ⊥
true_false e = cc

lt_of : (a b : ℕ) → nat_lt a b ≡ true → a < b
lt_of a b h = grind (arith, nat_tests)

-- how many records the map after a text has
pub size_after : (m : Map) (edits : List Update) → AreAscending edits → len (map_after_edits m edits) ≡ length (front_rows edits (entries m)) + length (rest_rows edits (entries m))
size_after m edits up = len-entries (map_after_edits m edits) ∙ ap length (merged_are m edits up) ∙ length-append (front_rows edits (entries m)) (rest_rows edits (entries m))

pub map_read : (format most : ℕ) (m : Map) (lines : List (List ℕ)) (edits : List Update) → IsMergeText format lines edits → len (map_after_edits m edits) ≤ most → merging format most (entries m) lines ≡ reads edits true
map_read format most m lines edits text few = text_read format most (entries m) lines edits text (omega (arith, few, size_after m edits text.ascending))

-- A store with more room reads on in the same way.

module _ (format most more : ℕ) (le : most ≤ more) (rows : List Record) where
  -- an update that is taken is taken there too
  edit_on : (k : ℕ) (edits now : List Update) (is_ended : Bool) (u : Update) (goes fills : Bool) → nat_lt most (length (front_rows (edits ++ u ∷ []) rows)) ≡ fills
      → cond (not goes) (wrong k) (cond fills full (reads (edits ++ u ∷ []) false)) ≡ reads now is_ended
      → cond (not goes) (wrong k) (cond (nat_lt more (length (front_rows (edits ++ u ∷ []) rows))) full (reads (edits ++ u ∷ []) false)) ≡ reads now is_ended
  edit_on k edits now is_ended u false fills is e = absurd (no_wrong e)
  edit_on k edits now is_ended u true true is e = absurd (no_full e)
  edit_on k edits now is_ended u true false is e =
      ap (λ b. cond b full (reads (edits ++ u ∷ []) false)) (le-ltb more (length (front_rows (edits ++ u ∷ []) rows)) (room (length (front_rows (edits ++ u ∷ []) rows)) is)) ∙ e
    where
      room : (n : ℕ) → nat_lt most n ≡ false → n ≤ more
      room n h = elim (cases_lt most n) [
        | inl less ↦ absurd (true_false (sym (lt-ltb most n less) ∙ h))
        | inr few ↦ omega (arith, few, le)
      ]

  line_on : (k : ℕ) (edits now : List Update) (ended is_ended : Bool) (line : MergeLine) → after_merge_line most rows k edits ended line ≡ reads now is_ended → after_merge_line more rows k edits ended line ≡ reads now is_ended
  line_on k edits now false is_ended Nothing e = e
  line_on k edits now true is_ended Nothing e = e
  line_on k edits now false is_ended (Bind row) e = let u = bind row.key row.value in edit_on k edits now is_ended u (may_follow edits u) (nat_lt most (length (front_rows (edits ++ u ∷ []) rows))) refl e
  line_on k edits now true is_ended (Bind row) e = e
  line_on k edits now false is_ended (Remove key) e = let u = unbind key in edit_on k edits now is_ended u (may_follow edits u) (nat_lt most (length (front_rows (edits ++ u ∷ []) rows))) refl e
  line_on k edits now true is_ended (Remove key) e = e
  line_on k edits now false is_ended (End n) e = e
  line_on k edits now true is_ended (End n) e = e
  line_on k edits now false is_ended Bad e = e
  line_on k edits now true is_ended Bad e = e

  -- and a wrong line is wrong there too
  wrong_edit : (k n : ℕ) (edits : List Update) (u : Update) (goes fills : Bool) → cond (not goes) (wrong k) (cond fills full (reads (edits ++ u ∷ []) false)) ≡ wrong n
      → cond (not goes) (wrong k) (cond (nat_lt more (length (front_rows (edits ++ u ∷ []) rows))) full (reads (edits ++ u ∷ []) false)) ≡ wrong n
  wrong_edit k n edits u false fills e = e
  wrong_edit k n edits u true true e = absurd (full_no_wrong e)
  wrong_edit k n edits u true false e = absurd (no_wrong (sym e))

  wrong_on : (k n : ℕ) (edits : List Update) (ended : Bool) (line : MergeLine) → after_merge_line most rows k edits ended line ≡ wrong n → after_merge_line more rows k edits ended line ≡ wrong n
  wrong_on k n edits false Nothing e = e
  wrong_on k n edits true Nothing e = e
  wrong_on k n edits false (Bind row) e = let u = bind row.key row.value in wrong_edit k n edits u (may_follow edits u) (nat_lt most (length (front_rows (edits ++ u ∷ []) rows))) e
  wrong_on k n edits true (Bind row) e = e
  wrong_on k n edits false (Remove key) e = let u = unbind key in wrong_edit k n edits u (may_follow edits u) (nat_lt most (length (front_rows (edits ++ u ∷ []) rows))) e
  wrong_on k n edits true (Remove key) e = e
  wrong_on k n edits false (End m) e = e
  wrong_on k n edits true (End m) e = e
  wrong_on k n edits false Bad e = e
  wrong_on k n edits true Bad e = e

  goes_on : (k : ℕ) (edits now : List Update) (ended is_ended : Bool) (lines : List (List ℕ)) → merge_from format most rows k (reads edits ended) lines ≡ reads now is_ended
      → merge_from format more rows k (reads edits ended) lines ≡ reads now is_ended
  goes_on k edits now ended is_ended [] e = e
  goes_on k edits now ended is_ended (raw ∷ lines) e = by (λ mid mid_ended f. goes_on (k + 1) mid now mid_ended is_ended lines f) (merge_step format most rows k (reads edits ended) raw) refl
    where
      by : ((mid : List Update) (mid_ended : Bool) → merge_from format most rows (k + 1) (reads mid mid_ended) lines ≡ reads now is_ended → merge_from format more rows (k + 1) (reads mid mid_ended) lines ≡ reads now is_ended)
          → (s : Merging) → merge_step format most rows k (reads edits ended) raw ≡ s → merge_from format more rows k (reads edits ended) (raw ∷ lines) ≡ reads now is_ended
      by again (reads mid mid_ended) is =
          ap (λ (s : Merging). merge_from format more rows (k + 1) s lines) (line_on k edits mid ended mid_ended (merge_line_raw format raw) is)
          ∙ again mid mid_ended (ap (λ (s : Merging). merge_from format most rows (k + 1) s lines) (sym is) ∙ e)
      by again (wrong n) is = absurd (no_wrong (sym (stays_wrong format most rows (k + 1) n lines) ∙ ap (λ (s : Merging). merge_from format most rows (k + 1) s lines) (sym is) ∙ e))
      by again full is = absurd (no_full (sym (stays_full format most rows (k + 1) lines) ∙ ap (λ (s : Merging). merge_from format most rows (k + 1) s lines) (sym is) ∙ e))

-- The line at which reading stops, in one way or the other.

record StopsAt (format most : ℕ) (rows : List Record) (k : ℕ) (edits : List Update) (ended : Bool) (lines : List (List ℕ)) (last : Merging) : Type 0 where
  done : List (List ℕ)
  raw : List ℕ
  rest : List (List ℕ)
  lines_are : lines ≡ done ++ raw ∷ rest
  now : List Update
  now_ended : Bool
  reading : merge_from format most rows k (reads edits ended) done ≡ reads now now_ended
  stops : after_merge_line most rows (k + length done) now now_ended (merge_line_raw format raw) ≡ last

module _ (format most : ℕ) (rows : List Record) (last : Merging) (stop : (edits : List Update) (ended : Bool) → last ≡ reads edits ended → ⊥)
    (stays : (k : ℕ) (s : Merging) (lines : List (List ℕ)) → ((edits : List Update) (ended : Bool) → s ≡ reads edits ended → ⊥) → merge_from format most rows k s lines ≡ s) where
  stops_at : (k : ℕ) (edits : List Update) (ended : Bool) (lines : List (List ℕ)) → merge_from format most rows k (reads edits ended) lines ≡ last → StopsAt format most rows k edits ended lines last
  stops_at k edits ended [] e = absurd (stop edits ended (sym e))
  stops_at k edits ended (raw ∷ lines) e = by (λ mid mid_ended f. stops_at (k + 1) mid mid_ended lines f) (merge_step format most rows k (reads edits ended) raw) refl
    where
      here : (s : Merging) → merge_step format most rows k (reads edits ended) raw ≡ s → ((now : List Update) (is : Bool) → s ≡ reads now is → ⊥) → StopsAt format most rows k edits ended (raw ∷ lines) last
      here s is never = record {
        done = [];
        raw = raw;
        rest = lines;
        lines_are = refl;
        now = edits;
        now_ended = ended;
        reading = refl;
        stops = ap (λ (j : ℕ). after_merge_line most rows j edits ended (merge_line_raw format raw)) (plus k) ∙ is ∙ sym (stays (k + 1) s lines never) ∙ ap (λ (x : Merging). merge_from format most rows (k + 1) x lines) (sym is) ∙ e;
      }
        where
          plus : (n : ℕ) → n + 0 ≡ n
          plus n = omega arith

      by : ((mid : List Update) (mid_ended : Bool) → merge_from format most rows (k + 1) (reads mid mid_ended) lines ≡ last → StopsAt format most rows (k + 1) mid mid_ended lines last)
          → (s : Merging) → merge_step format most rows k (reads edits ended) raw ≡ s → StopsAt format most rows k edits ended (raw ∷ lines) last
      by again (reads mid mid_ended) is =
          let there = again mid mid_ended (ap (λ (s : Merging). merge_from format most rows (k + 1) s lines) (sym is) ∙ e) in
          record {
            done = raw ∷ there.done;
            raw = there.raw;
            rest = there.rest;
            lines_are = ap (λ (l : List (List ℕ)). raw ∷ l) there.lines_are;
            now = there.now;
            now_ended = there.now_ended;
            reading = ap (λ (s : Merging). merge_from format most rows (k + 1) s there.done) is ∙ there.reading;
            stops = ap (λ (j : ℕ). after_merge_line most rows j there.now there.now_ended (merge_line_raw format there.raw)) (omega arith) ∙ there.stops;
          }
      by again (wrong m) is = here (wrong m) is (λ now f h. no_wrong h)
      by again full is = here full is (λ now f h. no_full h)

stays_put : (format most : ℕ) (rows : List Record) (k : ℕ) (s : Merging) (lines : List (List ℕ)) → ((edits : List Update) (ended : Bool) → s ≡ reads edits ended → ⊥) → merge_from format most rows k s lines ≡ s
stays_put format most rows k (reads edits ended) lines never = absurd (never edits ended refl)
stays_put format most rows k (wrong n) lines never = stays_wrong format most rows k n lines
stays_put format most rows k full lines never = stays_full format most rows k lines

-- a line that is wrong has its own number
pub own_number : (most : ℕ) (rows : List Record) (k n : ℕ) (edits : List Update) (ended : Bool) (line : MergeLine) → after_merge_line most rows k edits ended line ≡ wrong n → n ≡ k
own_number most rows k n edits ended line e = by ended line e
  where
    same : {a b : ℕ} → wrong a ≡ wrong b → b ≡ a
    same {a} {b} h = let m : suc a ≡ suc b = ap number_of h in omega (arith, m)

    edit : (now : List Update) (goes fills : Bool) → cond (not goes) (wrong k) (cond fills full (reads now false)) ≡ wrong n → n ≡ k
    edit now false fills h = same h
    edit now true true h = absurd (full_no_wrong h)
    edit now true false h = absurd (no_wrong (sym h))

    end : (is : Bool) → cond is (reads edits true) (wrong k) ≡ wrong n → n ≡ k
    end true h = absurd (no_wrong (sym h))
    end false h = same h

    by : (ended : Bool) (line : MergeLine) → after_merge_line most rows k edits ended line ≡ wrong n → n ≡ k
    by false Nothing h = absurd (no_wrong (sym h))
    by true Nothing h = absurd (no_wrong (sym h))
    by false (Bind row) h = let u = bind row.key row.value in edit (edits ++ u ∷ []) (may_follow edits u) (nat_lt most (length (front_rows (edits ++ u ∷ []) rows))) h
    by true (Bind row) h = same h
    by false (Remove key) h = let u = unbind key in edit (edits ++ u ∷ []) (may_follow edits u) (nat_lt most (length (front_rows (edits ++ u ∷ []) rows))) h
    by true (Remove key) h = same h
    by false (End m) h = end (m == length edits) h
    by true (End m) h = same h
    by false Bad h = same h
    by true Bad h = same h

-- Beginnings.

-- the line with a number of updates
abbrev end_raw : ℕ → List ℕ
end_raw n = codes "end " ++ decimal n

pub begins : (format : ℕ) (lines : List (List ℕ)) (edits : List Update) (ended : Bool) → Reads format lines edits ended → BeginsMerge format lines
begins format lines edits false so = record { behind = end_raw (length edits) ∷ []; edits = edits; text = ended_by format lines (end_raw (length edits)) edits (end_read format (length edits) so.few) so }
begins format lines edits true so = record { behind = []; edits = edits; text = subst (λ (l : List (List ℕ)). IsMergeText format l edits) (sym (append-nil lines)) so }

-- the front of lines up to one of them
front_to : (lines done : List (List ℕ)) (raw : List ℕ) (rest : List (List ℕ)) → lines ≡ done ++ raw ∷ rest → take (length done + 1) lines ≡ done ++ raw ∷ []
front_to lines done raw rest are =
    ap (take (length done + 1)) (are ∙ sym (append_assoc done (raw ∷ []) rest)) ∙ take_at (done ++ raw ∷ []) rest (length done + 1) (omega (arith, length-append done (raw ∷ [])))

pub first_unmerged : (format most n : ℕ) (rows : List Record) (lines : List (List ℕ)) → merging format most rows lines ≡ wrong n → IsFirstUnmerged format lines n
first_unmerged format most n rows lines e =
    let s = stops_at format most rows (wrong n) (λ edits ended h. no_wrong h) (stays_put format most rows) 1 [] false lines e in
    let here : n ≡ 1 + length s.done = own_number most rows (1 + length s.done) n s.now s.now_ended (merge_line_raw format s.raw) s.stops in
    let so = reads_all format most rows 1 [] [] s.now false s.now_ended s.done (start format) s.reading in
    let front : take (n - 1) lines ≡ s.done = ap (take (n - 1)) s.lines_are ∙ take_at s.done (s.raw ∷ s.rest) (n - 1) (omega (arith, here)) in
    let whole : take n lines ≡ s.done ++ s.raw ∷ [] = ap (λ (j : ℕ). take j lines) (here ∙ omega arith) ∙ front_to lines s.done s.raw s.rest s.lines_are in
    record {
      some = omega (arith, here);
      there = omega (arith, here, ap length s.lines_are, length-append s.done (s.raw ∷ s.rest));
      before = subst (BeginsMerge format) (sym front) (begins format s.done s.now s.now_ended so);
      wrong = λ b. never s here (subst (BeginsMerge format) whole b);
    }
  where
    never : (s : StopsAt format most rows 1 [] false lines (wrong n)) → n ≡ 1 + length s.done → BeginsMerge format (s.done ++ s.raw ∷ []) → ⊥
    never s here b =
        let more = max most (length (front_rows b.edits rows)) in
        let on = goes_on format most more (omega arith) rows 1 [] s.now false s.now_ended s.done s.reading in
        let all : (s.done ++ s.raw ∷ []) ++ b.behind ≡ s.done ++ s.raw ∷ b.behind = append_assoc s.done (s.raw ∷ []) b.behind in
        let read : merging format more rows (s.done ++ s.raw ∷ b.behind) ≡ reads b.edits true = ap (merging format more rows) (sym all) ∙ text_read format more rows ((s.done ++ s.raw ∷ []) ++ b.behind) b.edits b.text (omega arith) in
        let stop : merging format more rows (s.done ++ s.raw ∷ b.behind) ≡ wrong n =
        merging_append format more rows s.done (s.raw ∷ b.behind) ∙ ap (λ (x : Merging). merge_from format more rows (1 + length s.done) x (s.raw ∷ b.behind)) on
        ∙ ap (λ (x : Merging). merge_from format more rows (1 + length s.done + 1) x b.behind) (wrong_on format most more (omega arith) rows (1 + length s.done) n s.now s.now_ended (merge_line_raw format s.raw) s.stops)
        ∙ stays_wrong format more rows (1 + length s.done + 1) n b.behind in
        no_wrong (sym stop ∙ read)

pub unfinished : (format most : ℕ) (rows : List Record) (lines : List (List ℕ)) (edits : List Update) → merging format most rows lines ≡ reads edits false → IsMergeUnfinished format lines
unfinished format most rows lines edits e = record {
  begins = begins format lines edits false (begun_of format most rows lines edits e);
  no_text = λ now text.
      let more = max most (length (front_rows now rows)) in
      let there = goes_on format most more (omega arith) rows 1 [] edits false false lines e in
      true_false (same_end (sym (text_read format more rows lines now text (omega arith)) ∙ there));
}

-- Too many records.

-- a line has an update that may stand there, and what results up to its key is too much
record FillsBy (most : ℕ) (rows : List Record) (edits : List Update) (ended : Bool) (line : MergeLine) : Type 0 where
  u : Update
  update : edit_of_line line ≡ Some u
  entry : IsEdit line
  not_ended : ended ≡ false
  goes : may_follow edits u ≡ true
  count : most < length (front_rows (edits ++ u ∷ []) rows)

fills_by : (most : ℕ) (rows : List Record) (k : ℕ) (edits : List Update) (ended : Bool) (line : MergeLine) → after_merge_line most rows k edits ended line ≡ full → FillsBy most rows edits ended line
fills_by most rows k edits ended line e = by ended line e
  where
    edit : (u : Update) (line : MergeLine) → edit_of_line line ≡ Some u → IsEdit line → (goes : Bool) → may_follow edits u ≡ goes → (fills : Bool) → nat_lt most (length (front_rows (edits ++ u ∷ []) rows)) ≡ fills
        → cond (not goes) (wrong k) (cond fills full (reads (edits ++ u ∷ []) false)) ≡ full → FillsBy most rows edits false line
    edit u line update entry false goes fills is h = absurd (full_no_wrong (sym h))
    edit u line update entry true goes false is h = absurd (no_full (sym h))
    edit u line update entry true goes true is h = record { u = u; update = update; entry = entry; not_ended = refl; goes = goes; count = lt_of most (length (front_rows (edits ++ u ∷ []) rows)) is }

    end : (is : Bool) → cond is (reads edits true) (wrong k) ≡ full → ⊥
    end true h = no_full (sym h)
    end false h = full_no_wrong (sym h)

    by : (ended : Bool) (line : MergeLine) → after_merge_line most rows k edits ended line ≡ full → FillsBy most rows edits ended line
    by false Nothing h = absurd (no_full (sym h))
    by true Nothing h = absurd (no_full (sym h))
    by false (Bind row) h = let u = bind row.key row.value in edit u (Bind row) refl (record {}) (may_follow edits u) refl (nat_lt most (length (front_rows (edits ++ u ∷ []) rows))) refl h
    by true (Bind row) h = absurd (full_no_wrong (sym h))
    by false (Remove key) h = let u = unbind key in edit u (Remove key) refl (record {}) (may_follow edits u) refl (nat_lt most (length (front_rows (edits ++ u ∷ []) rows))) refl h
    by true (Remove key) h = absurd (full_no_wrong (sym h))
    by false (End n) h = absurd (end (n == length edits) h)
    by true (End n) h = absurd (full_no_wrong (sym h))
    by false Bad h = absurd (full_no_wrong (sym h))
    by true Bad h = absurd (full_no_wrong (sym h))

pub merged_full : (format most : ℕ) (m : Map) (lines : List (List ℕ)) → merging format most (entries m) lines ≡ full → IsMergedFull format most m lines
merged_full format most m lines e =
    let s = stops_at format most (entries m) full (λ edits ended h. no_full h) (stays_put format most (entries m)) 1 [] false lines e in
    let b = fills_by most (entries m) (1 + length s.done) s.now s.now_ended (merge_line_raw format s.raw) s.stops in
    let so : AreEdits format s.done s.now = subst (Reads format s.done s.now) b.not_ended (reads_all format most (entries m) 1 [] [] s.now false s.now_ended s.done (start format) s.reading) in
    let next = taken format s.done s.raw s.now b.u (merge_line_raw format s.raw) refl b.update b.entry b.goes so in
    let whole = front_to lines s.done s.raw s.rest s.lines_are in
    record {
      n = length s.done + 1;
      there = omega (arith, ap length s.lines_are, length-append s.done (s.raw ∷ s.rest));
      begins = subst (BeginsMerge format) (sym whole) (begins format (s.done ++ s.raw ∷ []) (s.now ++ b.u ∷ []) false next);
      many = subst (λ (l : List (List ℕ)). most < length (front_rows (edits_in format l) (entries m))) (sym whole)
          (subst (λ (l : List Update). most < length (front_rows l (entries m))) (sym next.edits_are) b.count);
      full = λ behind edits text. size s behind edits (subst (λ (l : List (List ℕ)). IsMergeText format (l ++ behind) edits) whole text);
    }
  where
    -- a text that is read whole where there is room for it doesn't fill the store at a line
    size : (s : StopsAt format most (entries m) 1 [] false lines full) (behind : List (List ℕ)) (edits : List Update) → IsMergeText format ((s.done ++ s.raw ∷ []) ++ behind) edits → most < len (map_after_edits m edits)
    size s behind edits text =
        elim (cases_lt most (len (map_after_edits m edits))) [
          | inl more ↦ more
          | inr few ↦
              let rows = entries m in
              let all : (s.done ++ s.raw ∷ []) ++ behind ≡ s.done ++ s.raw ∷ behind = append_assoc s.done (s.raw ∷ []) behind in
              let stop : merging format most rows (s.done ++ s.raw ∷ behind) ≡ full =
              merging_append format most rows s.done (s.raw ∷ behind) ∙ ap (λ (x : Merging). merge_from format most rows (1 + length s.done) x (s.raw ∷ behind)) s.reading
              ∙ ap (λ (x : Merging). merge_from format most rows (1 + length s.done + 1) x behind) s.stops ∙ stays_full format most rows (1 + length s.done + 1) behind in
              absurd (no_full (sym stop ∙ ap (merging format most rows) (sym all) ∙ map_read format most m ((s.done ++ s.raw ∷ []) ++ behind) edits text few))
        ]

-- a text after which there are too many comes to that
pub overfull : (format most : ℕ) (m : Map) (lines : List (List ℕ)) (edits : List Update) → IsMergeText format lines edits → most < len (map_after_edits m edits) → IsOverfull format most m lines
overfull format most m lines edits text more = by (merging format most (entries m) lines) refl
  where
    by : (s : Merging) → merging format most (entries m) lines ≡ s → IsOverfull format most m lines
    by full is = inl is
    by (reads now ended) is =
        let rows = entries m in
        let room = max most (length (front_rows edits rows)) in
        let read = text_read format room rows lines edits text (omega arith) in
        let there = goes_on format most room (omega arith) rows 1 [] now false ended lines is in
        let same = sym there ∙ read in
        inr (edits, is ∙ ap (λ (l : List Update). reads l ended) (same_edits same) ∙ ap (reads edits) (same_end same), more)
    by (wrong n) is =
        let first = first_unmerged format most n (entries m) lines is in
        absurd (first.wrong (record { behind = drop n lines; edits = edits; text = subst (λ (l : List (List ℕ)). IsMergeText format l edits) (sym (take-append-drop n lines)) text }))
