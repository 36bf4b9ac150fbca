-- Which refusal of a text is due: a line is refused only where no record too many comes before it, and no refusal is due of lines
-- with which reading goes on.
use Rattle.std.proofs.Common.{◌≡◌, inl, inr, ℕ, zero, suc, ◌-◌, ◌^◌, ◌<◌, ◌≤◌, Bool, true, false, List, [], ◌∷◌, ◌++◌, length, take, drop, All, Option, Some, None, refl, sym, ap, subst, ◌∙◌, arith, append_assoc}
use Rattle.std.specs.List.{cons_option}
use Rattle.std.proofs.lemmas.Bool.{cases_lt}
use Rattle.std.proofs.lemmas.List.{append-nil, take_at}
use Rattle.std.proofs.lemmas.List.Elements.{filter_map-append}
use Rattle.key_slot.specs.Record.{Record}
use Rattle.command_text.specs.Load.{load_line_raw}
use Rattle.command_text.specs.declared.load.LoadLine.{LoadLine}
use Rattle.command_text.specs.declared.load.LoadLine.TheVariants.{Nothing}
use Rattle.bulk_load.specs.LoadText.{BeginsText, IsLoadText, IsOneTooMany, IsRefusedAt, MayGoOn, record_of_line, records_in}
use Rattle.bulk_load.specs.LoadLines.{IsWrongLine, loading, reads}
use Rattle.bulk_load.proofs.TextFaults.{begins, few_rows, first_wrong, stops_at, unfinished}
use Rattle.bulk_load.proofs.TextLaws.{entries_of, reads_all, start, text_of}

-- The records of lines that were read.

records_none : (format : ℕ) (lines : List (List ℕ)) → All (λ raw. load_line_raw format raw ≡ Nothing) lines → records_in format lines ≡ []
records_none format [] all = refl
records_none format (raw ∷ lines) all =
    ap (λ (l : LoadLine). cons_option (record_of_line l) (records_in format lines)) (all 0 [] (omega arith)) ∙ records_none format lines (λ k d lt. all (suc k) d (omega (arith, lt)))

text_records : (format : ℕ) (lines : List (List ℕ)) (rows : List Record) → IsLoadText format lines rows → records_in format lines ≡ rows
text_records format lines rows text =
    ap (records_in format) text.lines_are ∙ filter_map-append (λ raw. record_of_line (load_line_raw format raw)) text.front (text.last ∷ text.behind)
    ∙ ap (λ (l : LoadLine). records_in format text.front ++ cons_option (record_of_line l) (records_in format text.behind)) text.end_is
    ∙ ap (λ (rs : List Record). records_in format text.front ++ rs) (records_none format text.behind text.behind_is) ∙ append-nil (records_in format text.front) ∙ text.rows_are

records_are : (format most : ℕ) (lines : List (List ℕ)) (rows : List Record) (ended : Bool) → loading format most lines ≡ reads rows ended → records_in format lines ≡ rows
records_are format most lines rows true e = text_records format lines rows (text_of format most lines rows e)
records_are format most lines rows false e = (entries_of format most lines rows e).rows_are

records_few : (format most : ℕ) (lines : List (List ℕ)) (rows : List Record) (ended : Bool) → loading format most lines ≡ reads rows ended → length (records_in format lines) ≤ most
records_few format most lines rows ended e = omega (arith, ap (λ (rs : List Record). length rs) (records_are format most lines rows ended e), few_rows format most lines rows ended e)

-- no refusal is due of lines with which reading goes on
pub goes_on : (format most : ℕ) (lines : List (List ℕ)) (rows : List Record) (ended : Bool) → most < 2 ^ 32 → loading format most lines ≡ reads rows ended → MayGoOn format most lines
goes_on format most lines rows ended small e = record {
  begins = begins format most lines rows ended small (few_rows format most lines rows ended e) (reads_all format most 1 [] [] rows false ended lines (start format) e);
  few = records_few format most lines rows ended e;
}

-- a line is refused where it is wrong
pub refused_at : (format most n : ℕ) (lines : List (List ℕ)) → most < 2 ^ 32 → IsWrongLine format most lines n → IsRefusedAt format most lines n
refused_at format most n lines small (inl e) =
    let s = stops_at format most 1 n [] false lines e in
    let front : take (n - 1) lines ≡ s.done = ap (take (n - 1)) s.lines_are ∙ take_at s.done (s.raw ∷ s.rest) (n - 1) (omega (arith, s.number)) in
    record {
      why = inl (first_wrong format most lines n small e);
      few = omega (arith, ap (λ (l : List (List ℕ)). length (records_in format l)) front, records_few format most s.done s.now s.now_ended s.reading);
    }
refused_at format most n lines small (inr e) =
    let front : take (n - 1) lines ≡ lines = ap (take (n - 1)) (sym (append-nil lines)) ∙ take_at lines [] (n - 1) (omega (arith, e.2)) in
    record {
      why = inr (unfinished format most lines e.0 small e.1, e.2);
      few = omega (arith, ap (λ (l : List (List ℕ)). length (records_in format l)) front, records_few format most lines e.0 false e.1);
    }

-- Fronts of lines.

more_records : (o : Option Record) (xs ys : List Record) → length xs ≤ length ys → length (cons_option o xs) ≤ length (cons_option o ys)
more_records None xs ys le = le
more_records (Some r) xs ys le = omega (arith, le)

records_rise : (format k j : ℕ) (lines : List (List ℕ)) → k ≤ j → length (records_in format (take k lines)) ≤ length (records_in format (take j lines))
records_rise format zero j lines le = omega arith
records_rise format (suc k) zero lines le = absurd (omega (arith, le))
records_rise format (suc k) (suc j) [] le = omega arith
records_rise format (suc k) (suc j) (raw ∷ lines) le =
    more_records (record_of_line (load_line_raw format raw)) (records_in format (take k lines)) (records_in format (take j lines)) (records_rise format k j lines (omega (arith, le)))

pub front_of : (n k : ℕ) (lines : List (List ℕ)) → n ≤ k → take k lines ≡ take n lines ++ drop n (take k lines)
front_of zero k lines le = refl
front_of (suc n) zero lines le = absurd (omega (arith, le))
front_of (suc n) (suc k) [] le = refl
front_of (suc n) (suc k) (raw ∷ lines) le = ap (λ (l : List (List ℕ)). raw ∷ l) (front_of n k lines (omega (arith, le)))

-- what begins a text has fronts that do
begins_front : (format : ℕ) (front more : List (List ℕ)) → BeginsText format (front ++ more) → BeginsText format front
begins_front format front more b = record { behind = more ++ b.behind; rows = b.rows; text = subst (λ (l : List (List ℕ)). IsLoadText format l b.rows) (append_assoc front more b.behind) b.text }

-- no line is refused where a record too many comes before it, and none too many where a line before it is refused
pub exclude : (format most n : ℕ) (lines : List (List ℕ)) → IsRefusedAt format most lines n → IsOneTooMany format most lines → ⊥
exclude format most n lines refused many = elim refused.why [
  | inl first ↦ elim (cases_lt many.n n) [
    | inl before ↦ more_before (omega (arith, before))
    | inr behind ↦ first.wrong (begins_front format (take n lines) (drop n (take many.n lines)) (subst (BeginsText format) (front_of n many.n lines behind) many.begins))
  ]
  | inr end ↦ more_before (omega (arith, many.there, end.1))
]
  where
    more_before : many.n ≤ n - 1 → ⊥
    more_before le = omega (arith, refused.few, many.records, records_rise format many.n (n - 1) lines le)
