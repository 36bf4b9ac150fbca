-- A script is read one line at a time.
use Rattle.std.proofs.Common.{◌≡◌, ℕ, ◌+◌, ◌<◌, ◌≤◌, ◌⊎◌, inl, inr, Bool, true, false, List, [], ◌∷◌, ◌++◌, length, refl, sym, ap, ◌∙◌, arith, append_assoc}
use Rattle.std.proofs.lemmas.List.{append-nil}
use Rattle.line_source.specs.Lines.{NoFeed, raw_lines, complete_lines}
use Rattle.line_source.specs.SourceView.{SourceView, SourceTold, Went, SourceRose}
use Rattle.line_source.specs.LineReaderView.{ReaderView, rest}
use Rattle.line_source.specs.LineStep.{IsNext, IsCut, Gives, Tells, is_last, Takes}
use Rattle.line_source.specs.Progress.{BeginsWith, HasGiven, IsLineOf, GivesOne, IsCutShort, GivesAll}
use Rattle.line_source.specs.declared.reader.LineStep.{LineStep}
use Rattle.line_source.specs.declared.reader.LineStep.TheVariants.{Line, LongLine, End, ReadFailed, Spent}
use Rattle.line_source.proofs.LineLaws.{complete_lines-line, complete_lines-part}
use Rattle.line_source.proofs.Reading.{went_on, took_none, took_on}

true_false : true ≡ false → ⊥
true_false e = cc

-- a count that rose in a later call rose in all
pub rose_on : (a b c : SourceView) → Went a b → SourceRose b c → SourceRose a c
rose_on a b c went rose = omega (arith, went.faults, rose)

-- what the answer of a later call says of all of them
pub means_on : (step : LineStep) (r : ReaderView) (a b c : SourceView) → Went a b → Tells step r b c → Tells step r a c
means_on Line r a b c went means = means
means_on LongLine r a b c went means = means
means_on End r a b c went means = means
means_on ReadFailed r a b c went means = (means.0, means.1, rose_on a b c went means.2)
means_on Spent r a b c went means = means

-- at the start nothing was given
pub given-none : (r : ReaderView) (s : SourceView) → r.done ≡ false → HasGiven r s [] r s
given-none r s fresh = record {
  fresh = fresh;
  room = omega arith;
  went = record { tells = refl; faults = omega arith };
  ended = λ e. e;
  lines = λ _. refl;
  begins = λ _ _. record { front = []; is = refl; complete = λ tail. refl };
  taken = λ _. refl;
  front = λ _. took_none s;
  met = λ _ e f. absurd (true_false (sym f ∙ e));
}

-- one complete line more in front
begins_with_more : (script old raw new : List ℕ) (lines : List (List ℕ)) → BeginsWith script old lines → NoFeed raw → old ≡ raw ++ 10 ∷ new → BeginsWith script new (lines ++ raw ∷ [])
begins_with_more script old raw new lines begins none is = record {
  front = begins.front ++ (raw ++ 10 ∷ []);
  is = begins.is ∙ ap (λ (l : List ℕ). begins.front ++ l) (is ∙ sym (append_assoc raw (10 ∷ []) new)) ∙ sym (append_assoc begins.front (raw ++ 10 ∷ []) new);
  complete = λ tail. ap complete_lines (append_assoc begins.front (raw ++ 10 ∷ []) tail ∙ ap (λ (l : List ℕ). begins.front ++ l) (append_assoc raw (10 ∷ []) tail)) ∙ begins.complete (raw ++ 10 ∷ tail) ∙ ap (λ (l : List (List ℕ)). lines ++ l) (complete_lines-line raw tail none) ∙ sym (append_assoc lines (raw ∷ []) (complete_lines tail));
}

-- a line and what the answer says of it
record IsGivenLine (step : LineStep) (old raw new line : List ℕ) (ended : Bool) : Type 0 where
  next : IsNext old raw new ended
  line_is : IsLineOf step raw line

line_of : (step : LineStep) (old : List ℕ) (r : ReaderView) (s : SourceView) → is_last step ≡ false → Gives step old r s → (raw : List ℕ) × IsGivenLine step old raw (rest r s) r.line r.ended
line_of Line old r s e gives = (gives.raw, record { next = gives.next; line_is = (gives.short, gives.line) })
line_of LongLine old r s e gives = (gives.raw, record { next = gives.next; line_is = gives.long })
line_of End old r s e gives = absurd (true_false e)
line_of ReadFailed old r s e gives = absurd (true_false e)
line_of Spent old r s e gives = absurd (true_false e)

-- a source that doesn't tell gives some line or other
where_told : (tells : Bool) (P : List ℕ → Type 0) → (tells ≡ true → (raw : List ℕ) × P raw) → (raw : List ℕ) × (tells ≡ true → P raw)
where_told true P f = ((f refl).0, λ _. (f refl).1)
where_told false P f = ([], λ e. absurd (true_false (sym e)))

open_before : (old new : Bool) → (old ≡ true → new ≡ true) → new ≡ false → old ≡ false
open_before true new stays e = absurd (true_false (sym (stays refl) ∙ e))
open_before false new stays e = refl

module _ (r0 : ReaderView) (s0 : SourceView) (given : List (List ℕ)) (r : ReaderView) (s : SourceView) (here : HasGiven r0 s0 given r s) (step : LineStep) (r1 : ReaderView) (s1 : SourceView) (gives : SourceTold s → Gives step (rest r s) r1 s1) (takes : SourceTold s → Takes r s r1 s1) (stays : r.ended ≡ true → (r1.ended ≡ true) × (s1 ≡ s)) where
  told_here : SourceTold s0 → SourceTold s
  told_here told = here.went.tells ∙ told

  taken_now : SourceTold s0 → length s0.left + r1.room ≡ length s1.left + r0.room
  taken_now told = omega (arith, here.taken told, (takes (told_here told)).count)

  -- the end is met with fewer bytes than may be taken
  met_now : SourceTold s0 → r0.ended ≡ false → r1.ended ≡ true → (s1.left ≡ []) × (length s0.left < r0.room)
  met_now told more ended = by r.ended refl
    where
      by : (b : Bool) → r.ended ≡ b → (s1.left ≡ []) × (length s0.left < r0.room)
      by true e = let met = here.met told more e in (ap (λ (x : SourceView). x.left) (stays e).1 ∙ met.0, met.1)
      by false e =
          let end = (takes (told_here told)).end e ended in
          (end.0, omega (arith, taken_now told, ap length end.0, end.1))

  -- a line was given
  pub given-more : is_last step ≡ false → r1.done ≡ is_last step → r1.room ≤ r.room → Went s s1 → GivesOne r0 s0 given step r1 s1
  given-more e done room went =
      let found = where_told s.tells (λ raw. IsGivenLine step (rest r s) raw (rest r1 s1) r1.line r1.ended) (λ told. line_of step (rest r s) r1 s1 e (gives told)) in
      record {
        raw = found.0;
        line = λ told. (found.1 (told_here told)).line_is;
        more = record {
          fresh = done ∙ e;
          room = omega (arith, here.room, room);
          went = went_on s0 s s1 here.went went;
          ended = λ e. (stays (here.ended e)).0;
          lines = λ told. here.lines told ∙ ap (λ (l : List (List ℕ)). given ++ l) (found.1 (told_here told)).next.lines ∙ sym (append_assoc given (found.0 ∷ []) (raw_lines (rest r1 s1)));
          begins = λ told more. by_split found.0 (found.1 (told_here told)).next told more;
          taken = taken_now;
          front = λ told. took_on s0 s s1 (here.front told) (takes (told_here told)).front;
          met = met_now;
        };
      }
    where
      by_split : (raw : List ℕ) → IsNext (rest r s) raw (rest r1 s1) r1.ended → SourceTold s0 → r1.ended ≡ false → BeginsWith (rest r0 s0) (rest r1 s1) (given ++ raw ∷ [])
      by_split raw next told more = by next.split
        where
          before : r.ended ≡ false
          before = open_before r.ended r1.ended (λ ended. (stays ended).0) more

          by : (rest r s ≡ raw ++ 10 ∷ rest r1 s1) ⊎ ((rest r s ≡ raw) × (rest r1 s1 ≡ []) × (r1.ended ≡ true)) → BeginsWith (rest r0 s0) (rest r1 s1) (given ++ raw ∷ [])
          by (inl is) = begins_with_more (rest r0 s0) (rest r s) raw (rest r1 s1) given (here.begins told before) next.no_feed is
          by (inr is) = absurd (true_false (sym is.2 ∙ more))

  -- a part of a line was taken, and no more comes
  cut_short : SourceTold s0 → r1.ended ≡ false → IsCut (rest r s) s1.left → IsCutShort (rest r0 s0) s1.left given
  cut_short told more cut =
      let begins = here.begins told (open_before r.ended r1.ended (λ ended. (stays ended).0) more) in
      record {
        taken = begins.front ++ cut.part;
        is = begins.is ∙ ap (λ (l : List ℕ). begins.front ++ l) cut.is ∙ sym (append_assoc begins.front cut.part s1.left);
        complete = begins.complete cut.part ∙ ap (λ (l : List (List ℕ)). given ++ l) (complete_lines-part cut.part cut.no_feed) ∙ append-nil given;
      }

  -- a last answer
  pub given-all : is_last step ≡ true → Tells step r1 s s1 → SourceTold s0 → GivesAll step r0 s0 given s1
  given-all e means told = by step e means (gives (told_here told))
    where
      by : (which : LineStep) → is_last which ≡ true → Tells which r1 s s1 → Gives which (rest r s) r1 s1 → GivesAll which r0 s0 given s1
      by Line e means gives = absurd (true_false (sym e))
      by LongLine e means gives = absurd (true_false (sym e))
      by End e means gives = (here.lines told ∙ ap (λ (l : List ℕ). given ++ raw_lines l) gives.before ∙ append-nil given, λ more. met_now told more means.1)
      by ReadFailed e means gives = cut_short told means.1 gives
      by Spent e means gives = (cut_short told means.1 gives, omega (arith, taken_now told, means.2))
