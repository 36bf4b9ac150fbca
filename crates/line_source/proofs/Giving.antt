-- What an answer gives of what was to be given.
use Rattle.std.proofs.Common.{◌≡◌, ◌≢◌, ℕ, suc, ◌+◌, ◌<◌, ◌⊎◌, inl, inr, Bool, true, false, List, [], ◌∷◌, ◌++◌, length, take, drop, refl, sym, ap, subst, ◌∙◌, arith, append_assoc, length-append}
use Rattle.std.proofs.lemmas.List.{take-append-drop}
use Rattle.std.proofs.Math.Seq.{drop-cons}
use Rattle.std.proofs.lemmas.List.Elements.{All-append}
use Rattle.line_source.specs.Lines.{NoFeed, raw_lines, line_limit}
use Rattle.line_source.specs.SourceView.{SourceView, SourceTold}
use Rattle.line_source.specs.LineReaderView.{ReaderView, rest, IsFirstFeed}
use Rattle.line_source.specs.LineStep.{IsNext, Gives}
use Rattle.line_source.specs.Filling.{IsKept, IsGiven, a_line, a_long_line, GivesLast, the_end, last_line}
use Rattle.line_source.specs.declared.reader.LineStep.{LineStep}
use Rattle.line_source.proofs.LineLaws.{raw_lines-line, raw_lines-last}
use Rattle.line_source.proofs.Reading.{Reading, rest-open, rest-ended}

-- a line with its line feed, and what follows it
next_by : (old raw new : List ℕ) (ended : Bool) → NoFeed raw → old ≡ raw ++ 10 ∷ new → IsNext old raw new ended
next_by old raw new ended none is = record { lines = ap raw_lines is ∙ raw_lines-line raw new none; no_feed = none; split = inl is }

-- a last line without one
last_by : (old raw new : List ℕ) (ended : Bool) → NoFeed raw → 0 < length raw → old ≡ raw → new ≡ [] → ended ≡ true → IsNext old raw new ended
last_by old raw new ended none some is gone met = record { lines = ap raw_lines is ∙ raw_lines-last raw none some ∙ ap (λ (l : List ℕ). raw ∷ raw_lines l) (sym gone); no_feed = none; split = inr (is, gone, met) }

-- the answer, by the line that was found behind what was let go
gives_found : (old : List ℕ) (r1 : ReaderView) (s : SourceView) (step : LineStep) (long : Bool) (dropped found : List ℕ) → (long ≡ true → line_limit < length dropped) → (long ≡ false → dropped ≡ []) → IsNext old (dropped ++ found) (rest r1 s) r1.ended → IsGiven step long found r1.line → Gives step old r1 s
gives_found old r1 s step long dropped found is_long is_whole next (a_line is not_long short line) =
    let whole : dropped ++ found ≡ found = ap (λ (l : List ℕ). l ++ found) (is_whole not_long) in
    subst (λ (x : LineStep). Gives x old r1 s) (sym is) (record { raw = found; next = subst (λ (l : List ℕ). IsNext old l (rest r1 s) r1.ended) whole next; short = short; line = line })
gives_found old r1 s step long dropped found is_long is_whole next (a_long_line is blank (inl known)) =
    subst (λ (x : LineStep). Gives x old r1 s) (sym is) (record { raw = dropped ++ found; next = next; long = omega (arith, length-append dropped found, is_long known) })
gives_found old r1 s step long dropped found is_long is_whole next (a_long_line is blank (inr big)) =
    subst (λ (x : LineStep). Gives x old r1 s) (sym is) (record { raw = dropped ++ found; next = next; long = omega (arith, length-append dropped found) })

module _ (r0 : ReaderView) (s0 : SourceView) (long : Bool) (r : ReaderView) (s : SourceView) (here : Reading r0 s0 long r s) where
  -- a line feed was found
  pub gives_line : (r1 : ReaderView) (step : LineStep) (at : ℕ) → IsFirstFeed r.held at → r1.held ≡ drop (at + 1) r.held → IsKept r r1 → IsGiven step long (take at r.held) r1.line → SourceTold s0 → Gives step (rest r0 s0) r1 s
  gives_line r1 step at feed behind kept is told =
      gives_found (rest r0 s0) r1 s step long here.dropped (take at r.held) here.is_long here.is_whole
      (next_by (rest r0 s0) (here.dropped ++ take at r.held) (rest r1 s) r1.ended (All-append (λ b. b ≢ 10) here.dropped (take at r.held) here.no_feed feed.before) (here.rest_is told ∙ ap (λ (l : List ℕ). here.dropped ++ l) (by_end r.ended refl) ∙ sym (append_assoc here.dropped (take at r.held) (10 ∷ rest r1 s))))
      is
    where
      held_is : r.held ≡ take at r.held ++ 10 ∷ r1.held
      held_is = sym (take-append-drop at r.held) ∙ ap (λ (l : List ℕ). take at r.held ++ l) (drop-cons r.held at 0 feed.within ∙ (λ i. feed.is i ∷ tail i))
        where
          tail : drop (suc at) r.held ≡ r1.held
          tail = ap (λ (n : ℕ). drop n r.held) {x = suc at} {y = at + 1} (omega arith) ∙ sym behind

      by_end : (b : Bool) → r.ended ≡ b → rest r s ≡ take at r.held ++ 10 ∷ rest r1 s
      by_end true e = rest-ended r s e ∙ held_is ∙ ap (λ (l : List ℕ). take at r.held ++ 10 ∷ l) (sym (rest-ended r1 s (kept.ended ∙ e)))
      by_end false e = rest-open r s e ∙ ap (λ (l : List ℕ). l ++ s.left) held_is ∙ append_assoc (take at r.held) (10 ∷ r1.held) s.left ∙ ap (λ (l : List ℕ). take at r.held ++ 10 ∷ l) (sym (rest-open r1 s (kept.ended ∙ e)))

  -- the end was met: a last line, or nothing
  pub gives_last : (r1 : ReaderView) (step : LineStep) → NoFeed r.held → r.ended ≡ true → GivesLast step long r r1 → SourceTold s0 → Gives step (rest r0 s0) r1 s
  gives_last r1 step none e (the_end is whole nothing new) told =
      subst (λ (x : LineStep). Gives x (rest r0 s0) r1 s) (sym is) (record {
        before = here.rest_is told ∙ ap (λ (l : List ℕ). l ++ rest r s) (here.is_whole whole) ∙ rest-ended r s e ∙ nothing;
        after = rest-ended r1 s (ap (λ v. v.ended) new ∙ e) ∙ ap (λ v. v.held) new ∙ nothing;
      })
  gives_last r1 step none e (last_line some gone kept is) told =
      gives_found (rest r0 s0) r1 s step long here.dropped r.held here.is_long here.is_whole
      (last_by (rest r0 s0) (here.dropped ++ r.held) (rest r1 s) r1.ended (All-append (λ b. b ≢ 10) here.dropped r.held here.no_feed none) (positive some) (here.rest_is told ∙ ap (λ (l : List ℕ). here.dropped ++ l) (rest-ended r s e)) (rest-ended r1 s (kept.ended ∙ e) ∙ gone) (kept.ended ∙ e))
      is
    where
      positive : (long ≡ true) ⊎ (0 < length r.held) → 0 < length (here.dropped ++ r.held)
      positive (inl known) = omega (arith, length-append here.dropped r.held, here.is_long known)
      positive (inr some) = omega (arith, length-append here.dropped r.held)
