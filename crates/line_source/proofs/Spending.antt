-- When all the bytes that may be taken are.
use Rattle.std.proofs.Common.{◌≡◌, ℕ, suc, ◌+◌, ◌-◌, inl, Bool, true, false, List, [], ◌∷◌, ◌++◌, length, take, drop, refl, sym, ap, subst, ◌∙◌, arith, append_assoc, length-append}
use Rattle.std.proofs.lemmas.List.{take_at, drop_at, get_or_append_left}
use Rattle.std.proofs.Math.Seq.{take-add}
use Rattle.line_source.specs.Lines.{NoFeed}
use Rattle.line_source.specs.SourceView.{SourceView, SourceTold}
use Rattle.line_source.specs.LineReaderView.{ReaderView, rest, IsFirstFeed}
use Rattle.line_source.specs.LineStep.{IsCut, IsSpent, IsExact}
use Rattle.line_source.specs.Filling.{IsGiven, a_line, a_long_line, GivesLast, the_end, last_line}
use Rattle.line_source.specs.declared.reader.LineStep.{LineStep}
use Rattle.line_source.specs.declared.reader.LineStep.TheVariants.{Line, LongLine, End, Spent}
use Rattle.line_source.proofs.Reading.{Reading, Ready, rest-open, is_cut}

-- a list cut at two places, by lengths
pub front_is : (a b p q : List ℕ) (n : ℕ) → a ++ b ≡ p ++ q → length b ≡ length q + n → p ≡ a ++ take n b
front_is a b p q n same size =
    let long : length p ≡ length a + n = omega (arith, ap length same, length-append a b, length-append p q, size) in
    sym (take_at p q (length p) refl) ∙ ap (take (length p)) (sym same) ∙ ap (λ (k : ℕ). take k (a ++ b)) long ∙ take-add (length a) n (a ++ b) ∙ ap (λ (l : List ℕ). l ++ take n (drop (length a) (a ++ b))) (take_at a b (length a) refl) ∙ ap (λ (l : List ℕ). a ++ take n l) (drop_at a b (length a) refl)

behind : (a b : List ℕ) → NoFeed (a ++ b) → NoFeed b
behind [] b none = none
behind (x ∷ a) b none = behind a b (λ k d lt. none (suc k) d (omega arith))

-- a list without a line feed has none in front
feed_in : (a b : List ℕ) (at : ℕ) → NoFeed (a ++ b) → IsFirstFeed a at → ⊥
feed_in a b at none feed = none at 0 (omega (arith, length-append a b, feed.within)) (get_or_append_left a b 0 at feed.within ∙ feed.is)

true_false : true ≡ false → ⊥
true_false e = cc

open_before : (r0 : ReaderView) (s0 : SourceView) (long : Bool) (r : ReaderView) (s : SourceView) → Ready r0 s0 long r s → r0.ended ≡ false
open_before r0 s0 long r s ready = by r0.ended refl
  where
    by : (b : Bool) → r0.ended ≡ b → r0.ended ≡ false
    by true e = absurd (true_false (sym (ready.here.ended e).1 ∙ ready.more))
    by false e = e

-- all the room was used for a part of a line
spent_by : (r0 : ReaderView) (s0 : SourceView) (r : ReaderView) (s : SourceView) → r0.ended ≡ false → r.room ≡ 0 → IsCut (rest r0 s0) s.left → length s0.left + r.room ≡ length s.left + r0.room → IsSpent r0 s0
spent_by r0 s0 r s more none cut taken = record {
  more = more;
  no_feed = subst NoFeed (front_is r0.held s0.left cut.part s.left r0.room (sym (rest-open r0 s0 more) ∙ cut.is) (omega arith)) cut.no_feed;
  room = omega arith;
}

module _ (r0 : ReaderView) (s0 : SourceView) (long : Bool) (r : ReaderView) (s : SourceView) (here : Reading r0 s0 long r s) (told : SourceTold s0) where
  -- where the room doesn't suffice, the end isn't met
  never_end : IsSpent r0 s0 → r.ended ≡ true → ⊥
  never_end spent e =
      let met = here.met spent.more e told in
      omega (arith, ap length met.0, met.1, here.taken told, spent.room)

  -- nor is a line feed
  never_line : IsSpent r0 s0 → (at : ℕ) → IsFirstFeed r.held at → ⊥
  never_line spent at feed = by_end r.ended refl
    where
      by_end : (b : Bool) → r.ended ≡ b → ⊥
      by_end true e = never_end spent e
      by_end false e =
          let n = r0.room - r.room in
          let more = drop (r0.room - r.room) s0.left in
          let all : r0.held ++ s0.left ≡ (here.dropped ++ r.held) ++ s.left = sym (rest-open r0 s0 spent.more) ∙ here.rest_is told ∙ ap (λ (l : List ℕ). here.dropped ++ l) (rest-open r s e) ∙ sym (append_assoc here.dropped r.held s.left) in
          let front : here.dropped ++ r.held ≡ r0.held ++ take (r0.room - r.room) s0.left = front_is r0.held s0.left (here.dropped ++ r.held) s.left n all (omega (arith, here.taken told, here.room)) in
          let whole : take r0.room s0.left ≡ take (r0.room - r.room) s0.left ++ take r.room (drop (r0.room - r.room) s0.left) = ap (λ (k : ℕ). take k s0.left) {x = r0.room} {y = r0.room - r.room + r.room} (omega (arith, here.room)) ∙ take-add n r.room s0.left in
          let rebuilt : r0.held ++ take r0.room s0.left ≡ here.dropped ++ (r.held ++ take r.room (drop (r0.room - r.room) s0.left)) = ap (λ (l : List ℕ). r0.held ++ l) whole ∙ sym (append_assoc r0.held (take n s0.left) (take r.room more)) ∙ ap (λ (l : List ℕ). l ++ take r.room more) (sym front) ∙ append_assoc here.dropped r.held (take r.room more) in
          feed_in r.held (take r.room more) at (behind here.dropped (r.held ++ take r.room more) (subst NoFeed rebuilt spent.no_feed)) feed

given_step : (step : LineStep) (long : Bool) (raw line : List ℕ) → IsGiven step long raw line → step ≡ Spent → ⊥
given_step step long raw line (a_line is x y z) e = apart (sym is ∙ e)
  where
    apart : Line ≡ Spent → ⊥
    apart q = cc
given_step step long raw line (a_long_line is x y) e = apart (sym is ∙ e)
  where
    apart : LongLine ≡ Spent → ⊥
    apart q = cc

pub exact_line : (r0 : ReaderView) (s0 : SourceView) (long : Bool) (r : ReaderView) (s : SourceView) → Reading r0 s0 long r s → (at : ℕ) → IsFirstFeed r.held at → (step : LineStep) (raw line : List ℕ) → IsGiven step long raw line → SourceTold s0 → IsExact step r0 s0
exact_line r0 s0 long r s here at feed step raw line is told = record {
  only = λ e. absurd (given_step step long raw line is e);
  always = λ spent. absurd (never_line r0 s0 long r s here told spent at feed);
}

pub exact_last : (r0 : ReaderView) (s0 : SourceView) (long : Bool) (r : ReaderView) (s : SourceView) → Reading r0 s0 long r s → r.ended ≡ true → (step : LineStep) (r1 : ReaderView) → GivesLast step long r r1 → SourceTold s0 → IsExact step r0 s0
exact_last r0 s0 long r s here e step r1 last told = record {
  only = λ spent. absurd (other last spent);
  always = λ spent. absurd (never_end r0 s0 long r s here told spent e);
}
  where
    apart : End ≡ Spent → ⊥
    apart q = cc

    other : GivesLast step long r r1 → step ≡ Spent → ⊥
    other (the_end is whole nothing new) spent = apart (sym is ∙ spent)
    other (last_line some gone kept is) spent = given_step step long r.held r1.line is spent

pub exact_spent : (r0 : ReaderView) (s0 : SourceView) (long : Bool) (r : ReaderView) (s : SourceView) → Ready r0 s0 long r s → r.room ≡ 0 → (step : LineStep) → step ≡ Spent → SourceTold s0 → IsExact step r0 s0
exact_spent r0 s0 long r s ready room step is told = record {
  only = λ _. spent_by r0 s0 r s (open_before r0 s0 long r s ready) room (is_cut r0 s0 long r s ready s (λ _. refl) told) (ready.here.taken told);
  always = λ _. inl is;
}
