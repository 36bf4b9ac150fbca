-- What the reader has found while it looks for the end of a line.
use Rattle.std.proofs.Common.{◌≡◌, ◌≢◌, ℕ, zero, suc, ◌+◌, ◌<◌, ◌≤◌, Bool, true, false, nat_eq, ne_eqb, cond, List, [], ◌∷◌, ◌++◌, length, take, refl, sym, ap, subst, ◌∙◌, arith, append_assoc, length-append}
use Rattle.std.proofs.lemmas.List.{append-nil, take_at}
use Rattle.std.proofs.lemmas.List.Elements.{All-append, All-nil}
use Rattle.line_source.specs.Lines.{NoFeed, line_limit}
use Rattle.line_source.specs.SourceView.{SourceView, SourceTold, TookFront, Went}
use Rattle.line_source.specs.LineReaderView.{ReaderView, rest, IsFirstFeed}
use Rattle.line_source.specs.LineStep.{IsCut}
use Rattle.line_source.specs.Filling.{IsPiece, a_piece, no_piece, HasTaken, IsKept, LetsGo, drops, keeps}

-- the call began at r0 and s0, let go of the front of a long line, and stands now at r and s
pub record Reading (r0 : ReaderView) (s0 : SourceView) (long : Bool) (r : ReaderView) (s : SourceView) : Type 0 where
  pub dropped : List ℕ
  pub no_feed : NoFeed dropped
  pub is_long : long ≡ true → line_limit < length dropped
  pub is_whole : long ≡ false → dropped ≡ []
  pub rest_is : SourceTold s0 → rest r0 s0 ≡ dropped ++ rest r s
  pub fresh : r.done ≡ false
  pub went : Went s0 s
  pub room : r.room ≤ r0.room
  pub taken : SourceTold s0 → length s0.left + r.room ≡ length s.left + r0.room
  pub front : SourceTold s0 → TookFront s0 s
  pub total : r0.room + length r0.held ≡ length dropped + (r.room + length r.held)
  pub idle : (at : ℕ) → IsFirstFeed r0.held at → (s ≡ s0) × (r.held ≡ r0.held)
  pub ended : r0.ended ≡ true → (s ≡ s0) × (r.ended ≡ true)
  pub met : r0.ended ≡ false → r.ended ≡ true → SourceTold s0 → (s.left ≡ []) × (0 < r.room)

-- of what is held, that many bytes are known to be no line feed
pub record Looking (r0 : ReaderView) (s0 : SourceView) (long : Bool) (seen : ℕ) (r : ReaderView) (s : SourceView) : Type 0 where
  pub here : Reading r0 s0 long r s
  pub within : seen ≤ length r.held
  pub none : NoFeed (take seen r.held)

-- none of what is held is a line feed, and more may come
pub record Ready (r0 : ReaderView) (s0 : SourceView) (long : Bool) (r : ReaderView) (s : SourceView) : Type 0 where
  pub here : Reading r0 s0 long r s
  pub none : NoFeed r.held
  pub more : r.ended ≡ false

pub ready_is : (r0 : ReaderView) (s0 : SourceView) (long : Bool) (seen : ℕ) (r : ReaderView) (s : SourceView) → Looking r0 s0 long seen r s → NoFeed r.held → r.ended ≡ false → Ready r0 s0 long r s
ready_is r0 s0 long seen r s looking none more = record { here = looking.here; none = none; more = more }

true_false : true ≡ false → ⊥
true_false e = cc

pub rest-open : (r : ReaderView) (s : SourceView) → r.ended ≡ false → rest r s ≡ r.held ++ s.left
rest-open r s e = ap (λ b. cond b r.held (r.held ++ s.left)) e

pub rest-ended : (r : ReaderView) (s : SourceView) → r.ended ≡ true → rest r s ≡ r.held
rest-ended r s e = ap (λ b. cond b r.held (r.held ++ s.left)) e

pub went_on : (a b c : SourceView) → Went a b → Went b c → Went a c
went_on a b c p q = record { tells = q.tells ∙ p.tells; faults = omega (arith, p.faults, q.faults) }

-- nothing was taken
pub took_none : (s : SourceView) → TookFront s s
took_none s = record { front = []; is = refl }

-- a front, and a front of the rest
pub took_on : (a b c : SourceView) → TookFront a b → TookFront b c → TookFront a c
took_on a b c p q = record { front = p.front ++ q.front; is = p.is ∙ ap (λ (l : List ℕ). p.front ++ l) q.is ∙ sym (append_assoc p.front q.front c.left) }

-- a front, and then nothing more
pub took_same : (a b c : SourceView) → TookFront a b → c.left ≡ b.left → TookFront a c
took_same a b c p same = record { front = p.front; is = p.is ∙ ap (λ (l : List ℕ). p.front ++ l) (sym same) }

reading_starts : (r : ReaderView) (s : SourceView) → r.done ≡ false → Reading r s false r s
reading_starts r s fresh = record {
  dropped = [];
  no_feed = All-nil (λ b. b ≢ 10);
  is_long = λ e. absurd (true_false (sym e));
  is_whole = λ _. refl;
  rest_is = λ _. refl;
  fresh = fresh;
  went = record { tells = refl; faults = omega arith };
  room = omega arith;
  taken = λ _. refl;
  front = λ _. took_none s;
  total = omega arith;
  idle = λ _ _. (refl, refl);
  ended = λ e. (refl, e);
  met = λ e f. absurd (true_false (sym f ∙ e));
}

pub looking_starts : (r : ReaderView) (s : SourceView) → r.done ≡ false → Looking r s false 0 r s
looking_starts r s fresh = record { here = reading_starts r s fresh; within = omega arith; none = All-nil (λ b. b ≢ 10) }

-- a line feed isn't where none is
feed_none : (bytes : List ℕ) (at : ℕ) → IsFirstFeed bytes at → NoFeed bytes → ⊥
feed_none bytes at feed none = none at 0 feed.within feed.is

module _ (r0 : ReaderView) (s0 : SourceView) (long : Bool) (r : ReaderView) (s : SourceView) (ready : Ready r0 s0 long r s) where
  -- so a call that held a line at its start isn't here, nor one that had seen the end
  no_line : (at : ℕ) → IsFirstFeed r0.held at → ⊥
  no_line at feed = feed_none r0.held at feed (subst NoFeed (ready.here.idle at feed).1 ready.none)

  was_open : r0.ended ≡ true → ⊥
  was_open e = true_false (sym (ready.here.ended e).1 ∙ ready.more)

  told_here : SourceTold s0 → SourceTold s
  told_here told = ready.here.went.tells ∙ told

  -- a front of more bytes than a line may have is let go
  dropping : (r1 : ReaderView) → line_limit < length r.held → r1.held ≡ [] → IsKept r r1 → Ready r0 s0 true r1 s
  dropping r1 big gone kept =
      let here = ready.here in
      record {
        here = record {
          dropped = here.dropped ++ r.held;
          no_feed = All-append (λ b. b ≢ 10) here.dropped r.held here.no_feed ready.none;
          is_long = λ _. omega (arith, length-append here.dropped r.held);
          is_whole = λ e. absurd (true_false e);
          rest_is = λ told. here.rest_is told ∙ ap (λ (l : List ℕ). here.dropped ++ l) (rest-open r s ready.more) ∙ sym (append_assoc here.dropped r.held s.left) ∙ ap (λ (l : List ℕ). (here.dropped ++ r.held) ++ l) (sym (rest-open r1 s (kept.ended ∙ ready.more) ∙ ap (λ (l : List ℕ). l ++ s.left) gone));
          fresh = kept.done ∙ here.fresh;
          went = here.went;
          room = omega (arith, kept.room, here.room);
          taken = λ told. ap (λ (n : ℕ). length s0.left + n) kept.room ∙ here.taken told;
          front = here.front;
          total = omega (arith, here.total, length-append here.dropped r.held, kept.room, ap length gone);
          idle = λ at feed. absurd (no_line at feed);
          ended = λ e. absurd (was_open e);
          met = λ _ e. absurd (true_false (sym e ∙ kept.ended ∙ ready.more));
        };
        none = subst NoFeed (sym gone) (All-nil (λ b. b ≢ 10));
        more = kept.ended ∙ ready.more;
      }

  pub let_go : (is : Bool) (r1 : ReaderView) → LetsGo long is r r1 → IsKept r r1 → Ready r0 s0 is r1 s
  let_go is r1 (drops e big gone) kept = subst (λ b. Ready r0 s0 b r1 s) (sym e) (dropping r1 big gone kept)
  let_go is r1 (keeps e same) kept = subst (λ b. Ready r0 s0 b r1 s) (sym e) (subst (λ x. Ready r0 s0 long x s) (sym same) ready)

  -- what is to be given stays where a piece is put behind what is held, or the end is met
  rest_after : (r1 : ReaderView) (s1 : SourceView) (piece : List ℕ) → IsPiece piece r1.ended s s1 → r1.held ≡ r.held ++ piece → s.left ≡ piece ++ s1.left → SourceTold s → rest r s ≡ rest r1 s1
  rest_after r1 s1 piece (a_piece more open_is) held left told =
      rest-open r s ready.more ∙ ap (λ (l : List ℕ). r.held ++ l) left ∙ sym (append_assoc r.held piece s1.left) ∙ ap (λ (l : List ℕ). l ++ s1.left) (sym held) ∙ sym (rest-open r1 s1 open_is)
  rest_after r1 s1 piece (no_piece nothing ended end) held left told =
      rest-open r s ready.more ∙ ap (λ (l : List ℕ). r.held ++ l) (left ∙ ap (λ (l : List ℕ). piece ++ l) (end told) ∙ append-nil piece) ∙ sym held ∙ sym (rest-ended r1 s1 ended)

  end_after : (r1 : ReaderView) (s1 : SourceView) (piece : List ℕ) → IsPiece piece r1.ended s s1 → 0 < r.room → r1.room + length piece ≡ r.room → r1.ended ≡ true → SourceTold s → (s1.left ≡ []) × (0 < r1.room)
  end_after r1 s1 piece (a_piece more open_is) room counts e told = absurd (true_false (sym e ∙ open_is))
  end_after r1 s1 piece (no_piece nothing ended end) room counts e told = (end told, omega (arith, room, counts, ap length nothing))

  -- a piece was taken, or the end was met
  pub fill : (r1 : ReaderView) (s1 : SourceView) (seen : ℕ) → seen ≡ length r.held → 0 < r.room → HasTaken r s r1 s1 → Went s s1 → r1.done ≡ r.done → Looking r0 s0 long seen r1 s1
  fill r1 s1 seen all room took went done =
      let here = ready.here in
      record {
        here = record {
          dropped = here.dropped;
          no_feed = here.no_feed;
          is_long = here.is_long;
          is_whole = here.is_whole;
          rest_is = λ told. here.rest_is told ∙ ap (λ (l : List ℕ). here.dropped ++ l) (rest_after r1 s1 took.piece took.kind took.held (took.left (told_here told)) (told_here told));
          fresh = done ∙ here.fresh;
          went = went_on s0 s s1 here.went went;
          room = omega (arith, took.room, here.room);
          taken = λ told. omega (arith, here.taken told, took.room, ap length (took.left (told_here told)), length-append took.piece s1.left);
          front = λ told. took_on s0 s s1 (here.front told) (record { front = took.piece; is = took.left (told_here told) });
          total = omega (arith, here.total, took.room, ap length took.held, length-append r.held took.piece);
          idle = λ at feed. absurd (no_line at feed);
          ended = λ e. absurd (was_open e);
          met = λ _ e told. end_after r1 s1 took.piece took.kind room took.room e (told_here told);
        };
        within = omega (arith, all, ap length took.held, length-append r.held took.piece);
        none = subst NoFeed (sym (ap (take seen) took.held ∙ take_at r.held took.piece seen (sym all))) ready.none;
      }

  -- a part of a line was taken, and no more comes
  pub is_cut : (s1 : SourceView) → (SourceTold s → s1.left ≡ s.left) → SourceTold s0 → IsCut (rest r0 s0) s1.left
  is_cut s1 same told =
      let here = ready.here in
      record {
        part = here.dropped ++ r.held;
        no_feed = All-append (λ b. b ≢ 10) here.dropped r.held here.no_feed ready.none;
        is = here.rest_is told ∙ ap (λ (l : List ℕ). here.dropped ++ l) (rest-open r s ready.more ∙ ap (λ (l : List ℕ). r.held ++ l) (sym (same (told_here told)))) ∙ sym (append_assoc here.dropped r.held s1.left);
      }

-- what a call that took n bytes for its piece says of it
pub piece_kind : (piece : List ℕ) (n : ℕ) (before after : SourceView) → length piece ≡ n → (n ≡ 0 → SourceTold before → after.left ≡ []) → IsPiece piece (nat_eq n 0) before after
piece_kind [] zero before after size end = no_piece refl refl (end refl)
piece_kind [] (suc n) before after size end = absurd (omega arith)
piece_kind (b ∷ piece) zero before after size end = absurd (omega arith)
piece_kind (b ∷ piece) (suc n) before after size end = a_piece (omega arith) (ne_eqb (suc n) 0 (λ e. omega arith))
