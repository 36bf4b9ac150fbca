-- Text that is said in buffers, between which segments are read.
use Rattle.std.proofs.Common.{◌≡◌, ℕ, ◌+◌, ◌≤◌, List, [], ◌∷◌, ◌++◌, length, take, refl, sym, ◌∙◌, ap, subst, arith, append_assoc, length-append}
use Rattle.std.proofs.lemmas.List.{append-nil, take-append-le}
use Rattle.std.proofs.Math.Seq.{take-append-add}
use Rattle.station.specs.Bytes.{Same}
use Rattle.station.specs.View.{View, SaidTold, Honest, Lawful}
use Rattle.station.specs.Steps.{Steps, Says}
use Rattle.station.proofs.Sayings.{run_of_steps, run_of_says, run_on}
use Rattle.key_slot.specs.Record.{Record}
use Rattle.command_text.specs.Answers.{row_line}
use Rattle.command_text.specs.Reply.{reply_text}
use Rattle.pma_engine.specs.Ranging.{IsFront, SaysFront, SaysWhole, row_text}
use Rattle.pma_engine.specs.Headline.{IsPartSaid}
use Rattle.pma_engine.proofs.StoreLaws.{left_same, left_says}

-- The lists.

front_in : (n : ℕ) (l more : List ℕ) → n ≤ length l → take n (l ++ more) ≡ take n l
front_in n l more within = take-append-le n l more within

past : (l more : List ℕ) (n : ℕ) → take (length l + n) (l ++ more) ≡ l ++ take n more
past l more n = take-append-add l more n

-- the text of joined records
pub row_text-append : (rows more : List Record) → row_text (rows ++ more) ≡ row_text rows ++ row_text more
row_text-append [] more = refl
row_text-append (r ∷ rows) more = ap (λ (l : List ℕ). reply_text (row_line r) ++ l) (row_text-append rows more) ∙ sym (append_assoc (reply_text (row_line r)) (row_text rows) (row_text more))

-- a front of a text is one of a longer text
pub front_of_more : {left : List ℕ → Type 0} {said_before text image said : List ℕ} (more : List ℕ) → IsFront left said_before text image said → IsFront left said_before (text ++ more) image said
front_of_more {left} {said_before} {text} {image} {said} more front = record {
  count = front.count;
  within = omega (arith, front.within, length-append text more);
  said_is = front.said_is ∙ ap (λ (l : List ℕ). said_before ++ l) (sym (front_in front.count text more front.within));
  is_left = front.is_left;
}

-- a part of a text, behind another that was said
pub part_behind : (text more said_before said_now said : List ℕ) → said_now ≡ said_before ++ text → IsPartSaid more said_now said → IsPartSaid (text ++ more) said_before said
part_behind text more said_before said_now said now part = (
  length text + part.0,
  omega (arith, part.1, length-append text more),
  part.2 ∙ ap (λ (l : List ℕ). l ++ take part.0 more) now ∙ append_assoc said_before text (take part.0 more) ∙ ap (λ (l : List ℕ). said_before ++ l) (sym (past text more part.0)),
)

-- Buffers.

-- a read says nothing
pub buffers_read : {a b : View} → Steps Same a b → SaysWhole [] a b
buffers_read {a} {b} steps = record {
  front = record {
    run = run_of_steps (IsFront a.may_leave a.said []) steps (λ honest start image left same. record { count = 0; within = omega arith; said_is = sym (append-nil a.said); is_left = subst a.may_leave (sym same) left });
    said = λ told. (0, omega arith, steps.frame.said ∙ sym (append-nil a.said));
    held = steps.held;
  };
  said = λ told. steps.frame.said ∙ sym (append-nil a.said);
  left = left_same steps;
}

-- a saying says a front of its text
pub buffer_front : {a b : View} {text : List ℕ} → Says text a b → SaysFront text a b
buffer_front {a} {b} {text} says = record {
  run = run_of_says (IsFront a.may_leave a.said text) says (λ honest image n left within. record { count = n; within = within; said_is = refl; is_left = left });
  said = says.taken;
  held = λ told. says.held;
}

-- or the whole
pub buffer_whole : {a b : View} {text : List ℕ} → Says text a b → (SaidTold a → b.said ≡ a.said ++ text) → SaysWhole text a b
buffer_whole says all = record { front = buffer_front says; said = all; left = left_says says }

module _ {a b : View} (law : Lawful a) (text more : List ℕ) (ab : SaysWhole text a b) where
  -- a front of a further text
  further : {image said : List ℕ} → Honest a → IsFront b.may_leave b.said more image said → IsFront a.may_leave a.said (text ++ more) image said
  further {image} {said} honest front = record {
    count = length text + front.count;
    within = omega (arith, front.within, length-append text more);
    said_is =
        front.said_is ∙ ap (λ (l : List ℕ). l ++ take front.count more) (ab.said (law.tells honest).1) ∙ append_assoc a.said text (take front.count more)
        ∙ ap (λ (l : List ℕ). a.said ++ l) (sym (past text more front.count));
    is_left = ab.left (ap (λ f. f.honest) ab.front.run.fixed ∙ honest) image front.is_left;
  }

  pub front_on : {c : View} → SaysFront more b c → SaysFront (text ++ more) a c
  front_on {c} bc = record {
    run = run_on (IsFront a.may_leave a.said (text ++ more)) ab.front.run bc.run (λ honest image said front. front_of_more more front) (λ honest image said front. further honest front);
    said = λ told.
        let taken = bc.said (ap (λ f. f.tells_said) ab.front.run.fixed ∙ told) in (
          length text + taken.0,
          omega (arith, taken.1, length-append text more),
          taken.2 ∙ ap (λ (l : List ℕ). l ++ take taken.0 more) (ab.said told) ∙ append_assoc a.said text (take taken.0 more) ∙ ap (λ (l : List ℕ). a.said ++ l) (sym (past text more taken.0)),
        );
    held = λ told. bc.held (ap (λ f. f.tells_held) ab.front.run.fixed ∙ told) ∙ ab.front.held told;
  }

  pub whole_on : {c : View} → SaysWhole more b c → SaysWhole (text ++ more) a c
  whole_on {c} bc = record {
    front = front_on bc.front;
    said = λ told. bc.said (ap (λ f. f.tells_said) ab.front.run.fixed ∙ told) ∙ ap (λ (l : List ℕ). l ++ more) (ab.said told) ∙ append_assoc a.said text more;
    left = λ honest image may. ab.left (ap (λ f. f.honest) (sym bc.front.run.fixed) ∙ honest) image (bc.left honest image may);
  }
