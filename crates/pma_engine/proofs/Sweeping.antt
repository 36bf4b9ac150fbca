-- All records of a sweep, and then their number, as they are said.
use Rattle.std.proofs.Common.{◌≡◌, ℕ, ◌+◌, ◌-◌, ◌≤◌, List, [], ◌++◌, length, take, drop, Result, Ok, Err, refl, sym, ◌∙◌, ap, subst, arith, append_assoc, length-append}
use Rattle.std.specs.Prelude.{OnOk, IfErr}
use Rattle.std.proofs.lemmas.List.{append-nil, take_all, take-append-drop}
use Rattle.station.specs.View.{View, Told, SaidTold, Rose, Lawful}
use Rattle.station.specs.Steps.{Says}
use Rattle.key_slot.specs.Record.{Record}
use Rattle.range_scan.specs.SweepView.{SweepView}
use Rattle.range_scan.specs.Sweeping.{scan_of}
use Rattle.command_text.specs.Reply.{reply_text}
use Rattle.command_text.specs.declared.reply.Reply.TheVariants.{End}
use Rattle.pma_engine.specs.Ranging.{LeavesLast, SaysFront, SaysNext, SaysSweep, row_text, scan_text}
use Rattle.pma_engine.specs.Headline.{IsPartSaid}
use Rattle.pma_engine.specs.declared.fault.ServeFault.{ServeFault}
use Rattle.pma_engine.specs.declared.fault.ServeFault.TheVariants.{Reply}
use Rattle.pma_engine.proofs.Buffers.{front_on, part_behind, buffer_front, row_text-append}
use Rattle.pma_engine.proofs.Ranging.{first_rows, no_fault}
use Rattle.pma_engine.proofs.RangeAnswers.{more_than, part_of, rest_of, whole_of}

-- What is said of an answer, whatever it is.

pub at_err : {T P : Type 0} (r : Result T ServeFault) → P → IfErr r (λ fault. P)
at_err (Ok x) p = tt
at_err (Err fault) p = p

pub on_ok : {T P Q : Type 0} (r : Result T ServeFault) → (P → Q) → OnOk r P → OnOk r Q
on_ok (Ok x) f p = f p
on_ok (Err fault) f p = tt

pub if_err : {T : Type 0} (r : Result T ServeFault) (P Q : ServeFault → Type 0) → ((fault : ServeFault) → P fault → Q fault) → IfErr r P → IfErr r Q
if_err (Ok x) P Q f p = tt
if_err (Err fault) P Q f p = f fault p

module _ (s t : SweepView) (fresh : s.given ≡ 0) {a b : View} where
  -- the saying of the records stopped
  pub sweep_stopped : (fault : ServeFault) → SaysNext {T = Unit {0}} (Err fault) s t a b → SaysSweep (Err fault) s t a b
  sweep_stopped fault next = record {
    text = row_text next.stops.rows;
    front = next.stops.front;
    begins = λ told. rest_of next.stops.rows next.stops.rest (scan_of s a.held) (rows_are told);
    whole = tt;
    cut = λ is told said.
        let more = rest_of next.stops.rows next.stops.rest (scan_of s a.held) (rows_are told) in
        part_of (row_text next.stops.rows) more.0 (scan_text s a.held) a.said b.said more.1 (more_than next.stops.rows next.stops.rest (scan_of s a.held) (rows_are told)) (next.stops.front.said said);
    between = λ is told said.
        let rows = next.between is in
        rows.1.whole.said said ∙ ap (λ (l : List Record). a.said ++ row_text l) (first_rows s rows.0 t.given fresh rows.1 told);
    within = next.within;
    same = next.same;
    is_sweep = next.is_sweep;
    walks = next.walks;
    few = next.few;
    calls = (
      next.calls.sayings,
      next.calls.most,
      λ told.
          let more = rest_of (take t.given (scan_of s a.held)) (drop t.given (scan_of s a.held)) (scan_of s a.held) (take-append-drop t.given (scan_of s a.held)) in
          omega (arith, next.calls.told told, ap length more.1, length-append (row_text (take t.given (scan_of s a.held))) more.0),
    );
    disk = next.disk;
    reply = next.reply;
    told = next.told;
    never = next.never;
  }
    where
      rows_are : Told a → next.stops.rows ++ next.stops.rest ≡ scan_of s a.held
      rows_are told = subst (λ (n : ℕ). take n (scan_of s a.held) ++ next.stops.rows ++ next.stops.rest ≡ scan_of s a.held) fresh (next.stops.are told)

  -- all but the last were said, and then these and the line with their number, or a front of it
  module _ {d : View} (law : Lawful a) {left : List ℕ} (leaves : LeavesLast left s t a b) (count : ℕ) (number : count ≡ t.given) (says : Says (left ++ reply_text (End count)) b d) (few_said : d.calls ≤ b.calls + length (left ++ reply_text (End count))) where
    abbrev lines : List ℕ
    lines = row_text leaves.before ++ (left ++ reply_text (End count))

    all_are : Told a → leaves.before ++ leaves.last ≡ scan_of s a.held
    all_are told =
        ap (λ (l : List Record). l ++ leaves.last) (first_rows s leaves.before leaves.from fresh leaves.rows told)
        ∙ leaves.next.are told
        ∙ take_all t.given (scan_of s a.held) (leaves.end told)

    lines_are : Told a → lines ≡ scan_text s a.held
    lines_are told =
        ap (λ (l : List ℕ). row_text leaves.before ++ (l ++ reply_text (End count))) leaves.text
        ∙ sym (append_assoc (row_text leaves.before) (row_text leaves.last) (reply_text (End count)))
        ∙ ap (λ (l : List ℕ). l ++ reply_text (End count)) (sym (row_text-append leaves.before leaves.last))
        ∙ whole_of (leaves.before ++ leaves.last) (scan_of s a.held) count (all_are told) (omega (arith, leaves.rows.next.count, leaves.next.count, length-append leaves.before leaves.last, fresh, number))

    front_said : SaysFront lines a d
    front_said = front_on law (row_text leaves.before) (left ++ reply_text (End count)) leaves.rows.whole (buffer_front says)

    begun : Told a → (rest : List ℕ) × (lines ++ rest ≡ scan_text s a.held)
    begun told = ([], append-nil lines ∙ lines_are told)

    -- at most one call for each byte of it
    bytes_said : Told a → leaves.calls.sayings + length (left ++ reply_text (End count)) ≤ length (scan_text s a.held)
    bytes_said told =
        let scan = scan_of s a.held in
        let all : take t.given scan ≡ scan = take_all t.given scan (leaves.end told) in
        let whole = whole_of scan scan count refl (omega (arith, number, leaves.end told, leaves.within told)) in
        omega (
          arith,
          leaves.calls.told told,
          ap (λ (l : List Record). length (row_text l)) all,
          ap length whole,
          length-append left (reply_text (End count)),
          length-append (row_text scan) (reply_text (End count)),
        )

    calls_made : (sayings : ℕ) × (d.calls ≤ a.calls + (t.reader.next - s.reader.next) + sayings) × (Told a → sayings ≤ length (scan_text s a.held))
    calls_made = (leaves.calls.sayings + length (left ++ reply_text (End count)), omega (arith, leaves.calls.most, few_said), bytes_said)

    pub sweep_said : (SaidTold b → d.said ≡ b.said ++ (left ++ reply_text (End count))) → SaysSweep (Ok tt) s t a d
    sweep_said all = record {
      text = lines;
      front = front_said;
      begins = begun;
      whole = λ told said.
          all (ap (λ f. f.tells_said) leaves.rows.whole.front.run.fixed ∙ said)
          ∙ ap (λ (l : List ℕ). l ++ (left ++ reply_text (End count))) (leaves.rows.whole.said said)
          ∙ append_assoc a.said (row_text leaves.before) (left ++ reply_text (End count))
          ∙ ap (λ (l : List ℕ). a.said ++ l) (lines_are told);
      cut = no_fault tt;
      between = tt;
      within = leaves.within;
      same = leaves.same;
      is_sweep = leaves.is_sweep;
      walks = says.travel ∙ leaves.walks;
      few = leaves.few;
      calls = calls_made;
      disk = no_fault tt;
      reply = no_fault tt;
      told = tt;
      never = tt;
    }

    pub sweep_cut : (SaidTold b → IsPartSaid (left ++ reply_text (End count)) b.said d.said) → Rose b.say_faults d.say_faults → SaysSweep (Err Reply) s t a d
    sweep_cut part rose = record {
      text = lines;
      front = front_said;
      begins = begun;
      whole = tt;
      cut = λ is told said.
          let here = part (ap (λ f. f.tells_said) leaves.rows.whole.front.run.fixed ∙ said) in
          subst (λ (l : List ℕ). IsPartSaid l a.said d.said) (lines_are told)
          (part_behind (row_text leaves.before) (left ++ reply_text (End count)) a.said b.said d.said (leaves.rows.whole.said said) here);
      between = λ is. absurd cc;
      within = leaves.within;
      same = leaves.same;
      is_sweep = leaves.is_sweep;
      walks = says.travel ∙ leaves.walks;
      few = leaves.few;
      calls = calls_made;
      disk = λ is. absurd cc;
      reply = λ is. omega (arith, rose, leaves.rows.whole.front.run.say_faults);
      told = λ told. tt;
      never = tt;
    }
