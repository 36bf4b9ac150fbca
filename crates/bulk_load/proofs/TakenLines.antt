-- Lines of a merge text for which no call is made.
use Rattle.std.proofs.Common.{◌≡◌, ℕ, ◌^◌, ◌&&◌, ◌==◌, not, Bool, true, false, cond, List, [], length, refl, sym, ap, ◌∙◌, arith}
use Rattle.std.specs.Prelude.{Ok, Err}
use Rattle.std.proofs.lemmas.Bool.Decides.{nat_tests}
use Rattle.std.specs.FinMap.{entries}
use Rattle.station.specs.View.{View}
use Rattle.key_slot.specs.Record.{Record}
use Rattle.map_model.specs.Store.{Update}
use Rattle.redo_journal.specs.declared.place.Place.{Place}
use Rattle.redo_journal.specs.Frames.{Batch}
use Rattle.command_text.specs.declared.merge.MergeLine.{MergeLine}
use Rattle.command_text.specs.declared.merge.MergeLine.TheVariants.{Nothing, End, Bad}
use Rattle.bulk_load.specs.declared.fault.LoadFault.TheVariants as fault
use Rattle.bulk_load.specs.declared.run.MergeRun.{MergeRun}
use Rattle.bulk_load.specs.Amid.{IsAmid, IsBetween, TakesUpdate, Tries, HasKeys}
use Rattle.bulk_load.specs.Loads.{most_records}
use Rattle.bulk_load.specs.MergeText.{front_rows}
use Rattle.bulk_load.specs.MergeLines.{reads, wrong, after_merge_line}
use Rattle.bulk_load.proofs.AmidLaws.{goes_none, goes_tries, taking_inside}
use Rattle.bulk_load.proofs.CopyLaws.{disk_is, never_disk}
use Rattle.bulk_load.proofs.LineLaws.{both_true, ended_taken}

eq_of : (a b : ℕ) → (a == b) ≡ true → a ≡ b
eq_of a b h = grind (arith, nat_tests)

eq_self : (a b : ℕ) → a ≡ b → (a == b) ≡ true
eq_self a b h = grind (arith, nat_tests)

module _ (place : Place) (old : MergeRun) (f : Batch) (a : View) (between : IsBetween place old f a) where
  amid : IsAmid place old f a
  amid = between.amid

  still : Tries place (2 ^ old.ahead.tally.now.height) old.taken.written old.ahead.reader.next f f a a
  still =
      goes_tries place (2 ^ old.ahead.tally.now.height) old.taken.written old.taken.written old.ahead.reader.next old.ahead.reader.next f f a a (taking_inside place old.taken f amid.taking) (omega (arith, amid.taking.place.behind, amid.taking.few))
      (omega (arith, amid.live.ahead.within, amid.live.ahead.end_is)) (goes_none place old.taken.written old.ahead.reader.next f a amid.can.live)

  -- one that can't stand there
  pub line_refused : (k : ℕ) (line : MergeLine) → ((most : ℕ) (rows : List Record) (edits : List Update) → HasKeys edits old → after_merge_line most rows k edits old.taken.ended line ≡ wrong k)
      → TakesUpdate {X = Unit {0}} place k line (Err (fault.Line k)) old old f f a a
  line_refused k line is = record {
    between = tt;
    takes = tt;
    faulty = λ told m edits has. is (most_records place.layout) (entries m) edits (record { edits_are = has.edits_are; last = has.last });
    stops = record {};
    alone = tt;
    due = λ edits has. is (2 ^ 32) [] edits has.keys;
    stays = (refl, refl, refl);
    tally = refl;
    goes = tt;
    tries = still;
    damage = record {};
    failed = λ e. absurd (no (disk_is {T = Unit {0}} (fault.Line k) e));
  }
    where
      no : fault.Line k ≡ fault.Disk → ⊥
      no e = cc

  -- one that is skipped
  pub line_skipped : (k : ℕ) → TakesUpdate {X = Unit {0}} place k Nothing (Ok tt) old old f f a a
  line_skipped k = record {
    between = between;
    takes = λ told m edits has. record { now = edits; after = by old.taken.ended (most_records place.layout) (entries m) edits; merged = has };
    faulty = tt;
    stops = tt;
    alone = λ edits has. record { now = edits; after = by old.taken.ended (2 ^ 32) [] edits; has = has };
    due = tt;
    stays = tt;
    tally = refl;
    goes = goes_none place old.taken.written old.ahead.reader.next f a amid.can.live;
    tries = still;
    damage = tt;
    failed = λ e. absurd (never_disk {T = Unit {0}} tt e);
  }
    where
      by : (ended : Bool) (most : ℕ) (rows : List Record) (edits : List Update) → after_merge_line most rows k edits ended Nothing ≡ reads edits ended
      by true most rows edits = refl
      by false most rows edits = refl

  -- the line with the number of updates
  pub line_ended : (k n : ℕ) → (not old.taken.ended && (n == old.edits)) ≡ true → TakesUpdate {X = Unit {0}} place k (End n) (Ok tt) old (record old { taken = record old.taken { ended = true } }) f f a a
  line_ended k n goes = record {
    between = record {
      amid = record {
        can = amid.can;
        live = amid.live;
        taking = record {
          rows = amid.taking.rows;
          taken = ended_taken place.layout old.taken f amid.taking.rows amid.taking.taken;
          place = record { behind = amid.taking.place.behind; within = amid.taking.place.within };
          few = amid.taking.few;
        };
        above = amid.above;
      };
      behind = between.behind;
      counted = between.counted;
      few = between.few;
      balance = between.balance;
    };
    takes = λ told m edits has. record {
      now = edits;
      after = by (most_records place.layout) (entries m) edits has.edits_are;
      merged = record {
        taken = ended_taken place.layout old.taken f (front_rows edits (entries m)) has.taken;
        packed = has.packed;
        left = has.left;
        found = has.found;
        edits_are = has.edits_are;
        last = has.last;
        ascending = has.ascending;
      };
    };
    faulty = tt;
    stops = tt;
    alone = λ edits has. record { now = edits; after = by (2 ^ 32) [] edits has.keys.edits_are; has = record { keys = record { edits_are = has.keys.edits_are; last = has.keys.last }; binds = has.binds } };
    due = tt;
    stays = tt;
    tally = refl;
    goes = goes_none place old.taken.written old.ahead.reader.next f a amid.can.live;
    tries = still;
    damage = tt;
    failed = λ e. absurd (never_disk {T = Unit {0}} tt e);
  }
    where
      by : (most : ℕ) (rows : List Record) (edits : List Update) → old.edits ≡ length edits → after_merge_line most rows k edits old.taken.ended (End n) ≡ reads edits true
      by most rows edits are =
          let p = both_true old.taken.ended (n == old.edits) goes in
          ap (λ (e : Bool). after_merge_line most rows k edits e (End n)) p.0
          ∙ ap (λ (b : Bool). cond b (reads edits true) (wrong k)) (eq_self n (length edits) (eq_of n old.edits p.1 ∙ are))

  -- that can't stand there
  pub end_refused : (k n : ℕ) → (not old.taken.ended && (n == old.edits)) ≡ false → (most : ℕ) (rows : List Record) (edits : List Update) → HasKeys edits old → after_merge_line most rows k edits old.taken.ended (End n) ≡ wrong k
  end_refused k n stops most rows edits has = by old.taken.ended refl
    where
      by : (ended : Bool) → old.taken.ended ≡ ended → after_merge_line most rows k edits old.taken.ended (End n) ≡ wrong k
      by true is = ap (λ (e : Bool). after_merge_line most rows k edits e (End n)) is
      by false is =
          ap (λ (e : Bool). after_merge_line most rows k edits e (End n)) is
          ∙ ap (λ (b : Bool). cond b (reads edits true) (wrong k)) (ap (λ (x : ℕ). n == x) (sym has.edits_are) ∙ sym (ap (λ (e : Bool). not e && (n == old.edits)) is) ∙ stops)

  pub bad_refused : (k most : ℕ) (rows : List Record) (edits : List Update) → after_merge_line most rows k edits old.taken.ended Bad ≡ wrong k
  bad_refused k most rows edits = by old.taken.ended
    where
      by : (ended : Bool) → after_merge_line most rows k edits ended Bad ≡ wrong k
      by true = refl
      by false = refl
