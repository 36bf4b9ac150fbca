-- The counts of generated commands: each command adds at most 10 to each of them.
use Rattle.std.proofs.Common.{◌≡◌, ℕ, zero, suc, ◌*◌, ◌%◌, ◌/◌, ◌^◌, ◌≤◌, ◌==◌, nat_lt, Bool, true, false, cond, List, length, refl, ap, arith, Option, Some, None, decimal}
use Rattle.std.specs.List.{count_by, sum_by}
use Rattle.std.specs.FinMap.{entries, get}
use Rattle.std.specs.FinMap.Entries.{where_key}
use Rattle.std.proofs.lemmas.List.{length-take}
use Rattle.std.proofs.lemmas.List.Sums.{sum_by-append}
use Rattle.key_slot.specs.Record.{Bytes, Record, key_cmp}
use Rattle.density_rule.specs.Bounds.{upper_of}
use Rattle.map_model.specs.ArrayState.{ArrayState}
use Rattle.map_model.specs.Scan.{scanned, is_within}
use Rattle.map_model.specs.Store.{bind, unbind, Effect, Replaces, Adds, FindsFull, Takes, FindsNone, effect_of}
use Rattle.command_text.specs.Answers.{answers, row_line, found_or_absent, effect_line}
use Rattle.command_text.specs.declared.command.Command.{Command}
use Rattle.command_text.specs.declared.command.Command.TheVariants as command
use Rattle.command_text.specs.declared.reply.Reply.{Reply}
use Rattle.command_text.specs.declared.reply.Reply.TheVariants.{Stored, Replaced, Full, Removed, Absent, Found, End}
use Rattle.workload.specs.Generator.{draw, command_chosen, command_numbered, generated, key_numbered}
use Rattle.workload.specs.Summaries.{is_stored, is_replaced, is_removed, is_absent, is_found, rows_ended, Fits}
use Rattle.workload.specs.Generation.{gen_layout, gen_hmax, empty_state, gen_state, gen_counts, lines_to}
use Rattle.workload.proofs.Growing.{lines_more, rows_count_nothing}

-- what a count adds for a line
record IsFew (f : Reply → ℕ) : Type 0 where
  row : (r : Record) → f (row_line r) ≡ 0
  end : (n : ℕ) → f (End n) ≤ n
  stored : f Stored ≤ 1
  replaced : f Replaced ≤ 1
  full : (n : ℕ) → f (Full n) ≤ 1
  removed : f Removed ≤ 1
  absent : f Absent ≤ 1
  found : (v : Bytes) → f (Found v) ≤ 1

module _ (f : Reply → ℕ) (few : IsFew f) where
  of_update : (n : ℕ) (effect : Effect) → f (effect_line n effect) ≤ 1
  of_update n Replaces = few.replaced
  of_update n Adds = few.stored
  of_update n FindsFull = few.full n
  of_update n Takes = few.removed
  of_update n FindsNone = few.absent

  of_get : (v : Option Bytes) → f (found_or_absent v) ≤ 1
  of_get None = few.absent
  of_get (Some v) = few.found v

  abbrev AddsFew : ArrayState → Command → Type 0
  AddsFew s c = sum_by f (answers gen_layout s c) ≤ 10

  either : (s : ArrayState) (a : Bool) (c d : Command) → AddsFew s c → AddsFew s d → AddsFew s (cond a c d)
  either s true c d first second = first
  either s false c d first second = second

  chosen_few : (s : ArrayState) (r i : ℕ) → AddsFew s (command_chosen r i)
  unfolding command_chosen
  chosen_few s r i =
      let key : Bytes = key_numbered (r / 8 % 100000) in
      let rows : List Record = scanned (Some key) None 10 (entries s.map) in
      let put : AddsFew s (command.Put key (decimal i)) = omega (arith, of_update (upper_of gen_hmax) (effect_of gen_hmax s.map (bind key (decimal i)))) in
      let remove : AddsFew s (command.Remove key) = omega (arith, of_update (upper_of gen_hmax) (effect_of gen_hmax s.map (unbind key))) in
      let get : AddsFew s (command.Get key) = omega (arith, of_get (get s.map key)) in
      let range : AddsFew s (command.Range (Some key) None 10) = omega (arith, rows_count_nothing f few.row rows (End (length rows)), few.end (length rows), length-take 10 (where_key key_cmp (is_within (Some key) None) (entries s.map))) in
      either s (nat_lt (r % 8) 5) _ _ put (either s (r % 8 == 5) _ _ remove (either s (r % 8 == 6) _ _ get range))

  few_counted : (count seed : ℕ) → sum_by f (lines_to gen_layout empty_state (generated count seed)) ≤ 10 * count
  few_counted zero seed = omega arith
  few_counted (suc count) seed =
      let lines = lines_to gen_layout empty_state (generated count seed) in
      let more = answers gen_layout (gen_state count seed) (command_numbered seed (suc count)) in
      omega (
        arith,
        few_counted count seed,
        ap (sum_by f) (lines_more gen_layout empty_state (generated count seed) (command_numbered seed (suc count))),
        sum_by-append f lines more,
        chosen_few (gen_state count seed) (draw seed (suc count) / 2 ^ 33) (suc count),
      )

at_most_1 : (b : Bool) → cond b 1 0 ≤ 1
at_most_1 true = omega arith
at_most_1 false = omega arith

abbrev as_count : Bool → ℕ
as_count b = cond b 1 0

-- a count of lines that a test tells from records and ends
module _ (test : Reply → Bool) (row : (r : Record) → test (row_line r) ≡ false) (end : (n : ℕ) → test (End n) ≡ false) where
  few_test : IsFew (λ x. cond (test x) 1 0)
  few_test = record {
    row = λ r. ap as_count (row r);
    end = λ n. omega (arith, ap as_count (end n));
    stored = at_most_1 (test Stored);
    replaced = at_most_1 (test Replaced);
    full = λ n. at_most_1 (test (Full n));
    removed = at_most_1 (test Removed);
    absent = at_most_1 (test Absent);
    found = λ v. at_most_1 (test (Found v));
  }

  few_passed : (count seed : ℕ) → count_by test (lines_to gen_layout empty_state (generated count seed)) ≤ 10 * count
  few_passed = few_counted (λ x. cond (test x) 1 0) few_test

few_ended : IsFew rows_ended
few_ended = record { row = λ r. refl; end = λ n. omega arith; stored = omega arith; replaced = omega arith; full = λ n. omega arith; removed = omega arith; absent = omega arith; found = λ v. omega arith }

pub fits : (count seed : ℕ) → count ≤ 1000000 → Fits (gen_counts count seed)
fits count seed most = record {
  commands = omega (arith, most);
  stored = omega (arith, most, few_passed is_stored (λ r. refl) (λ n. refl) count seed);
  replaced = omega (arith, most, few_passed is_replaced (λ r. refl) (λ n. refl) count seed);
  removed = omega (arith, most, few_passed is_removed (λ r. refl) (λ n. refl) count seed);
  absent = omega (arith, most, few_passed is_absent (λ r. refl) (λ n. refl) count seed);
  found = omega (arith, most, few_passed is_found (λ r. refl) (λ n. refl) count seed);
  ranged = omega (arith, most, few_counted rows_ended few_ended count seed);
}
