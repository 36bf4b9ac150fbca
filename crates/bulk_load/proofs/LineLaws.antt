-- One line, by what was taken before it.
use Rattle.std.proofs.Common.{◌≡◌, ℕ, ◌+◌, ◌≤◌, ◌==◌, ◌&&◌, not, Bool, true, false, cond, List, [], ◌∷◌, ◌++◌, length, refl, sym, ap, ◌∙◌, arith, ne_eqb}
use Rattle.std.proofs.lemmas.Bool.Decides.{nat_tests}
use Rattle.key_slot.specs.Record.{Record}
use Rattle.key_slot.specs.Row.{record_of}
use Rattle.key_slot.specs.declared.row.Row.{Row as RowData}
use Rattle.map_model.specs.FileReasons.{last_key, begins_above}
use Rattle.header_gate.specs.declared.layout.Layout.{Layout}
use Rattle.redo_journal.specs.Frames.{Batch}
use Rattle.command_text.specs.declared.load.LoadLine.TheVariants.{Nothing, Row, End, Bad}
use Rattle.bulk_load.specs.declared.fault.LoadFault.{LoadFault}
use Rattle.bulk_load.specs.declared.fault.LoadFault.TheVariants as fault
use Rattle.bulk_load.specs.declared.packing.Taken.{Taken}
use Rattle.bulk_load.specs.LoadFaults.{IsLineFault}
use Rattle.bulk_load.specs.Resulting.{IsPackingFault}
use Rattle.bulk_load.specs.LoadLines.{reads, wrong, full, after_line}
use Rattle.bulk_load.specs.Loads.{most_records}
use Rattle.bulk_load.specs.Packing.{IsTaken, goes_on_by}

pub both_true : (a b : Bool) → (not a && b) ≡ true → (a ≡ false) × (b ≡ true)
both_true true b e = absurd cc
both_true false b e = (refl, e)

eq_of : (a b : ℕ) → (a == b) ≡ true → a ≡ b
eq_of a b h = grind (arith, nat_tests)

eq_self : (a b : ℕ) → a ≡ b → (a == b) ≡ true
eq_self a b h = grind (arith, nat_tests)

-- a line that is wrong whatever was read
pub bad_line : (most k : ℕ) (rows : List Record) (ended : Bool) → after_line most k rows ended Bad ≡ wrong k
bad_line most k rows true = refl
bad_line most k rows false = refl

pub no_line : (most k : ℕ) (rows : List Record) (ended : Bool) → after_line most k rows ended Nothing ≡ reads rows ended
no_line most k rows true = refl
no_line most k rows false = refl

module _ (most k : ℕ) (rows : List Record) (l : Layout) (t : Taken) (b : Batch) (is : IsTaken l t b rows) where
  -- a record
  module _ (row : RowData) where
    abbrev r : Record
    r = record_of row

    above_is : begins_above t.last (r ∷ []) ≡ begins_above (last_key rows) (r ∷ [])
    above_is = ap (λ l. begins_above l (r ∷ [])) is.last

    by_above : (ended : Bool) → ended ≡ false → (above : Bool) → begins_above (last_key rows) (r ∷ []) ≡ above → after_line most k rows ended (Row row) ≡ cond (not above) (wrong k) (cond (length rows == most) full (reads (rows ++ r ∷ []) false))
    by_above ended e above a =
        ap (λ (x : Bool). after_line most k rows x (Row row)) e ∙ ap (λ (x : Bool). cond (not x) (wrong k) (cond (length rows == most) full (reads (rows ++ r ∷ []) false))) a

    pub row_goes : goes_on_by t r ≡ true → (t.records ≡ most → ⊥) → after_line most k rows t.ended (Row row) ≡ reads (rows ++ r ∷ []) false
    row_goes goes room =
        let p = both_true t.ended (begins_above t.last (r ∷ [])) goes in
        by_above t.ended p.0 true (sym above_is ∙ p.1) ∙ ap (λ (x : Bool). cond x full (reads (rows ++ r ∷ []) false)) (ne_eqb (length rows) most (λ e. room (is.count ∙ e)))

    pub row_full : goes_on_by t r ≡ true → t.records ≡ most → after_line most k rows t.ended (Row row) ≡ full
    row_full goes fills =
        let p = both_true t.ended (begins_above t.last (r ∷ [])) goes in
        by_above t.ended p.0 true (sym above_is ∙ p.1) ∙ ap (λ (x : Bool). cond x full (reads (rows ++ r ∷ []) false)) (eq_self (length rows) most (sym is.count ∙ fills))

    pub row_wrong : goes_on_by t r ≡ false → after_line most k rows t.ended (Row row) ≡ wrong k
    row_wrong stops = by t.ended refl
      where
        by : (ended : Bool) → t.ended ≡ ended → after_line most k rows t.ended (Row row) ≡ wrong k
        by true e = ap (λ (x : Bool). after_line most k rows x (Row row)) e
        by false e = by_above t.ended e false (sym above_is ∙ sym (ap (λ (x : Bool). not x && begins_above t.last (r ∷ [])) e) ∙ stops)

  -- the line with the number of records
  module _ (n : ℕ) where
    pub end_goes : (not t.ended && (n == t.records)) ≡ true → after_line most k rows t.ended (End n) ≡ reads rows true
    end_goes goes =
        let p = both_true t.ended (n == t.records) goes in
        ap (λ (x : Bool). after_line most k rows x (End n)) p.0 ∙ ap (λ (x : Bool). cond x (reads rows true) (wrong k)) (eq_self n (length rows) (eq_of n t.records p.1 ∙ is.count))

    pub end_wrong : (not t.ended && (n == t.records)) ≡ false → after_line most k rows t.ended (End n) ≡ wrong k
    end_wrong stops = by t.ended refl
      where
        by : (ended : Bool) → t.ended ≡ ended → after_line most k rows t.ended (End n) ≡ wrong k
        by true e = ap (λ (x : Bool). after_line most k rows x (End n)) e
        by false e =
            let other : (n == t.records) ≡ false = sym (ap (λ (x : Bool). not x && (n == t.records)) e) ∙ stops in
            ap (λ (x : Bool). after_line most k rows x (End n)) e ∙ ap (λ (x : Bool). cond x (reads rows true) (wrong k)) (ap (λ (m : ℕ). n == m) (sym is.count) ∙ other)

-- a fault of the packing of a record
pub pack_line_fault : (most k : ℕ) (rows : List Record) (l : Layout) (t : Taken) (b : Batch) → IsTaken l t b rows → (row : RowData) → goes_on_by t (record_of row) ≡ true → (fault : LoadFault) → IsPackingFault most t.records fault
    → IsLineFault most (after_line most k rows t.ended (Row row)) fault
pack_line_fault most k rows l t b is row goes (fault.Full n) packs = (row_full most k rows l t b is row goes packs.1, packs.0)
pack_line_fault most k rows l t b is row goes fault.Disk packs = record {}
pack_line_fault most k rows l t b is row goes (fault.NotEmpty n) packs = packs
pack_line_fault most k rows l t b is row goes (fault.Line n) packs = absurd packs
pack_line_fault most k rows l t b is row goes (fault.Damaged segment why) packs = packs
pack_line_fault most k rows l t b is row goes fault.Script packs = packs
pack_line_fault most k rows l t b is row goes fault.Spent packs = packs

-- there is room for one more
pub room_for : (l : Layout) (n most : ℕ) → most ≡ most_records l → (n ≡ most → ⊥) → n ≤ most_records l → n + 1 ≤ most_records l
room_for l n most same other few = omega (arith, same, other, few)

-- what was taken stays, when the line with the number was met
pub ended_taken : (l : Layout) (t : Taken) (b : Batch) (rows : List Record) → IsTaken l t b rows → IsTaken l (record t { ended = true }) b rows
ended_taken l t b rows is = record { rows_are = is.rows_are; count = is.count; last = is.last; within = is.within; shares = is.shares; held = is.held }
