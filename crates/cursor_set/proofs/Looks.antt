-- What a step reads of the store.
use Rattle.std.proofs.Common.{◌≡◌, Option, Some, None, is_some, sym, ◌∙◌, ap, subst}
use mathlib.Core.Bool.{true≢false}
use Rattle.std.specs.Prelude.{Result, IfErr}
use Rattle.station.specs.View.{View}
use Rattle.segment.specs.declared.fault.StoreFault.{StoreFault}
use Rattle.map_model.specs.Cursors.{Cursor}
use Rattle.range_scan.specs.SeekReads.{KeptRegion, ReadsNear, ReadsBehind, later, earlier}

-- the look for the one cursor of a name, whatever is answered
pub near_for : {A B : Type 0} (p : Result A StoreFault) (q : Result B StoreFault) (held : Option Cursor) (j : Cursor) (r : KeptRegion) (a b : View)
    → ((P : StoreFault → Type 0) → IfErr p P → IfErr q P) → held ≡ Some j → ReadsNear (later j.low j.past) r p a b
    → (k : Cursor) → held ≡ Some k → ReadsNear (later k.low k.past) r q a b
near_for p q held j r a b stop is near k at =
    let same : j ≡ k = cc in
    subst (λ (c : Cursor). ReadsNear (later c.low c.past) r q a b) same
    (record { from = near.from; to = near.to; travel = near.travel; some = near.some; two = near.two; calls = near.calls; within = near.within; own = near.own; causes = stop _ near.causes })

pub behind_for : {A B : Type 0} (p : Result A StoreFault) (q : Result B StoreFault) (held : Option Cursor) (j : Cursor) (r : KeptRegion) (a b : View)
    → ((P : StoreFault → Type 0) → IfErr p P → IfErr q P) → held ≡ Some j → ReadsBehind (earlier j.past j.high) r p a b
    → (k : Cursor) → held ≡ Some k → ReadsBehind (earlier k.past k.high) r q a b
behind_for p q held j r a b stop is reads k at =
    let same : j ≡ k = cc in
    subst (λ (c : Cursor). ReadsBehind (earlier c.past c.high) r q a b) same
    (record {
      last = reads.last;
      count = reads.count;
      travel = reads.travel;
      some = reads.some;
      two = reads.two;
      calls = reads.calls;
      within = reads.within;
      inside = reads.inside;
      own = reads.own;
      needed = reads.needed;
      causes = stop _ reads.causes;
    })

-- a name has a cursor, or has none
pub not_both : {A : Type 0} (held : Option Cursor) (j : Cursor) → held ≡ Some j → held ≡ None → A
not_both held j is none = absurd (true≢false (ap is_some (sym is ∙ none)))
