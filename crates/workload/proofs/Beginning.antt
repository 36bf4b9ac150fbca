-- The file of the empty store has the empty state.
use Rattle.std.proofs.Common.{◌≡◌, ℕ, ◌^◌, List, [], ◌∷◌, length, sym, ap, ◌∙◌, arith, append-nil}
use Rattle.std.specs.FinMap.{empty, entries, len-empty, len-entries}
use Rattle.std.proofs.lemmas.List.{nil_from_length}
use Rattle.key_slot.specs.Record.{Bytes, Record, key_cmp}
use Rattle.density_rule.specs.Marks.{no_marks}
use Rattle.map_model.specs.Store.{Map}
use Rattle.map_model.specs.Array.{Array, rows}
use Rattle.map_model.specs.ArrayState.{opened_state}
use Rattle.map_model.specs.Image.{Represents, map_of, height_of}
use Rattle.map_model.proofs.Recovering.{determined}
use Rattle.map_model.proofs.SessionLaws.{opened_sound}
use Rattle.workload.specs.Generation.{empty_state}

abbrev pub nothing : Map
nothing = empty

pub no_entries : entries nothing ≡ []
no_entries = nil_from_length (entries nothing) (sym (len-entries nothing) ∙ len-empty key_cmp Bytes)

-- one segment without a record
one_empty : (segments : Array) → length segments ≡ 1 → rows segments ≡ [] → segments ≡ [] ∷ []
one_empty [] size none = absurd (omega (arith, size))
one_empty (s ∷ []) size none = ap (λ (t : List Record). t ∷ []) (sym (append-nil s) ∙ none)
one_empty (s ∷ t ∷ segments) size none = absurd (omega (arith, size))

pub begins : (image : List ℕ) → Represents image empty 0 → opened_state image ≡ empty_state
begins image is =
    let both = determined image empty 0 is in
    let map_is : map_of image ≡ empty = sym both.0 in
    let height_is : height_of image ≡ 0 = sym both.1 in
    let holds = (opened_sound image empty 0 is).holds in
    let array_is = one_empty (opened_state image).array (holds.size ∙ ap (λ (h : ℕ). 2 ^ h) height_is) (holds.rows_are ∙ ap (λ (m : Map). entries m) map_is ∙ no_entries) in
    λ i. record { map = map_is i; height = height_is i; array = array_is i; marks = no_marks (height_is i) }
