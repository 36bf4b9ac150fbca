-- Records and the bounds of a scan.
use Rattle.std.specs.Prelude.{Bool, false, not, List, [], ◌∷◌, Option, Some, None}
use Rattle.std.specs.List.{list_all}
use Rattle.std.specs.Ordering.{is_lt}
use Rattle.key_slot.specs.Record.{Bytes, Record, key_cmp}
use Rattle.map_model.specs.Scan.{compares}

-- whether a key isn't below a bound, if there is one
abbrev pub is_from : Option Bytes → Bytes → Bool
is_from low key = compares (λ o. not (is_lt o)) low key

-- whether a key is below a bound, if there is one
abbrev pub is_below : Option Bytes → Bytes → Bool
is_below high key = compares is_lt high key

-- whether no record is below a bound
abbrev pub are_from : Option Bytes → List Record → Bool
are_from low records = list_all (λ r. is_from low r.0) records

-- whether each record is below a bound
abbrev pub are_before : Option Bytes → List Record → Bool
are_before low records = list_all (λ r. not (is_from low r.0)) records

-- whether each record is below an upper bound, if there is one
abbrev pub are_below : Option Bytes → List Record → Bool
are_below high records = list_all (λ r. is_below high r.0) records

-- whether no record is below an upper bound; without one, whether there is none
abbrev pub are_behind : Option Bytes → List Record → Bool
are_behind high records = list_all (λ r. not (is_below high r.0)) records

-- whether records begin below a bound; it takes one record at least
abbrev pub begins_below : Option Bytes → List Record → Bool
begins_below high [] = false
begins_below high (r ∷ rs) = is_below high r.0

-- whether the bounds leave no room for a key: there are both, and the lower one isn't below the upper one
abbrev pub is_void : Option Bytes → Option Bytes → Bool
is_void (Some low) (Some high) = not (is_lt (key_cmp low high))
is_void (Some low) None = false
is_void None high = false
