-- A scan without bounds is all records.
use Rattle.std.proofs.Common.{◌≡◌, ℕ, ◌^◌, ◌<◌, ◌≤◌, List, [], ◌∷◌, length, take, refl, ap, ◌∙◌, arith}
use Rattle.std.specs.Prelude.{None}
use Rattle.std.specs.FinMap.{entries, len}
use Rattle.std.specs.FinMap.Entries.{where_key}
use Rattle.std.proofs.lemmas.List.{take_all}
use Rattle.std.proofs.Math.Nat.{pow-le-pow_right}
use Rattle.key_slot.specs.Record.{Record, key_cmp}
use Rattle.header_gate.specs.Header.{layout_in}
use Rattle.map_model.specs.Image.{Represents}
use Rattle.map_model.specs.Scan.{is_within, scanned}
use Rattle.map_model.specs.Store.{Map}
use Rattle.map_model.proofs.Entries.{length-rows}
use Rattle.bulk_load.proofs.LoadLaws.{few_records, tall_limit}

all_within : (rs : List Record) → where_key key_cmp (is_within None None) rs ≡ rs
all_within [] = refl
all_within (r ∷ rs) = ap (λ (l : List Record). r ∷ l) (all_within rs)

pub all_scanned : (limit : ℕ) (rs : List Record) → length rs ≤ limit → scanned None None limit rs ≡ rs
all_scanned limit rs few = ap (take limit) (all_within rs) ∙ take_all limit rs few

-- a store has fewer than 2^32 records
pub few_entries : (image : List ℕ) (m : Map) (height : ℕ) → Represents image m height → length (entries m) < 2 ^ 32
few_entries image m height is =
    let most = few_records height (len m) is.most_is in
    let tall = pow-le-pow_right {n = 2} (omega arith) {i = height} {j = 16} (omega (arith, is.height_is, is.header.height, tall_limit (layout_in image) is.header.layout)) in
    omega (arith, length-rows (entries m) m refl, most, tall)
