-- How the words of a batch are read, item by item.
use Rattle.std.specs.Prelude.{◌≡◌, ◌⊎◌, ℕ, ◌<◌, if◌then◌else◌, Bool, true, false, List, [], ◌∷◌, length, Option, Some, None, codes}
use Rattle.percent_encoding.specs.Percent.{percent_decode}
use Rattle.map_model.specs.Store.{Update, bind, unbind}
use Rattle.command_text.specs.Words.{words}
use Rattle.command_text.specs.BatchForm.{is_separator, parts, is_item_form, item_of}

-- the item with these words
abbrev pub item_read : Bool → List ℕ → List ℕ → Update
item_read puts key value = if puts then bind (percent_decode key) (percent_decode value) else unbind (percent_decode key)

-- the words of the items behind a `;`, or none
abbrev pub parts_behind : Option (List ℕ) → List (List (List ℕ))
parts_behind None = []
parts_behind (Some rest) = parts (words rest)

-- the words begin with those of an item, and then comes its end
pub record BeginsWith (ws : List (List ℕ)) (puts : Bool) (key value : List ℕ) (behind : Option (List ℕ)) : Type 0 where
  pub part : List (List ℕ)
  pub splits : parts ws ≡ part ∷ parts_behind behind
  pub form : is_item_form part ≡ true
  pub item_is : item_of part ≡ item_read puts key value
  pub some : 0 < length key

-- the words begin with one of an item's
pub record IsItemWord (ws : List (List ℕ)) (word : List ℕ) (rest : List (List ℕ)) : Type 0 where
  pub first : ws ≡ word ∷ rest
  pub other : is_separator word ≡ false
  pub some : 0 < length word

-- an item ends there, with what follows the `;` behind it
abbrev pub IsItemEnd : List (List ℕ) → Option (List ℕ) → Type 0
IsItemEnd ws None = ws ≡ []
IsItemEnd ws (Some rest) = ws ≡ codes ";" ∷ words rest

-- an item ends there
abbrev pub EndsItem : List (List ℕ) → Type 0
EndsItem ws = (ws ≡ []) ⊎ ((rest : List (List ℕ)) × (ws ≡ codes ";" ∷ rest))

-- the words begin with the value of a put, if with any
abbrev pub BeginsWithValue : Bool → List (List ℕ) → List ℕ → List (List ℕ) → Type 0
BeginsWithValue puts ws value rest = ((puts ≡ true) × IsItemWord ws value rest) ⊎ ((puts ≡ true → EndsItem ws) × (value ≡ []) × (rest ≡ ws))
