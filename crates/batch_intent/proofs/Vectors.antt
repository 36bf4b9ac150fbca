-- Worked intents.
use Rattle.std.proofs.Common.{◌≡◌, ℕ, zero, suc, cond, nat_lt, true, false, List, [], ◌∷◌, ◌++◌, replicate, Option, Some, None, refl}
use Rattle.std.specs.List.{flat_map, range_with_len}
use Rattle.std.specs.Option.{option_map}
use Rattle.std.specs.FinMap.{len, contains_key}
use Rattle.key_slot.specs.Record.{Bytes}
use Rattle.key_slot.specs.Format.{narrow, wide}
use Rattle.density_rule.specs.Bounds.{upper_of}
use Rattle.header_gate.specs.declared.layout.Layout.{Layout}
use Rattle.header_gate.specs.declared.reason.Reason.{Reason}
use Rattle.header_gate.specs.declared.reason.Reason.TheVariants.{Intent}
use Rattle.map_model.specs.Store.{Map, Update, bind, unbind, effect_by}
use Rattle.map_model.specs.After.{map_after}
use Rattle.map_model.specs.Items.{first_full, is_full}
use Rattle.map_model.proofs.Resuming.{removal_fits}
use Rattle.batch_intent.specs.declared.intent.IntentFault.TheVariants.{TooMany, Repeated}
use Rattle.batch_intent.specs.Spelling.{intent_bytes, items_in, fits_item}
use Rattle.batch_intent.specs.IntentReasons.{first_wrong, wrong_place}
use Rattle.batch_intent.specs.Pushing.{push_fault}
use Rattle.batch_intent.specs.Gate.{has_intent, reason_at}
use Rattle.batch_intent.specs.Means.{full_reason}

-- a put of the key a with the value 1, and a removal of the key c
abbrev two_items : List Update
two_items = bind (0x61 ∷ []) (0x31 ∷ []) ∷ unbind (0x63 ∷ []) ∷ []

abbrev two_spelled : List ℕ
two_spelled = 2 ∷ 1 ∷ 1 ∷ 1 ∷ 0x61 ∷ 0x31 ∷ 2 ∷ 1 ∷ 0 ∷ 0x63 ∷ []

pub spelled : intent_bytes two_items ≡ two_spelled
spelled = refl

pub read_back : items_in (two_spelled ++ replicate 502 7) ≡ two_items
unfolding items_in
read_back = refl

-- what is wrong with bytes at a slot format
abbrev wrong : ℕ → List ℕ → Option Reason
wrong f bytes = reason_at (wrong_place f bytes)

pub two_right : wrong narrow two_spelled ≡ None
unfolding first_wrong
two_right = refl

-- no items, and 17
pub none_at_all : wrong narrow (0 ∷ []) ≡ Some (Intent 3584)
none_at_all = refl

pub too_many : wrong wide (17 ∷ []) ≡ Some (Intent 3584)
too_many = refl

-- neither a put nor a removal
pub third_kind : wrong narrow (1 ∷ 3 ∷ 1 ∷ 0 ∷ 0x61 ∷ []) ≡ Some (Intent 3585)
unfolding first_wrong
third_kind = refl

-- sizes of keys
abbrev key_of_size : ℕ → List ℕ
key_of_size n = 1 ∷ 1 ∷ n ∷ 0 ∷ replicate n 0x61

pub no_key : wrong narrow (key_of_size 0) ≡ Some (Intent 3585)
unfolding first_wrong
no_key = refl

pub key_of_24 : wrong narrow (key_of_size 24) ≡ None
unfolding first_wrong
key_of_24 = refl

pub key_of_25 : wrong narrow (key_of_size 25) ≡ Some (Intent 3585)
unfolding first_wrong
key_of_25 = refl

pub longer_key_of_25 : wrong wide (key_of_size 25) ≡ None
unfolding first_wrong
longer_key_of_25 = refl

pub longer_key_of_41 : wrong wide (key_of_size 41) ≡ Some (Intent 3585)
unfolding first_wrong
longer_key_of_41 = refl

-- sizes of values
abbrev value_of_size : ℕ → List ℕ
value_of_size n = 1 ∷ 1 ∷ 1 ∷ n ∷ 0x61 ∷ replicate n 0x31

pub value_of_32 : wrong narrow (value_of_size 32) ≡ None
unfolding first_wrong
value_of_32 = refl

pub value_of_33 : wrong narrow (value_of_size 33) ≡ Some (Intent 3585)
unfolding first_wrong
value_of_33 = refl

pub longer_value_of_80 : wrong wide (value_of_size 80) ≡ None
unfolding first_wrong
longer_value_of_80 = refl

pub longer_value_of_81 : wrong wide (value_of_size 81) ≡ Some (Intent 3585)
unfolding first_wrong
longer_value_of_81 = refl

-- a removal with a value
pub removal_with_a_value : wrong narrow (1 ∷ 2 ∷ 1 ∷ 1 ∷ 0x63 ∷ 0x64 ∷ []) ≡ Some (Intent 3585)
unfolding first_wrong
removal_with_a_value = refl

-- one key twice
pub key_twice : wrong narrow (2 ∷ 1 ∷ 1 ∷ 0 ∷ 0x61 ∷ 2 ∷ 1 ∷ 0 ∷ 0x61 ∷ []) ≡ Some (Intent 3589)
unfolding first_wrong
key_twice = refl

-- the last of nine puts of 24 and 32 bytes ends behind the page
abbrev long_put : ℕ → List ℕ
long_put n = 1 ∷ 24 ∷ 32 ∷ replicate 56 n

pub past_the_page : wrong narrow (9 ∷ flat_map long_put (range_with_len 1 9)) ≡ Some (Intent 4057)
unfolding first_wrong
past_the_page = refl

-- A store of height limit 0 with 64 records: it takes no key more, but one for another.

abbrev put_x : Update
put_x = bind (0x78 ∷ []) []

pub full_for_x : (m : Map) → contains_key m (0x78 ∷ []) ≡ false → len m ≡ 64 → full_reason (intent_bytes (put_x ∷ [])) (first_full 0 m (put_x ∷ [])) ≡ Some (Intent 3585)
full_for_x m absent count =
    (λ t. full_reason (intent_bytes (put_x ∷ [])) (cond (is_full (effect_by (absent t) (nat_lt (count t) (upper_of 0)) put_x)) (Some 0) None))

pub one_for_another : (m : Map) (key : Bytes) → len (map_after 0 m (unbind key)) ≡ 63 → contains_key (map_after 0 m (unbind key)) (0x78 ∷ []) ≡ false → first_full 0 m (unbind key ∷ put_x ∷ []) ≡ None
one_for_another m key count absent =
    (λ t. cond (removal_fits key (contains_key m key) (nat_lt (len m) (upper_of 0)) t) (Some 0) (option_map (λ i. suc i) (cond (is_full (effect_by (absent t) (nat_lt (count t) (upper_of 0)) put_x)) (Some 0) None)))

-- A gate byte of 3 is odd; at version 1 it means nothing.

abbrev odd_file : List ℕ
odd_file = replicate 640 0 ++ 3 ∷ []

abbrev of_version : ℕ → Layout
of_version v = record { hmax = 0; journal = 4; version = v; format = 1 }

pub odd_at_1 : has_intent (of_version 1) odd_file ≡ false
odd_at_1 = refl

pub odd_at_2 : has_intent (of_version 2) odd_file ≡ true
odd_at_2 = refl

pub odd_at_3 : has_intent (of_version 3) odd_file ≡ true
odd_at_3 = refl

-- What a push answers.

abbrev removal : ℕ → Update
removal n = unbind (n ∷ [])

abbrev removals : ℕ → List Update
removals zero = []
removals (suc n) = removal (suc n) ∷ removals n

pub sixteenth : push_fault (removals 15) (removal 16) ≡ None
sixteenth = refl

pub seventeenth : push_fault (removals 16) (removal 3) ≡ Some TooMany
seventeenth = refl

pub repeated : push_fault (removals 15) (removal 3) ≡ Some Repeated
repeated = refl

-- an item at each format
pub fits_longer : fits_item wide (bind (replicate 40 7) (replicate 80 7)) ≡ true
fits_longer = refl

pub fits_not : fits_item narrow (bind (replicate 24 7) (replicate 33 7)) ≡ false
fits_not = refl
