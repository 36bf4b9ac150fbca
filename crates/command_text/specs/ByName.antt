-- The command of words as the parser reads it: first its name, and then the words behind it. It is `command_of_words` of
-- Command.antt.
use Rattle.std.specs.Prelude.{ℕ, nat_lt, ◌==◌, if◌then◌else◌, List, [], ◌∷◌, length, slice_index, Option, Some, None, codes}
use Rattle.std.specs.Str.{bytes_eq}
use Rattle.percent_encoding.specs.Percent.{percent_decode}
use Rattle.key_slot.specs.Format.{key_room, value_room}
use Rattle.command_text.specs.BatchForm.{batch_by_form}
use Rattle.command_text.specs.Command.{with_bound}
use Rattle.command_text.specs.Number.{number_of, if_positive}
use Rattle.command_text.specs.declared.command.Command.{Command}
use Rattle.command_text.specs.declared.command.Command.TheVariants.{Nothing, Put, Remove, Get, Range, Check, Probe, Cost, Open, Next, Prev, Close, OversizedKey, OversizedValue, Bad}
use Rattle.command_text.specs.declared.command.Why.TheVariants as why

-- a word is a key, and then comes what follows
abbrev pub key_then : ℕ → List ℕ → (List ℕ → Command) → Command
key_then f word next = let key = percent_decode word in if nat_lt (key_room f) (length key) then OversizedKey else next key

-- a word is a value, and then comes what follows
abbrev pub value_then : ℕ → List ℕ → (List ℕ → Command) → Command
value_then f word next =
    let value = percent_decode word in if nat_lt (value_room f) (length value) then OversizedValue else next value

-- `put KEY` or `put KEY VALUE`; no value's word is the empty value
abbrev pub put_read : ℕ → List (List ℕ) → Command
put_read f (one ∷ []) = key_then f one (λ key. Put key [])
put_read f (one ∷ two ∷ []) = key_then f one (λ key. value_then f two (λ value. Put key value))
put_read f _ = Bad why.Words

-- a command with one key
abbrev pub keyed : ℕ → (List ℕ → Command) → List (List ℕ) → Command
keyed f command (one ∷ []) = key_then f one command
keyed f command _ = Bad why.Words

-- a number was read, and then comes what follows
abbrev pub number_then : Option ℕ → (ℕ → Command) → Command
number_then None next = Bad why.Number
number_then (Some n) next = next n

-- `range LOW HIGH` or `range LOW HIGH LIMIT`; no limit's word is the greatest limit
abbrev pub range_of : ℕ → List (List ℕ) → Command
range_of f (one ∷ two ∷ []) = with_bound f one (λ low. with_bound f two (λ high. Range low high 4294967295))
range_of f (one ∷ two ∷ three ∷ []) =
    with_bound f one (λ low. with_bound f two (λ high. number_then (number_of three) (λ limit. Range low high limit)))
range_of f _ = Bad why.Words

-- a command without further words
abbrev pub alone : Command → List (List ℕ) → Command
alone command [] = command
alone command _ = Bad why.Words

-- `probe KEY B`, with a block size from 1 on
abbrev pub probe_of : ℕ → List (List ℕ) → Command
probe_of f (one ∷ two ∷ []) = key_then f one (λ key. number_then (if_positive (number_of two)) (λ block. Probe key block))
probe_of f _ = Bad why.Words

-- `open NAME LOW HIGH`
abbrev pub open_of : ℕ → List (List ℕ) → Command
open_of f (one ∷ two ∷ three ∷ []) = key_then f one (λ name. with_bound f two (λ low. with_bound f three (λ high. Open name low high)))
open_of f _ = Bad why.Words

-- the command with this name that asks something of the cursors
abbrev pub cursor_named : ℕ → List ℕ → List (List ℕ) → Command
cursor_named f name rest =
    if bytes_eq name (codes "open") then open_of f rest
    else (if bytes_eq name (codes "next") then keyed f Next rest
    else (if bytes_eq name (codes "prev") then keyed f Prev rest
    else (if bytes_eq name (codes "close") then keyed f Close rest
    else Bad why.Command)))

-- the command with this name; a name that begins with `#` (35) begins a note
abbrev pub command_named : ℕ → List ℕ → List (List ℕ) → Command
command_named f name rest =
    if slice_index name 0 == 35 then Nothing
    else (if bytes_eq name (codes "put") then put_read f rest
    else (if bytes_eq name (codes "remove") then keyed f Remove rest
    else (if bytes_eq name (codes "get") then keyed f Get rest
    else (if bytes_eq name (codes "range") then range_of f rest
    else (if bytes_eq name (codes "check") then alone Check rest
    else (if bytes_eq name (codes "probe") then probe_of f rest
    else (if bytes_eq name (codes "batch") then batch_by_form f rest
    else (if bytes_eq name (codes "cost") then alone Cost rest
    else cursor_named f name rest))))))))

-- the command of words
abbrev pub command_by_name : ℕ → List (List ℕ) → Command
command_by_name f [] = Nothing
command_by_name f (name ∷ rest) = command_named f name rest
