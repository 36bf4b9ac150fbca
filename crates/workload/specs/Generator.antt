-- Commands made by a generator: a linear congruential generator modulo 2^64 with Knuth's constants for MMIX (The Art of
-- Computer Programming, volume 2, section 3.3.4), of whose upper bits each command is made.
use Rattle.std.specs.Prelude.{ℕ, zero, suc, ◌+◌, ◌-◌, ◌*◌, ◌/◌, ◌%◌, ◌^◌, nat_lt, ◌==◌, if◌then◌else◌, List, [], ◌∷◌, ◌++◌, length, replicate, decimal, Some, None}
use Rattle.key_slot.specs.Record.{Bytes}
use Rattle.command_text.specs.declared.command.Command.{Command}
use Rattle.command_text.specs.declared.command.Command.TheVariants.{Nothing, Put, Remove, Batch, Get, Range, Check, Probe, Cost, Open, Next, Prev, Close, OversizedKey, OversizedValue, RepeatedKey, Bad}

-- the number that the generator holds after this one
unfoldable pub next_draw : ℕ → ℕ
next_draw x = (x * 6364136223846793005 + 1442695040888963407) % 2 ^ 64

-- the number that it holds after that many steps from a seed
abbrev pub draw : ℕ → ℕ → ℕ
draw seed zero = seed
draw seed (suc steps) = next_draw (draw seed steps)

-- `k` (107) and a number in five decimal digits, with zeros (48) in front
unfoldable pub key_numbered : ℕ → Bytes
key_numbered n = 107 ∷ (replicate (5 - length (decimal n)) 48 ++ decimal n)

-- Command number i, by a number r below 2^31. Of its remainders by 8, five are a put of i in decimal, and one each a
-- remove, a get, and a range of at most 10 records; the rest of r is the key.
unfoldable pub command_chosen : ℕ → ℕ → Command
command_chosen r i =
    let kind = r % 8 in
    let key = key_numbered (r / 8 % 100000) in
    if nat_lt kind 5 then Put key (decimal i)
    else (if kind == 5 then Remove key
    else (if kind == 6 then Get key
    else Range (Some key) None 10))

-- command number i, by what the generator holds
abbrev pub command_by : ℕ → ℕ → Command
command_by x i = command_chosen (x / 2 ^ 33) i

-- command number i of a seed, from 1 on
abbrev pub command_numbered : ℕ → ℕ → Command
command_numbered seed i = command_by (draw seed i) i

-- the first that many commands of a seed
abbrev pub generated : ℕ → ℕ → List Command
generated zero seed = []
generated (suc count) seed = generated count seed ++ command_numbered seed (suc count) ∷ []

-- a command that binds, takes away, or looks for records
abbrev pub AsksForRecords : Command → Type 0
AsksForRecords (Put key value) = Unit {0}
AsksForRecords (Remove key) = Unit {0}
AsksForRecords (Get key) = Unit {0}
AsksForRecords (Range low high limit) = Unit {0}
AsksForRecords Nothing = ⊥
AsksForRecords (Batch items) = ⊥
AsksForRecords Check = ⊥
AsksForRecords Cost = ⊥
AsksForRecords (Open name low high) = ⊥
AsksForRecords (Next name) = ⊥
AsksForRecords (Prev name) = ⊥
AsksForRecords (Close name) = ⊥
AsksForRecords (Probe key block) = ⊥
AsksForRecords OversizedKey = ⊥
AsksForRecords OversizedValue = ⊥
AsksForRecords RepeatedKey = ⊥
AsksForRecords (Bad why) = ⊥
