-- A file of format 1 has room for what a generated command binds and names.
use Rattle.std.proofs.Common.{◌≡◌, ℕ, ◌-◌, ◌/◌, ◌%◌, ◌^◌, ◌<◌, Bool, true, false, cond, ◌==◌, nat_lt, T, length, replicate, decimal, length-append, arith}
use Rattle.std.proofs.lemmas.Fmt.{length-decimal-le}
use Rattle.std.proofs.lemmas.List.{length-replicate}
use Rattle.key_slot.specs.Format.{narrow}
use Rattle.key_slot.specs.Record.{is_record}
use Rattle.key_slot.proofs.SlotLaws.{is_record_by_sizes}
use Rattle.command_text.specs.Command.{IsKey, FitsFormat}
use Rattle.command_text.specs.declared.command.Command.{Command}
use Rattle.workload.specs.Generator.{key_numbered, command_chosen}

key_size : (n : ℕ) → n < 100000 → length (key_numbered n) ≡ 6
unfolding key_numbered
key_size n lt =
    omega (arith, length-append (replicate (5 - length (decimal n)) 48) (decimal n), length-replicate {A = ℕ} (5 - length (decimal n)) 48, length-decimal-le 5 n (omega arith) lt (omega arith))

is_key : (n : ℕ) → n < 100000 → IsKey narrow (key_numbered n)
is_key n lt = (omega (arith, key_size n lt), omega (arith, key_size n lt))

is_put : (n i : ℕ) → n < 100000 → i < 2 ^ 32 → T (is_record narrow (key_numbered n, decimal i))
is_put n i lt small = is_record_by_sizes narrow (key_numbered n, decimal i) (record {
  some = (is_key n lt).0;
  key = (is_key n lt).1;
  value = omega (arith, length-decimal-le 10 i (omega arith) (omega (arith, small)) (omega arith));
})

either : (a : Bool) (c d : Command) → FitsFormat narrow c → FitsFormat narrow d → FitsFormat narrow (cond a c d)
either true c d first second = first
either false c d first second = second

pub chosen_fits : (r i : ℕ) → i < 2 ^ 32 → FitsFormat narrow (command_chosen r i)
unfolding command_chosen
chosen_fits r i small =
    let n = r / 8 % 100000 in
    let lt : n < 100000 = omega arith in
    either (nat_lt (r % 8) 5) _ _ (is_put n i lt small) (either (r % 8 == 5) _ _ (is_key n lt) (either (r % 8 == 6) _ _ (is_key n lt) (is_key n lt, tt)))
