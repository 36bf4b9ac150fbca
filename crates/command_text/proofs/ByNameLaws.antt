-- A command read by its name is the command that is defined.
use Rattle.std.proofs.Common.{◌≡◌, ℕ, suc, ◌^◌, ◌<◌, Bool, true, false, cond, List, [], ◌∷◌, length, nat_lt, nat_le, ◌==◌, ◌&&◌, ◌||◌, Option, Some, None, get_or, refl, sym, ap, ◌∙◌, arith, ne_eqb}
use Rattle.std.specs.Prelude.{if◌then◌else◌, slice_index, codes, decimal}
use Rattle.std.specs.Fmt.{digits}
use Rattle.std.specs.Str.{bytes_eq}
use Rattle.std.specs.Str.Parse.{digits_value}
use Rattle.std.proofs.lemmas.Bool.{le-ltb, le-leb}
use Rattle.percent_encoding.specs.Percent.{percent_decode}
use Rattle.percent_encoding.proofs.PercentLemmas.{percent_decode-nil}
use Rattle.key_slot.specs.Format.{value_room}
use Rattle.command_text.specs.Room.{with_key, with_value}
use Rattle.command_text.specs.Words.{words}
use Rattle.command_text.specs.Number.{number_of, if_positive}
use Rattle.command_text.specs.Command.{with_bound, with_number, takes, command_of_words, command_of}
use Rattle.command_text.specs.ByName.{put_read, keyed, range_of, alone, probe_of, open_of, number_then, command_by_name}
use Rattle.command_text.specs.declared.command.Command.{Command}
use Rattle.command_text.specs.declared.command.Command.TheVariants.{Nothing, Put, Remove, Get, Range, Check, Probe, Cost, Open, Next, Prev, Close, OversizedValue, Bad}
use Rattle.command_text.specs.declared.command.Why.TheVariants as why
use Rattle.command_text.proofs.ByFormLaws.{batch_is}

-- Numbers, with and without a least one.

any_number : (word : List ℕ) (next : ℕ → Command) → number_then (number_of word) next ≡ with_number 0 word next
unfolding number_of
any_number word next = pick (nat_lt n (2 ^ 32)) (bytes_eq word (decimal n)) (nat_le 0 n) (le-leb 0 n (omega arith))
  where
    n : ℕ
    n = digits_value 10 word

    pick : (a b c : Bool) → c ≡ true → number_then (cond (a && b) (Some n) None) next ≡ cond (a && b && c) (next n) (Bad why.Number)
    pick true true true is = refl
    pick true true false is = absurd cc
    pick true false c is = refl
    pick false b c is = refl

positive_number : (word : List ℕ) (next : ℕ → Command) → number_then (if_positive (number_of word)) next ≡ with_number 1 word next
unfolding number_of
positive_number word next = pick (nat_lt n (2 ^ 32)) (bytes_eq word (decimal n)) (by_zero n)
  where
    n : ℕ
    n = digits_value 10 word

    by_zero : (m : ℕ) → number_then (if_positive (Some m)) next ≡ cond (nat_le 1 m) (next m) (Bad why.Number)
    by_zero ℕ.zero = refl
    by_zero (suc m) =
        ap (λ b. number_then (cond b None (Some (suc m))) next) (ne_eqb (suc m) 0 (λ e. omega (arith, e)))
        ∙ sym (ap (λ b. cond b (next (suc m)) (Bad why.Number)) (le-leb 1 (suc m) (omega arith)))

    pick : (a b : Bool) → number_then (if_positive (Some n)) next ≡ cond (nat_le 1 n) (next n) (Bad why.Number)
        → number_then (if_positive (cond (a && b) (Some n) None)) next ≡ cond (a && b && nat_le 1 n) (next n) (Bad why.Number)
    pick true true is = is
    pick true false is = refl
    pick false b is = refl

-- no limit's word
greatest : (next : ℕ → Command) → next 4294967295 ≡ with_number 0 (codes "4294967295") next
unfolding digits
greatest next = refl

-- The words of each command.

module _ (f : ℕ) where
  -- the words behind the name, and the key and the value that the first two mean
  abbrev word : List (List ℕ) → ℕ → List ℕ
  word rest i = get_or rest i []

  abbrev key : List (List ℕ) → List ℕ
  key rest = percent_decode (word rest 0)

  abbrev value : List (List ℕ) → List ℕ
  value rest = percent_decode (word rest 1)

  -- more words than a command takes are refused
  more : (n most : ℕ) → most < n → (command : Command) → Bad why.Words ≡ takes (n == most) command
  more n most is command = sym (ap (λ b. takes b command) (ne_eqb n most (λ e. omega (arith, e, is))))

  more_of_two : (n some most : ℕ) → some < n → most < n → (command : Command) → Bad why.Words
      ≡ takes (n == some || n == most) command
  more_of_two n some most is is_most command =
      sym ((λ t. takes (ne_eqb n some (λ e. omega (arith, e, is)) t || ne_eqb n most (λ e. omega (arith, e, is_most)) t) command))

  -- each kind of command
  puts : (rest : List (List ℕ)) → put_read f rest
      ≡ takes (length rest == 1 || length rest == 2)
      (with_key f (key rest) (with_value f (value rest) (Put (key rest) (value rest))))
  puts [] = refl
  puts (k ∷ []) =
      ap (λ (b : Bool). with_key f (percent_decode k) (cond b OversizedValue (Put (percent_decode k) []))) (sym (le-ltb (value_room f) 0 (omega arith)))
      ∙ ap (λ (v : List ℕ). with_key f (percent_decode k) (with_value f v (Put (percent_decode k) v))) (sym percent_decode-nil)
  puts (k ∷ v ∷ []) = refl
  puts (k ∷ v ∷ w ∷ rest) = more_of_two (length (k ∷ v ∷ w ∷ rest)) 1 2 (omega arith) (omega arith) _

  of_key : (command : List ℕ → Command) (rest : List (List ℕ)) → keyed f command rest
      ≡ takes (length rest == 1) (with_key f (key rest) (command (key rest)))
  of_key command [] = refl
  of_key command (k ∷ []) = refl
  of_key command (k ∷ v ∷ rest) = more (length (k ∷ v ∷ rest)) 1 (omega arith) _

  abbrev limited : List (List ℕ) → (Option (List ℕ)) → (Option (List ℕ)) → Command
  limited rest low high = with_number 0 (get_or rest 2 (codes "4294967295")) (λ limit. Range low high limit)

  ranges : (rest : List (List ℕ)) → range_of f rest
      ≡ takes (length rest == 2 || length rest == 3)
      (with_bound f (word rest 0) (λ low. with_bound f (word rest 1) (λ high. limited rest low high)))
  ranges [] = refl
  ranges (l ∷ []) = refl
  ranges (l ∷ h ∷ []) = λ t. with_bound f l (λ low. with_bound f h (λ high. greatest (λ limit. Range low high limit) t))
  ranges (l ∷ h ∷ n ∷ []) = λ t. with_bound f l (λ low. with_bound f h (λ high. any_number n (λ limit. Range low high limit) t))
  ranges (l ∷ h ∷ n ∷ m ∷ rest) = more_of_two (length (l ∷ h ∷ n ∷ m ∷ rest)) 2 3 (omega arith) (omega arith) _

  alones : (command : Command) (rest : List (List ℕ)) → alone command rest ≡ takes (length rest == 0) command
  alones command [] = refl
  alones command (w ∷ rest) = more (length (w ∷ rest)) 0 (omega arith) command

  probes : (rest : List (List ℕ)) → probe_of f rest
      ≡ takes (length rest == 2) (with_key f (key rest) (with_number 1 (word rest 1) (λ block. Probe (key rest) block)))
  probes [] = refl
  probes (k ∷ []) = refl
  probes (k ∷ b ∷ []) = λ t. with_key f (percent_decode k) (positive_number b (λ block. Probe (percent_decode k) block) t)
  probes (k ∷ b ∷ c ∷ rest) = more (length (k ∷ b ∷ c ∷ rest)) 2 (omega arith) _

  opens : (rest : List (List ℕ)) → open_of f rest
      ≡ takes (length rest == 3)
      (with_key f (key rest) (with_bound f (word rest 1) (λ low. with_bound f (word rest 2) (λ high. Open (key rest) low high))))
  opens [] = refl
  opens (n ∷ []) = refl
  opens (n ∷ l ∷ []) = refl
  opens (n ∷ l ∷ h ∷ []) = refl
  opens (n ∷ l ∷ h ∷ m ∷ rest) = more (length (n ∷ l ∷ h ∷ m ∷ rest)) 3 (omega arith) _

  -- all of them
  of_words : (ws : List (List ℕ)) → command_by_name f ws ≡ command_of_words f ws
  of_words [] = refl
  of_words (name ∷ rest) = λ t.
      if slice_index name 0 == 35 then Nothing
      else (if bytes_eq name (codes "put") then puts rest t
      else (if bytes_eq name (codes "remove") then of_key Remove rest t
      else (if bytes_eq name (codes "get") then of_key Get rest t
      else (if bytes_eq name (codes "range") then ranges rest t
      else (if bytes_eq name (codes "check") then alones Check rest t
      else (if bytes_eq name (codes "probe") then probes rest t
      else (if bytes_eq name (codes "batch") then batch_is f rest t
      else (if bytes_eq name (codes "cost") then alones Cost rest t
      else (if bytes_eq name (codes "open") then opens rest t
      else (if bytes_eq name (codes "next") then of_key Next rest t
      else (if bytes_eq name (codes "prev") then of_key Prev rest t
      else (if bytes_eq name (codes "close") then of_key Close rest t
      else Bad why.Command))))))))))))

pub by_name : (f : ℕ) (line : List ℕ) → command_by_name f (words line) ≡ command_of f line
by_name f line = of_words f (words line)
