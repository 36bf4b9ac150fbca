-- What holds of each command that a line may ask for: of each kind of command, with records, keys and bounds that fit the
-- slot format.
use Rattle.std.proofs.Common.{◌≡◌, ℕ, suc, ◌+◌, ◌*◌, ◌<◌, ◌≤◌, Bool, true, false, cond, List, [], ◌∷◌, T, length, nat_lt, ◌==◌, Option, Some, None, refl, sym, ap, subst, ◌∙◌, arith, ne_eqb}
use Rattle.std.specs.Prelude.{if◌then◌else◌, slice_index, codes}
use Rattle.std.specs.List.{list_all}
use Rattle.std.specs.Str.{bytes_eq}
use Rattle.std.proofs.lemmas.Bool.{ltb-false}
use Rattle.percent_encoding.specs.Percent.{percent_decode}
use Rattle.percent_encoding.proofs.PercentLemmas.{length-percent_decode}
use Rattle.key_slot.specs.Format.{key_room, value_room}
use Rattle.key_slot.specs.Record.{is_record}
use Rattle.key_slot.proofs.SlotLaws.{is_record_by_sizes}
use Rattle.map_model.specs.Store.{Map, Update, key_of}
use Rattle.header_gate.specs.declared.layout.Layout.{Layout}
use Rattle.header_gate.specs.Places.{height_limit}
use Rattle.map_model.specs.Items.{are_distinct, accepts}
use Rattle.batch_intent.specs.Spelling.{IsIntent, fits_item, bound_value}
use Rattle.command_text.specs.BatchForm.{parts, items_of, is_batch_form, first_oversized, if_sized, batch_by_form}
use Rattle.command_text.specs.Updates.{updates_asked, updates_made}
use Rattle.command_text.specs.Words.{words}
use Rattle.command_text.specs.Number.{number_of, if_positive}
use Rattle.command_text.specs.Command.{IsKey, IsBound, with_bound, command_of}
use Rattle.command_text.specs.ByName.{key_then, value_then, number_then, put_read, keyed, range_of, alone, probe_of, open_of, cursor_named, command_by_name}
use Rattle.command_text.specs.LineReading.{bounded, opened_between}
use Rattle.command_text.specs.declared.command.Command.{Command}
use Rattle.command_text.specs.declared.command.Command.TheVariants.{Nothing, Put, Remove, Batch, Get, Range, Check, Probe, Cost, Open, Next, Prev, Close, OversizedKey, OversizedValue, RepeatedKey, Bad}
use Rattle.command_text.specs.declared.command.Why.TheVariants as why
use Rattle.command_text.proofs.WordLaws.{AreWords, words_are}
use Rattle.command_text.proofs.Spans.{span, words_span, batch_span}
use Rattle.command_text.proofs.BatchLaws.{forms_of, some_items, all_words, keys_are, all_fit}
use Rattle.command_text.proofs.ByNameLaws.{by_name}

-- a property that each kind of command has, in a line of n bytes
pub record OfEachKind (f n : ℕ) (P : Command → Type 0) : Type 0 where
  pub nothing : P Nothing
  pub puts : (key value : List ℕ) → T (is_record f (key, value)) → 2 ≤ n → P (Put key value)
  pub removes : (key : List ℕ) → IsKey f key → 2 ≤ n → P (Remove key)
  pub batches : (items : List Update) → 1 ≤ length items → IsIntent items → T (list_all (fits_item f) items) → 2 * length items ≤ n → P (Batch items)
  pub gets : (key : List ℕ) → IsKey f key → P (Get key)
  pub ranges : (low high : Option (List ℕ)) (limit : ℕ) → IsBound f low → IsBound f high → P (Range low high limit)
  pub checks : P Check
  pub costs : P Cost
  pub opens : (name : List ℕ) (low high : Option (List ℕ)) → IsKey f name → IsBound f low → IsBound f high → P (Open name low high)
  pub nexts : (name : List ℕ) → IsKey f name → P (Next name)
  pub prevs : (name : List ℕ) → IsKey f name → P (Prev name)
  pub closes : (name : List ℕ) → IsKey f name → P (Close name)
  pub probes : (key : List ℕ) (block : ℕ) → IsKey f key → 1 ≤ block → P (Probe key block)
  pub oversized_key : P OversizedKey
  pub oversized_value : P OversizedValue
  pub repeated_key : P RepeatedKey
  pub bad_command : P (Bad why.Command)
  pub bad_words : P (Bad why.Words)
  pub bad_number : P (Bad why.Number)

positive : (n : Option ℕ) (m : ℕ) → if_positive n ≡ Some m → 1 ≤ m
positive None m is = absurd cc
positive (Some ℕ.zero) m is = absurd cc
positive (Some (suc n)) m is =
    let e : Some (suc n) ≡ Some m = sym (ap (λ b. cond b None (Some (suc n))) (ne_eqb (suc n) 0 (λ x. omega (arith, x)))) ∙ is in
    let same : suc n ≡ m = cc in omega (arith, same)

module _ (f n : ℕ) (P : Command → Type 0) (each : OfEachKind f n P) where
  either : (b : Bool) (x y : Command) → (b ≡ true → P x) → (b ≡ false → P y) → P (if b then x else y)
  either true x y first second = first refl
  either false x y first second = second refl

  of_key : (word : List ℕ) (next : List ℕ → Command) → 0 < length word → ((key : List ℕ) → IsKey f key → P (next key)) → P (key_then f word next)
  of_key word next some holds =
      let key = percent_decode word in
      either (nat_lt (key_room f) (length key)) OversizedKey (next key) (λ e. each.oversized_key)
      (λ e. holds key (omega (arith, (length-percent_decode word).1, some), ltb-false (key_room f) (length key) e))

  of_value : (word : List ℕ) (next : List ℕ → Command) → ((value : List ℕ) → length value ≤ value_room f → P (next value)) → P (value_then f word next)
  of_value word next holds =
      let value = percent_decode word in
      either (nat_lt (value_room f) (length value)) OversizedValue (next value) (λ e. each.oversized_value) (λ e. holds value (ltb-false (value_room f) (length value) e))

  of_bound : (word : List ℕ) (next : Option (List ℕ) → Command) → 0 < length word → ((bound : Option (List ℕ)) → IsBound f bound → P (next bound)) → P (with_bound f word next)
  of_bound word next some holds =
      either (bytes_eq word (codes "*")) (next None) (key_then f word (λ key. next (Some key))) (λ e. holds None tt)
      (λ e. of_key word (λ key. next (Some key)) some (λ key is. holds (Some key) is))

  of_number : (n : Option ℕ) (next : ℕ → Command) → ((m : ℕ) → n ≡ Some m → P (next m)) → P (number_then n next)
  of_number None next holds = each.bad_number
  of_number (Some n) next holds = holds n refl

  record_is : (key value : List ℕ) → IsKey f key → length value ≤ value_room f → T (is_record f (key, value))
  record_is key value is short = is_record_by_sizes f (key, value) (record { some = is.0; key = is.1; value = short })

  put_holds : (rest : List (List ℕ)) → AreWords rest → span rest ≤ n → P (put_read f rest)
  put_holds [] are short = each.bad_words
  put_holds (k ∷ []) are short = of_key k (λ key. Put key []) are.0 (λ key is. each.puts key [] (record_is key [] is (omega arith)) (omega (arith, short, are.0)))
  put_holds (k ∷ v ∷ []) are short =
      of_key k (λ key. value_then f v (λ value. Put key value)) are.0 (λ key is.
      of_value v (λ value. Put key value) (λ value fits. each.puts key value (record_is key value is fits) (omega (arith, short, are.0))))
  put_holds (k ∷ v ∷ w ∷ rest) are short = each.bad_words

  remove_holds : (rest : List (List ℕ)) → AreWords rest → span rest ≤ n → P (keyed f Remove rest)
  remove_holds [] are short = each.bad_words
  remove_holds (k ∷ []) are short = of_key k Remove are.0 (λ key is. each.removes key is (omega (arith, short, are.0)))
  remove_holds (k ∷ v ∷ rest) are short = each.bad_words

  key_holds : (next : List ℕ → Command) → ((key : List ℕ) → IsKey f key → P (next key)) → (rest : List (List ℕ)) → AreWords rest → P (keyed f next rest)
  key_holds next holds [] are = each.bad_words
  key_holds next holds (k ∷ []) are = of_key k next are.0 holds
  key_holds next holds (k ∷ v ∷ rest) are = each.bad_words

  bounded_holds : (low high : List ℕ) (limit : Option ℕ) → 0 < length low → 0 < length high → P (bounded f low high limit)
  bounded_holds low high limit some_low some_high =
      of_bound low (λ l. with_bound f high (λ h. number_then limit (λ n. Range l h n))) some_low (λ l l_is.
      of_bound high (λ h. number_then limit (λ n. Range l h n)) some_high (λ h h_is.
      of_number limit (λ n. Range l h n) (λ n e. each.ranges l h n l_is h_is)))

  range_holds : (rest : List (List ℕ)) → AreWords rest → P (range_of f rest)
  range_holds [] are = each.bad_words
  range_holds (l ∷ []) are = each.bad_words
  range_holds (l ∷ h ∷ []) are = bounded_holds l h (Some 4294967295) are.0 are.1.0
  range_holds (l ∷ h ∷ n ∷ []) are = bounded_holds l h (number_of n) are.0 are.1.0
  range_holds (l ∷ h ∷ n ∷ m ∷ rest) are = each.bad_words

  alone_holds : (command : Command) → P command → (rest : List (List ℕ)) → P (alone command rest)
  alone_holds command holds [] = holds
  alone_holds command holds (w ∷ rest) = each.bad_words

  probe_holds : (rest : List (List ℕ)) → AreWords rest → P (probe_of f rest)
  probe_holds [] are = each.bad_words
  probe_holds (k ∷ []) are = each.bad_words
  probe_holds (k ∷ b ∷ []) are =
      of_key k (λ key. number_then (if_positive (number_of b)) (λ n. Probe key n)) are.0 (λ key is.
      of_number (if_positive (number_of b)) (λ n. Probe key n) (λ n e. each.probes key n is (positive (number_of b) n e)))
  probe_holds (k ∷ b ∷ c ∷ rest) are = each.bad_words

  open_holds : (rest : List (List ℕ)) → AreWords rest → P (open_of f rest)
  open_holds [] are = each.bad_words
  open_holds (w ∷ []) are = each.bad_words
  open_holds (w ∷ l ∷ []) are = each.bad_words
  open_holds (w ∷ l ∷ h ∷ []) are =
      of_key w (λ name. opened_between f name l h) are.0 (λ name is.
      of_bound l (λ low. with_bound f h (λ high. Open name low high)) are.1.0 (λ low low_is.
      of_bound h (λ high. Open name low high) are.1.1.0 (λ high high_is. each.opens name low high is low_is high_is)))
  open_holds (w ∷ l ∷ h ∷ v ∷ rest) are = each.bad_words

  cursor_holds : (name : List ℕ) (rest : List (List ℕ)) → AreWords rest → P (cursor_named f name rest)
  cursor_holds name rest are =
      either (bytes_eq name (codes "open")) _ _ (λ e. open_holds rest are) (λ e.
      either (bytes_eq name (codes "next")) _ _ (λ e. key_holds Next each.nexts rest are) (λ e.
      either (bytes_eq name (codes "prev")) _ _ (λ e. key_holds Prev each.prevs rest are) (λ e.
      either (bytes_eq name (codes "close")) _ _ (λ e. key_holds Close each.closes rest are) (λ e. each.bad_command))))

  -- the refusal of a size
  abbrev HoldsOf : Option Command → Type 0
  HoldsOf None = Unit {0}
  HoldsOf (Some refused) = P refused

  sizes_hold : (us : List Update) → HoldsOf (first_oversized f us)
  sizes_hold [] = tt
  sizes_hold (u ∷ us) = pick (nat_lt (key_room f) (length (key_of u))) (Some OversizedKey) _ each.oversized_key (pick (nat_lt (value_room f) (length (bound_value u))) (Some OversizedValue) _ each.oversized_value (sizes_hold us))
    where
      pick : (b : Bool) (x y : Option Command) → HoldsOf x → HoldsOf y → HoldsOf (cond b x y)
      pick true x y first second = first
      pick false x y first second = second

  sized_holds : (o : Option Command) (us : List Update) → HoldsOf o → (o ≡ None → are_distinct us ≡ true → P (Batch us)) → P (if_sized o us)
  sized_holds (Some refused) us holds batch = holds
  sized_holds None us holds batch = either (are_distinct us) (Batch us) RepeatedKey (batch refl) (λ e. each.repeated_key)

  batch_holds : (rest : List (List ℕ)) → AreWords rest → span rest ≤ n → P (batch_by_form f rest)
  batch_holds rest are short =
      either (is_batch_form rest) (if_sized (first_oversized f (items_of rest)) (items_of rest)) (Bad why.Words)
      (λ e.
      let form = forms_of rest e in
      sized_holds (first_oversized f (items_of rest)) (items_of rest) (sizes_hold (items_of rest)) (λ sized distinct.
      each.batches (items_of rest) (some_items rest) (record { most = form.most; distinct = distinct; size = form.size })
      (all_fit f (items_of rest) (keys_are (parts rest) (all_words rest are) form.items) sized) (omega (arith, short, (batch_span rest are form.items).1))))
      (λ e. each.bad_words)

  words_hold : (ws : List (List ℕ)) → AreWords ws → span ws ≤ n + 1 → P (command_by_name f ws)
  words_hold [] are short = each.nothing
  words_hold (name ∷ rest) are short =
      let behind : span rest ≤ n = omega (arith, short) in
      either (slice_index name 0 == 35) _ _ (λ e. each.nothing) (λ e.
      either (bytes_eq name (codes "put")) _ _ (λ e. put_holds rest are.1 behind) (λ e.
      either (bytes_eq name (codes "remove")) _ _ (λ e. remove_holds rest are.1 behind) (λ e.
      either (bytes_eq name (codes "get")) _ _ (λ e. key_holds Get each.gets rest are.1) (λ e.
      either (bytes_eq name (codes "range")) _ _ (λ e. range_holds rest are.1) (λ e.
      either (bytes_eq name (codes "check")) _ _ (λ e. alone_holds Check each.checks rest) (λ e.
      either (bytes_eq name (codes "probe")) _ _ (λ e. probe_holds rest are.1) (λ e.
      either (bytes_eq name (codes "batch")) _ _ (λ e. batch_holds rest are.1 behind) (λ e.
      either (bytes_eq name (codes "cost")) _ _ (λ e. alone_holds Cost each.costs rest) (λ e. cursor_holds name rest are.1)))))))))

pub line_holds : (f : ℕ) (P : Command → Type 0) (line : List ℕ) → OfEachKind f (length line) P → P (command_of f line)
line_holds f P line each = subst P (by_name f line) (words_hold f (length line) P each (words line) (words_are line) (words_span line))

-- a line asks for at most half as many updates as it has bytes
pub few_asked : (f : ℕ) (line : List ℕ) → 2 * length (updates_asked (command_of f line)) ≤ length line
few_asked f line = line_holds f (λ c. 2 * length (updates_asked c) ≤ length line) line (record {
  nothing = omega arith;
  puts = λ key value is few. few;
  removes = λ key is few. few;
  batches = λ items some intent fit few. few;
  gets = λ key is. omega arith;
  ranges = λ low high limit low_is high_is. omega arith;
  checks = omega arith;
  costs = omega arith;
  opens = λ name low high is low_is high_is. omega arith;
  nexts = λ name is. omega arith;
  prevs = λ name is. omega arith;
  closes = λ name is. omega arith;
  probes = λ key block is some. omega arith;
  oversized_key = omega arith;
  oversized_value = omega arith;
  repeated_key = omega arith;
  bad_command = omega arith;
  bad_words = omega arith;
  bad_number = omega arith;
})

-- and a command makes no more than it asks for
pub made_as_asked : (l : Layout) (m : Map) (c : Command) → length (updates_made l m c) ≤ length (updates_asked c)
made_as_asked l m Nothing = omega arith
made_as_asked l m (Put key value) = omega arith
made_as_asked l m (Remove key) = omega arith
made_as_asked l m (Batch items) = pick (accepts l.version (height_limit l) m items)
  where
    pick : (b : Bool) → length (cond b items []) ≤ length items
    pick true = omega arith
    pick false = omega arith
made_as_asked l m (Get key) = omega arith
made_as_asked l m (Range low high limit) = omega arith
made_as_asked l m Check = omega arith
made_as_asked l m (Probe key block) = omega arith
made_as_asked l m Cost = omega arith
made_as_asked l m (Open name low high) = omega arith
made_as_asked l m (Next name) = omega arith
made_as_asked l m (Prev name) = omega arith
made_as_asked l m (Close name) = omega arith
made_as_asked l m OversizedKey = omega arith
made_as_asked l m OversizedValue = omega arith
made_as_asked l m RepeatedKey = omega arith
made_as_asked l m (Bad why) = omega arith
