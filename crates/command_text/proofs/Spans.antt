-- How many bytes of a line its words take, and so how many items they may spell.
use Rattle.std.proofs.Common.{◌≡◌, ℕ, suc, ◌+◌, ◌*◌, ◌<◌, ◌≤◌, Bool, true, false, cond, ◌&&◌, List, [], ◌∷◌, length, map, nat_lt, ◌==◌, refl, ap, subst, arith, length-append}
use Rattle.std.specs.Prelude.{codes}
use Rattle.std.specs.List.{list_all, filter, flat_map, slice_split, onto_first}
use Rattle.std.specs.Str.{bytes_eq}
use Rattle.std.proofs.lemmas.List.{length-map}
use Rattle.std.proofs.lemmas.List.Splits.{length-slice_split}
use Rattle.percent_encoding.specs.Percent.{percent_decode}
use Rattle.percent_encoding.proofs.PercentLemmas.{length-percent_decode}
use Rattle.map_model.specs.Store.{bind, unbind}
use Rattle.batch_intent.specs.declared.places.TheConstants.{INTENT_SIZE}
use Rattle.batch_intent.specs.Spelling.{item_bytes, intent_bytes}
use Rattle.command_text.specs.Words.{words}
use Rattle.command_text.specs.BatchForm.{is_separator, parts, is_item_form, item_of, items_of}
use Rattle.command_text.proofs.WordLaws.{AreWords, words_are}
use Rattle.command_text.proofs.BatchLaws.{AreParts, all_words}

-- the bytes of words, with one behind each
abbrev pub span : List (List ℕ) → ℕ
span [] = 0
span (w ∷ ws) = length w + 1 + span ws

span-onto : (b : ℕ) (ps : List (List ℕ)) → 0 < length ps → span (onto_first b ps) ≡ suc (span ps)
span-onto b [] some = absurd (omega (arith, some))
span-onto b (p ∷ ps) some = omega arith

-- the parts of a line take all of it
span-split : (line : List ℕ) → span (slice_split (λ b. b == 32) line) ≡ length line + 1
span-split [] = refl
span-split (b ∷ line) = pick (b == 32) (span-split line)
  where
    pick : (c : Bool) → span (slice_split (λ b. b == 32) line) ≡ length line + 1 → span (cond c ([] ∷ slice_split (λ b. b == 32) line) (onto_first b (slice_split (λ b. b == 32) line))) ≡ suc (length line) + 1
    pick true rest = omega (arith, rest)
    pick false rest = omega (arith, rest, span-onto b (slice_split (λ b. b == 32) line) (omega (arith, length-slice_split (λ b. b == 32) line)))

span-filter : (p : List ℕ → Bool) (ws : List (List ℕ)) → span (filter p ws) ≤ span ws
span-filter p [] = omega arith
span-filter p (w ∷ ws) = pick (p w) (span-filter p ws)
  where
    pick : (c : Bool) → span (filter p ws) ≤ span ws → span (cond c (w ∷ filter p ws) (filter p ws)) ≤ length w + 1 + span ws
    pick true rest = omega (arith, rest)
    pick false rest = omega (arith, rest)

-- the words of a line take no more than it has
pub words_span : (line : List ℕ) → span (words line) ≤ length line + 1
words_span line = omega (arith, span-split line, span-filter (λ word. nat_lt 0 (length word)) (slice_split (λ b. b == 32) line))

-- the same of the words of items, with two bytes for the separator behind each
abbrev pub spans : List (List (List ℕ)) → ℕ
spans [] = 0
spans (p ∷ ps) = span p + 2 + spans ps

spans-onto : (w : List ℕ) (ps : List (List (List ℕ))) → 0 < length ps → spans (onto_first w ps) ≡ length w + 1 + spans ps
spans-onto w [] some = absurd (omega (arith, some))
spans-onto w (p ∷ ps) some = omega arith

parts_span : (ws : List (List ℕ)) → AreWords ws → spans (parts ws) ≤ span ws + 2
parts_span [] are = omega arith
parts_span (w ∷ ws) are = pick (is_separator w) (parts_span ws are.1)
  where
    pick : (c : Bool) → spans (parts ws) ≤ span ws + 2 → spans (cond c ([] ∷ parts ws) (onto_first w (parts ws))) ≤ length w + 1 + span ws + 2
    pick true rest = omega (arith, rest, are.0)
    pick false rest = omega (arith, rest, spans-onto w (parts ws) (omega (arith, length-slice_split is_separator ws)))

first_of : (a b : Bool) → (a && b) ≡ true → a ≡ true
first_of true b e = refl
first_of false b e = absurd cc

second_of : (a b : Bool) → (a && b) ≡ true → b ≡ true
second_of true b e = e
second_of false b e = absurd cc

-- an item is spelled in no more bytes than its words take, which are 4 at least
item_span : (part : List (List ℕ)) → AreWords part → is_item_form part ≡ true → (length (item_bytes (item_of part)) ≤ span part) × (4 ≤ span part)
item_span [] are form = absurd cc
item_span (name ∷ []) are form = absurd cc
item_span (name ∷ key ∷ []) are form = (pick (bytes_eq name (codes "put")), omega (arith, are.0, are.1.0))
  where
    pick : (b : Bool) → length (item_bytes (cond b (bind (percent_decode key) []) (unbind (percent_decode key)))) ≤ span (name ∷ key ∷ [])
    pick true = omega (arith, are.0, (length-percent_decode key).0, length-append (percent_decode key) [])
    pick false = omega (arith, are.0, (length-percent_decode key).0)
item_span (name ∷ key ∷ value ∷ []) are form =
    (omega (arith, are.0, (length-percent_decode key).0, (length-percent_decode value).0, length-append (percent_decode key) (percent_decode value)), omega (arith, are.0, are.1.0))
item_span (name ∷ key ∷ value ∷ more ∷ rest) are form = absurd cc

items_span : (ps : List (List (List ℕ))) → AreParts ps → list_all is_item_form ps ≡ true
    → (length (flat_map item_bytes (map item_of ps)) + 2 * length ps ≤ spans ps) × (6 * length ps ≤ spans ps)
items_span [] are form = (omega arith, omega arith)
items_span (p ∷ ps) are form =
    let here = item_span p are.0 (first_of (is_item_form p) (list_all is_item_form ps) form) in
    let rest = items_span ps are.1 (second_of (is_item_form p) (list_all is_item_form ps) form) in
    (omega (arith, here.0, rest.0, length-append (item_bytes (item_of p)) (flat_map item_bytes (map item_of ps))), omega (arith, here.1, rest.1))

-- so do those of a batch
pub batch_span : (ws : List (List ℕ)) → AreWords ws → list_all is_item_form (parts ws) ≡ true
    → (length (intent_bytes (items_of ws)) ≤ span ws + 1) × (2 * length (items_of ws) ≤ span ws)
batch_span ws are form =
    let is = items_span (parts ws) (all_words ws are) form in
    let some = length-slice_split is_separator ws in
    let same = length-map (parts ws) item_of in
    (omega (arith, is.0, parts_span ws are, some), omega (arith, is.1, parts_span ws are, some, same))

-- no line of at most 512 bytes has a batch whose intent is too long
pub short_intents : (line : List ℕ) (rest : List (List ℕ)) → length line ≤ INTENT_SIZE → words line ≡ codes "batch" ∷ rest → list_all is_item_form (parts rest) ≡ true
    → length (intent_bytes (items_of rest)) ≤ INTENT_SIZE
short_intents line rest short is form =
    let are : AreWords (codes "batch" ∷ rest) = subst AreWords is (words_are line) in
    omega (arith, short, words_span line, ap span is, (batch_span rest are.1 form).0)
