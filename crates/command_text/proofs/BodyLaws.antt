-- The code's lines of a session's answers are those that map, height and cursors determine, and array and ledger.
use Rattle.std.proofs.Common.{◌≡◌, ℕ, suc, ◌+◌, Bool, true, false, if◌then◌else◌, List, [], ◌∷◌, ◌++◌, map, length, take, Option, Some, None, refl, sym, ap, ◌∙◌, arith, codes}
use mathlib.Core.List.{append_assoc, append-nil}
use Rattle.std.proofs.lemmas.List.{take-map}
use Rattle.std.specs.FinMap.{contains_key, entries, get, len}
use Rattle.std.specs.List.{filter, flat_map}
use Rattle.std.specs.Option.{option_map_or}
use Rattle.std.specs.Prelude.{◌&&◌, nat_le, nat_lt, is_none, decimal}
use Rattle.std.specs.Str.{bytes_eq}
use Rattle.key_slot.specs.Record.{Bytes, Record}
use Rattle.density_rule.specs.Bounds.{upper_of}
use Rattle.header_gate.specs.declared.layout.Layout.{Layout}
use Rattle.header_gate.specs.declared.layout.TheConstants.{INTENT_VERSION}
use Rattle.header_gate.specs.Places.{height_limit}
use Rattle.map_model.proofs.ItemEffects.{accepts_by}
use Rattle.map_model.proofs.Resuming.{room_cons}
use Rattle.map_model.specs.After.{map_after}
use Rattle.map_model.specs.ArrayState.{plain}
use Rattle.map_model.specs.Cursors.{most_cursors, onward, back, step_in}
use Rattle.map_model.specs.ItemWords.{ItemCounts, no_items, effect_count, count_items}
use Rattle.map_model.specs.Items.{accepts, effects_of, is_full, first_full}
use Rattle.map_model.specs.Scan.{scanned}
use Rattle.map_model.specs.Store.{Map, Update, bind, unbind, Effect, Replaces, Adds, FindsFull, Takes, FindsNone, effect_of}
use Rattle.command_text.specs.Answers.{found_or_absent, row_line, batch_or_full, probe_in, effect_line}
use Rattle.command_text.specs.Bodies.{batch_body, row_body, next_body, AreBodies, effect_body}
use Rattle.command_text.specs.CursorLines.{next_line}
use Rattle.command_text.specs.Printed.{value_word}
use Rattle.command_text.specs.Reply.{counts_body, reply_body, reply_text}
use Rattle.command_text.specs.Session.{Session, exact_bodies, session_answers, session_reply}
use Rattle.command_text.specs.declared.command.Command.{Command}
use Rattle.command_text.specs.declared.command.Command.TheVariants as command
use Rattle.command_text.specs.declared.command.Why.TheVariants as why
use Rattle.command_text.specs.declared.reply.Reply.{Reply}
use Rattle.command_text.specs.declared.reply.Reply.TheVariants as reply
use Rattle.cost_ledger.specs.Ledger.{cost_of}

either_body : (b : Bool) (r q : Reply) → reply_body (if b then r else q) ≡ (if b then reply_body r else reply_body q)
either_body true r q = refl
either_body false r q = refl

-- of two tests, one behind the other
three_bodies : (a b : Bool) (p q r : Reply) → reply_body (if a then p else (if b then q else r)) ≡ (if a then reply_body p else (if b then reply_body q else reply_body r))
three_bodies true b p q r = refl
three_bodies false b p q r = either_body b q r

effect_is : (most : ℕ) (effect : Effect) → reply_body (effect_line most effect) ≡ effect_body most effect
effect_is most Replaces = refl
effect_is most Adds = refl
effect_is most FindsFull = refl
effect_is most Takes = refl
effect_is most FindsNone = refl

-- A batch: what the code counts item by item is how many of them have each effect.

abbrev counts : ℕ → ℕ → ℕ → ℕ → ItemCounts
counts stored replaced removed absent = record { stored = stored; replaced = replaced; removed = removed; absent = absent }

-- how many effects are answered by a word
abbrev told : List ℕ → List Effect → ℕ
told word effects = length (filter (λ e. bytes_eq (effect_body 0 e) word) effects)

abbrev with_effects : ItemCounts → List Effect → ItemCounts
with_effects c effects =
    counts (c.stored + told (codes "stored") effects) (c.replaced + told (codes "replaced") effects)
    (c.removed + told (codes "removed") effects) (c.absent + told (codes "absent") effects)

one_more : (m n : ℕ) → m + 1 + n ≡ m + suc n
one_more m n = omega arith

one_effect : (e : Effect) (c : ItemCounts) (effects : List Effect) → is_full e ≡ false
    → with_effects (effect_count e c) effects ≡ with_effects c (e ∷ effects)
one_effect Replaces c effects fits =
    let more = one_more c.replaced (told (codes "replaced") effects) in
    λ i. record (with_effects c effects) { replaced = more i }
one_effect Adds c effects fits =
    let more = one_more c.stored (told (codes "stored") effects) in
    λ i. record (with_effects c effects) { stored = more i }
one_effect FindsFull c effects fits = absurd cc
one_effect Takes c effects fits =
    let more = one_more c.removed (told (codes "removed") effects) in
    λ i. record (with_effects c effects) { removed = more i }
one_effect FindsNone c effects fits =
    let more = one_more c.absent (told (codes "absent") effects) in
    λ i. record (with_effects c effects) { absent = more i }

counts_are : (hmax : ℕ) (m : Map) (us : List Update) (c : ItemCounts) → first_full hmax m us ≡ None
    → count_items hmax m us c ≡ with_effects c (effects_of hmax m us)
counts_are hmax m [] c none =
    let none_more : (n : ℕ) → n ≡ n + 0 = λ n. omega arith in
    λ i. counts (none_more c.stored i) (none_more c.replaced i) (none_more c.removed i) (none_more c.absent i)
counts_are hmax m (u ∷ us) c none =
    let parts = room_cons (is_full (effect_of hmax m u)) (first_full hmax (map_after hmax m u) us) none in
    counts_are hmax (map_after hmax m u) us (effect_count (effect_of hmax m u) c) parts.1
    ∙ one_effect (effect_of hmax m u) c (effects_of hmax (map_after hmax m u) us) parts.0

-- texts that are joined from the left are those that are joined from the right
joined : (n s a r b m c e d : List ℕ) → n ++ s ++ a ++ r ++ b ++ m ++ c ++ e ++ d ≡ n ++ (s ++ (a ++ (r ++ (b ++ (m ++ (c ++ (e ++ d)))))))
joined n s a r b m c e d =
    append_assoc (n ++ s ++ a ++ r ++ b ++ m ++ c) e d
    ∙ append_assoc (n ++ s ++ a ++ r ++ b ++ m) c (e ++ d)
    ∙ append_assoc (n ++ s ++ a ++ r ++ b) m (c ++ (e ++ d))
    ∙ append_assoc (n ++ s ++ a ++ r) b (m ++ (c ++ (e ++ d)))
    ∙ append_assoc (n ++ s ++ a) r (b ++ (m ++ (c ++ (e ++ d))))
    ∙ append_assoc (n ++ s) a (r ++ (b ++ (m ++ (c ++ (e ++ d)))))
    ∙ append_assoc n s (a ++ (r ++ (b ++ (m ++ (c ++ (e ++ d))))))

counted_body : (c : ItemCounts) (effects : List Effect) → c ≡ with_effects no_items effects
    → counts_body (codes "batch") c.stored c.replaced c.removed c.absent ≡ batch_body effects
counted_body c effects is =
    let from_none : (n : ℕ) → 0 + n ≡ n = λ n. omega arith in
    let number : List ℕ → ℕ = λ word. told word effects in
    ap (λ (c : ItemCounts). counts_body (codes "batch") c.stored c.replaced c.removed c.absent) is
    ∙ (λ i. counts_body (codes "batch") (from_none (number (codes "stored")) i) (from_none (number (codes "replaced")) i)
    (from_none (number (codes "removed")) i) (from_none (number (codes "absent")) i))
    ∙ joined (codes "batch") (codes " stored=") (decimal (number (codes "stored"))) (codes " replaced=") (decimal (number (codes "replaced")))
    (codes " removed=") (decimal (number (codes "removed"))) (codes " absent=") (decimal (number (codes "absent")))
    ∙ sym (ap
    (λ (end : List ℕ).
    codes "batch" ++ (codes " stored=" ++ (decimal (number (codes "stored")) ++ (codes " replaced=" ++ (decimal (number (codes "replaced"))
    ++ (codes " removed=" ++ (decimal (number (codes "removed")) ++ (codes " absent=" ++ end))))))))
    (append-nil (decimal (number (codes "absent")))))

batch_is : (version hmax most : ℕ) (m : Map) (items : List Update)
    → reply_body (if nat_le INTENT_VERSION version then batch_or_full most (count_items hmax m items no_items) (first_full hmax m items) else reply.NoBatch)
    ≡ (if accepts version hmax m items then batch_body (effects_of hmax m items)
    else (if nat_le INTENT_VERSION version then effect_body most FindsFull else codes "no batch"))
batch_is version hmax most m items =
    by_tests (nat_le INTENT_VERSION version) (first_full hmax m items) refl
    ∙ sym (ap (λ (b : Bool). if b then batch_body (effects_of hmax m items) else (if nat_le INTENT_VERSION version then effect_body most FindsFull else codes "no batch"))
    (accepts_by version hmax m items))
  where
    by_tests : (b : Bool) (o : Option ℕ) → first_full hmax m items ≡ o
        → reply_body (if b then batch_or_full most (count_items hmax m items no_items) o else reply.NoBatch)
        ≡ (if b && is_none o then batch_body (effects_of hmax m items) else (if b then effect_body most FindsFull else codes "no batch"))
    by_tests true None none = counted_body (count_items hmax m items no_items) (effects_of hmax m items) (counts_are hmax m items no_items none)
    by_tests true (Some i) full = refl
    by_tests false o is = refl

get_is : (o : Option Bytes) → reply_body (found_or_absent o) ≡ option_map_or (λ value. codes "found" ++ value_word value) o (codes "absent")
get_is None = refl
get_is (Some value) = refl

next_is : (o : Option (Option Record)) → reply_body (next_line o) ≡ next_body o
next_is None = refl
next_is (Some None) = refl
next_is (Some (Some r)) = refl

rows_are : (rows : List Record) (last : Reply) → map reply_body (map row_line rows ++ last ∷ []) ≡ map row_body rows ++ reply_body last ∷ []
rows_are [] last = refl
rows_are (r ∷ rows) last = ap (λ (lines : List (List ℕ)). row_body r ∷ lines) (rows_are rows last)

one_line : {line other : List ℕ} → line ≡ other → line ∷ [] ≡ other ∷ []
one_line same = ap (λ (line : List ℕ). line ∷ []) same

-- the code's lines are those that are defined
pub lines_are : (l : Layout) (x : Session) (c : Command) → map reply_body (session_answers l x c) ≡ exact_bodies l x c
lines_are l x command.Nothing = refl
lines_are l x (command.Put key value) = one_line (effect_is (upper_of (height_limit l)) (effect_of (height_limit l) x.store.map (bind key value)))
lines_are l x (command.Remove key) = one_line (effect_is (upper_of (height_limit l)) (effect_of (height_limit l) x.store.map (unbind key)))
lines_are l x (command.Batch items) = one_line (batch_is l.version (height_limit l) (upper_of (height_limit l)) x.store.map items)
lines_are l x (command.Get key) = one_line (get_is (get x.store.map key))
lines_are l x (command.Range low high limit) = let rows = scanned low high limit (entries x.store.map) in rows_are rows (reply.End (length rows))
lines_are l x command.Check = refl
lines_are l x (command.Probe key block) = refl
lines_are l x command.Cost = refl
lines_are l x (command.Open name low high) = one_line (three_bodies (contains_key x.cursors name) (nat_lt (len x.cursors) most_cursors) reply.CursorOpen reply.Opened reply.NoRoom)
lines_are l x (command.Next name) = one_line (next_is (step_in onward x.store.map x.cursors name))
lines_are l x (command.Prev name) = one_line (next_is (step_in back x.store.map x.cursors name))
lines_are l x (command.Close name) = one_line (either_body (contains_key x.cursors name) reply.Closed reply.NoCursor)
lines_are l x command.OversizedKey = refl
lines_are l x command.OversizedValue = refl
lines_are l x command.RepeatedKey = refl
lines_are l x (command.Bad why.Line) = refl
lines_are l x (command.Bad why.Command) = refl
lines_are l x (command.Bad why.Words) = refl
lines_are l x (command.Bad why.Number) = refl

text_of : (lines : List Reply) → flat_map reply_text lines ≡ flat_map (λ line. line ++ 10 ∷ []) (map reply_body lines)
text_of [] = refl
text_of (r ∷ lines) = ap (λ (text : Bytes). reply_text r ++ text) (text_of lines)

-- and their text is the reply
pub text_are : (l : Layout) (x : Session) (c : Command) → flat_map reply_text (session_answers l x c) ≡ session_reply l x c
text_are l x c = text_of (session_answers l x c) ∙ ap (flat_map (λ (line : Bytes). line ++ 10 ∷ [])) (lines_are l x c)

-- the first of them too
pub front_are : (n : ℕ) (l : Layout) (x : Session) (c : Command)
    → flat_map reply_text (take n (session_answers l x c)) ≡ flat_map (λ line. line ++ 10 ∷ []) (take n (exact_bodies l x c))
front_are n l x c =
    text_of (take n (session_answers l x c))
    ∙ ap (flat_map (λ (line : Bytes). line ++ 10 ∷ [])) (sym (take-map reply_body n (session_answers l x c)) ∙ ap (take n) (lines_are l x c))

-- the lines go by the map
pub exact_are : (l : Layout) (x : Session) (c : Command) → AreBodies l (plain x.store) x.cursors c (exact_bodies l x c)
exact_are l x command.Nothing = refl
exact_are l x (command.Put key value) = refl
exact_are l x (command.Remove key) = refl
exact_are l x (command.Batch items) = refl
exact_are l x (command.Get key) = refl
exact_are l x (command.Range low high limit) = refl
exact_are l x command.Check = refl
exact_are l x (command.Probe key block) = let p = probe_in x.store key block in (p.segment, p.nodes, p.blocks, p.bound, refl)
exact_are l x command.Cost = let c = cost_of x.ledger in (c.updates, c.charge, c.bound, refl)
exact_are l x (command.Open name low high) = refl
exact_are l x (command.Next name) = refl
exact_are l x (command.Prev name) = refl
exact_are l x (command.Close name) = refl
exact_are l x command.OversizedKey = refl
exact_are l x command.OversizedValue = refl
exact_are l x command.RepeatedKey = refl
exact_are l x (command.Bad why) = refl
