-- A batch read by its form is the batch that is defined.
use Rattle.std.proofs.Common.{◌≡◌, ℕ, ◌<◌, ◌≤◌, inl, inr, Bool, true, false, cond, ◌&&◌, ◌||◌, ◌==◌, List, [], ◌∷◌, length, map, nat_lt, nat_le, Option, Some, None, refl, sym, ap, ◌∙◌, arith, ne_eqb, eq-eqb}
use Rattle.std.specs.Prelude.{codes}
use Rattle.std.specs.List.{list_all, filter_map, cons_option}
use Rattle.std.specs.Str.{bytes_eq}
use Rattle.std.proofs.lemmas.Bool.{cases_Bool}
use Rattle.std.proofs.lemmas.List.{length-map}
use Rattle.percent_encoding.specs.Percent.{percent_decode}
use Rattle.key_slot.specs.Format.{key_room, value_room}
use Rattle.map_model.specs.Store.{Update, bind, unbind, key_of}
use Rattle.map_model.specs.Items.{are_distinct}
use Rattle.batch_intent.specs.declared.intent.TheConstants.{MOST_ITEMS}
use Rattle.batch_intent.specs.declared.places.TheConstants.{INTENT_SIZE}
use Rattle.batch_intent.specs.Spelling.{intent_bytes, bound_value}
use Rattle.command_text.specs.Batch.{batch_item, with_items, batch_of}
use Rattle.command_text.specs.BatchForm.{parts, is_item_form, item_of, items_of, first_oversized, if_sized, batch_by_form}
use Rattle.command_text.specs.declared.command.Command.{Command}
use Rattle.command_text.specs.declared.command.Command.TheVariants.{Batch, OversizedKey, OversizedValue, RepeatedKey, Bad}
use Rattle.command_text.specs.declared.command.Why.TheVariants as why

-- one item
item_is : (part : List (List ℕ)) → batch_item part ≡ cond (is_item_form part) (Some (item_of part)) None
item_is [] = refl
item_is (name ∷ []) = refl
item_is (name ∷ k ∷ []) = pick (bytes_eq name (codes "put")) (bytes_eq name (codes "remove"))
  where
    pick : (a b : Bool) → cond a (Some (bind (percent_decode k) [])) (cond b (Some (unbind (percent_decode k))) None)
        ≡ cond (a || b) (Some (cond a (bind (percent_decode k) []) (unbind (percent_decode k)))) None
    pick true b = refl
    pick false true = refl
    pick false false = refl
item_is (name ∷ k ∷ v ∷ []) = refl
item_is (name ∷ k ∷ v ∷ w ∷ rest) = refl

-- one item more, if it has the form
item_more : (p : List (List ℕ)) (us : List Update) → is_item_form p ≡ true → cons_option (batch_item p) us ≡ item_of p ∷ us
item_more p us is = ap (λ (o : Option Update). cons_option o us) (item_is p ∙ ap (λ b. cond b (Some (item_of p)) None) is)

-- and none, if it has not
item_less : (p : List (List ℕ)) (us : List Update) → is_item_form p ≡ false → cons_option (batch_item p) us ≡ us
item_less p us is = ap (λ (o : Option Update). cons_option o us) (item_is p ∙ ap (λ b. cond b (Some (item_of p)) None) is)

-- all the items, if each has the form
all_items : (ps : List (List (List ℕ))) → list_all is_item_form ps ≡ true → filter_map batch_item ps ≡ map item_of ps
all_items [] form = refl
all_items (p ∷ ps) form = by_test (is_item_form p) refl form (all_items ps)
  where
    by_test : (b : Bool) → is_item_form p ≡ b → (b && list_all is_item_form ps) ≡ true
        → (list_all is_item_form ps ≡ true → filter_map batch_item ps ≡ map item_of ps)
        → filter_map batch_item (p ∷ ps) ≡ map item_of (p ∷ ps)
    by_test true is rest others = item_more p (filter_map batch_item ps) is ∙ ap (λ (us : List Update). item_of p ∷ us) (others rest)
    by_test false is rest others = absurd cc

-- no more items than parts
few : (ps : List (List (List ℕ))) → length (filter_map batch_item ps) ≤ length ps
few [] = omega arith
few (p ∷ ps) = pick (batch_item p) (few ps)
  where
    pick : (o : Option Update) → length (filter_map batch_item ps) ≤ length ps
        → length (cons_option o (filter_map batch_item ps)) ≤ length (p ∷ ps)
    pick None rest = omega (arith, rest)
    pick (Some u) rest = omega (arith, rest)

-- and fewer, if some part has not the form
fewer : (ps : List (List (List ℕ))) → list_all is_item_form ps ≡ false → length (filter_map batch_item ps) < length ps
fewer [] form = absurd cc
fewer (p ∷ ps) form = by_test (is_item_form p) refl form (fewer ps)
  where
    by_test : (b : Bool) → is_item_form p ≡ b → (b && list_all is_item_form ps) ≡ false
        → (list_all is_item_form ps ≡ false → length (filter_map batch_item ps) < length ps)
        → length (filter_map batch_item (p ∷ ps)) < length (p ∷ ps)
    by_test true is rest others = omega (arith, others rest, ap length (item_more p (filter_map batch_item ps) is))
    by_test false is rest others = omega (arith, few ps, ap length (item_less p (filter_map batch_item ps) is))

-- their sizes
abbrev or_refused : Option Command → Command → Command
or_refused (Some refused) command = refused
or_refused None command = command

sizes_are : (f : ℕ) (us : List Update) (command : Command) → with_items f us command ≡ or_refused (first_oversized f us) command
sizes_are f [] command = refl
sizes_are f (u ∷ us) command =
    pick (nat_lt (key_room f) (length (key_of u))) (nat_lt (value_room f) (length (bound_value u))) (sizes_are f us command)
  where
    pick : (a b : Bool) → with_items f us command ≡ or_refused (first_oversized f us) command
        → cond a OversizedKey (cond b OversizedValue (with_items f us command))
        ≡ or_refused (cond a (Some OversizedKey) (cond b (Some OversizedValue) (first_oversized f us))) command
    pick true b others = refl
    pick false true others = refl
    pick false false others = others

if_sized_is : (o : Option Command) (us : List Update) → or_refused o (cond (are_distinct us) (Batch us) RepeatedKey) ≡ if_sized o us
if_sized_is None us = refl
if_sized_is (Some refused) us = refl

-- what a batch of these parts is, whose items are these
abbrev batch_with : ℕ → List (List (List ℕ)) → List Update → Command
batch_with f ps us =
    cond (length us == length ps && nat_le (length ps) MOST_ITEMS && nat_le (length (intent_bytes us)) INTENT_SIZE)
    (with_items f us (cond (are_distinct us) (Batch us) RepeatedKey)) (Bad why.Words)

module _ (f : ℕ) (ws : List (List ℕ)) where
  abbrev ps : List (List (List ℕ))
  ps = parts ws

  abbrev us : List Update
  us = items_of ws

  abbrev read : List Update
  read = filter_map batch_item ps

  abbrev few_parts : Bool
  few_parts = nat_le (length ps) MOST_ITEMS

  abbrev fits : List Update → Bool
  fits items = nat_le (length (intent_bytes items)) INTENT_SIZE

  sized : with_items f us (cond (are_distinct us) (Batch us) RepeatedKey) ≡ if_sized (first_oversized f us) us
  sized = sizes_are f us (cond (are_distinct us) (Batch us) RepeatedKey) ∙ if_sized_is (first_oversized f us) us

  pub batch_is : batch_by_form f ws ≡ batch_of f ws
  batch_is = elim (cases_Bool (list_all is_item_form ps)) [
    | inl form ↦
        (λ t. cond (form t && (few_parts && fits us)) (sym sized t) (Bad why.Words))
        ∙ (λ t. cond (sym (eq-eqb (length us) (length ps) (length-map ps item_of)) t && few_parts && fits us)
        (with_items f us (cond (are_distinct us) (Batch us) RepeatedKey)) (Bad why.Words))
        ∙ ap (batch_with f ps) (sym (all_items ps form))
    | inr other ↦
        (λ t. cond (other t && (few_parts && fits us)) (if_sized (first_oversized f us) us) (Bad why.Words))
        ∙ sym (ap (λ b. cond (b && few_parts && fits read) (with_items f read (cond (are_distinct read) (Batch read) RepeatedKey)) (Bad why.Words))
        (ne_eqb (length read) (length ps) (λ e. omega (arith, e, fewer ps other))))
  ]
