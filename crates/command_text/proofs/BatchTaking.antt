-- The items of a batch taken one by one into an intent.
use Rattle.std.proofs.Common.{◌≡◌, ℕ, ◌+◌, ◌≤◌, Bool, true, false, cond, ◌&&◌, List, [], ◌∷◌, ◌++◌, length, map, take, get_or, nat_lt, ◌||◌, Option, Some, None, Result, Ok, Err, is_err, MatchResult, refl, sym, ap, subst, ◌∙◌, arith, length-append, append_assoc, append-nil}
use Rattle.std.specs.List.{list_all, flat_map}
use Rattle.std.proofs.lemmas.Bool.{le-ltb, lt-leb}
use Rattle.std.proofs.lemmas.List.{length-map}
use Rattle.std.proofs.lemmas.List.Concat.{flat_map-append}
use Rattle.std.proofs.lemmas.List.Splits.{length-slice_split}
use Rattle.std.proofs.Math.Seq.{take-append_seam, get_or-append_seam}
use Rattle.map_model.specs.Store.{Update, key_of}
use Rattle.map_model.specs.Items.{are_distinct}
use Rattle.map_model.specs.ItemWords.{has_item}
use Rattle.map_model.proofs.Resuming.{none_before}
use Rattle.batch_intent.specs.declared.intent.IntentFault.{IntentFault}
use Rattle.batch_intent.specs.declared.intent.IntentFault.TheVariants.{TooMany, Repeated, TooLong}
use Rattle.batch_intent.specs.declared.intent.TheConstants.{MOST_ITEMS}
use Rattle.batch_intent.specs.declared.places.TheConstants.{INTENT_SIZE}
use Rattle.batch_intent.specs.Pushing.{push_fault}
use Rattle.batch_intent.specs.Spelling.{item_bytes, intent_bytes}
use Rattle.command_text.specs.Words.{words}
use Rattle.command_text.specs.declared.command.Command.{Command}
use Rattle.command_text.specs.declared.command.Command.TheVariants.{Batch, RepeatedKey}
use Rattle.command_text.specs.BatchForm.{is_separator, parts, is_item_form, item_of, items_of, is_batch_form, first_oversized, if_sized}
use Rattle.command_text.specs.BatchWords.{item_read, parts_behind, BeginsWith}
use Rattle.command_text.proofs.BatchLaws.{forms_of}

-- an item whose key one before it has
repeats : (us : List Update) (u : Update) (vs : List Update) → has_item (key_of u) us ≡ true → are_distinct (us ++ u ∷ vs) ≡ false
repeats us u vs found = by_test (are_distinct (us ++ u ∷ vs)) refl
  where
    there : get_or (us ++ u ∷ vs) (length us) u ≡ u
    there = get_or-append_seam us u vs u

    before : take (length us) (us ++ u ∷ vs) ≡ us
    before = take-append_seam us (u ∷ vs)

    by_test : (b : Bool) → are_distinct (us ++ u ∷ vs) ≡ b → b ≡ false
    by_test false e = refl
    by_test true e =
        let missing = none_before (us ++ u ∷ vs) (length us) u (omega (arith, length-append us (u ∷ vs))) e in
        let e : false ≡ true = sym missing ∙ (λ t. has_item (key_of (there t)) (before t)) ∙ found in absurd cc

-- what stands in the way of an item of an intent that has room for it
pushed : (us : List Update) (u : Update) (vs : List Update) → length (us ++ u ∷ vs) ≤ MOST_ITEMS → length (intent_bytes (us ++ u ∷ vs)) ≤ INTENT_SIZE
    → push_fault us u ≡ cond (has_item (key_of u) us) (Some Repeated) None
pushed us u vs few short =
    let some = lt-leb MOST_ITEMS (length us) (omega (arith, few, length-append us (u ∷ vs))) in
    let room = le-ltb INTENT_SIZE (length (intent_bytes (us ++ u ∷ []))) (omega (
      arith,
      short,
      ap length (flat_map-append item_bytes us (u ∷ vs)),
      ap length (flat_map-append item_bytes us (u ∷ [])),
      length-append (flat_map item_bytes us) (flat_map item_bytes (u ∷ vs)),
      length-append (flat_map item_bytes us) (flat_map item_bytes (u ∷ [])),
      length-append (item_bytes u) (flat_map item_bytes vs),
      length-append (item_bytes u) [],
    )) in
    ap (λ b. cond b (Some TooMany) (cond (has_item (key_of u) us) (Some Repeated) (cond (nat_lt INTENT_SIZE (length (intent_bytes (us ++ u ∷ [])))) (Some TooLong) None))) some
    ∙ ap (λ b. cond (has_item (key_of u) us) (Some Repeated) (cond b (Some TooLong) None)) room

-- some items of the words were taken into the intent, unless a key was repeated, and these words are left
pub record Taken (f : ℕ) (whole left : List (List ℕ)) (i : ℕ) (intent : List Update) (repeated : Bool) : Type 0 where
  pub form : list_all is_item_form (parts left) ≡ true
  pub count : i + length (parts left) ≤ MOST_ITEMS
  pub sizes : first_oversized f (items_of whole) ≡ first_oversized f (items_of left)
  pub fresh : repeated ≡ false → items_of whole ≡ intent ++ items_of left
  pub twice : repeated ≡ true → are_distinct (items_of whole) ≡ false

pub taken_none : (f : ℕ) (ws : List (List ℕ)) (intent : List Update) → is_batch_form ws ≡ true → intent ≡ [] → Taken f ws ws 0 intent false
taken_none f ws intent form none =
    let is = forms_of ws form in
    record {
      form = is.items;
      count = omega (arith, is.most, length-map (parts ws) item_of);
      sizes = refl;
      fresh = λ _. ap (λ (us : List Update). us ++ items_of ws) (sym none);
      twice = λ e. absurd cc;
    }

module _ (f : ℕ) (whole left : List (List ℕ)) (i : ℕ) (intent : List Update) (repeated : Bool) (so_far : Taken f whole left i intent repeated) where
  pub none_left : MOST_ITEMS ≤ i → ⊥
  none_left all = absurd (omega (arith, all, so_far.count, length-slice_split is_separator left))

  module _ (puts : Bool) (key value : List ℕ) (behind : Option (List ℕ)) (begins : BeginsWith left puts key value behind) where
    abbrev u : Update
    u = item_read puts key value

    split : items_of left ≡ u ∷ map item_of (parts_behind behind)
    split = ap (map item_of) begins.splits ∙ ap (λ (v : Update). v ∷ map item_of (parts_behind behind)) begins.item_is

    form_behind : (rest : List ℕ) → behind ≡ Some rest → list_all is_item_form (parts (words rest)) ≡ true
    form_behind rest more =
        ap (λ (o : Option (List ℕ)). list_all is_item_form (parts_behind o)) (sym more)
        ∙ sym (ap (list_all is_item_form) begins.splits ∙ ap (λ b. b && list_all is_item_form (parts_behind behind)) begins.form)
        ∙ so_far.form

    count_behind : (rest : List ℕ) → behind ≡ Some rest → i + 1 + length (parts (words rest)) ≤ MOST_ITEMS
    count_behind rest more = omega (arith, so_far.count, ap length begins.splits, ap (λ (o : Option (List ℕ)). length (parts_behind o)) more)

    abbrev vs : List Update
    vs = map item_of (parts_behind behind)

    pub refuses : (refused : Command) → ((us : List Update) → first_oversized f (item_read puts key value ∷ us) ≡ Some refused) → refused ≡ if_sized (first_oversized f (items_of whole)) (items_of whole)
    refuses refused is = sym (ap (λ (o : Option Command). if_sized o (items_of whole)) (so_far.sizes ∙ ap (first_oversized f) split ∙ is vs))

    module _ (form : is_batch_form whole ≡ true) {R : Type 0} (result : Result R IntentFault) (new : List Update)
        (outcome : MatchResult result (λ _. (push_fault intent u ≡ None) × (new ≡ intent ++ u ∷ [])) (λ fault. (push_fault intent u ≡ Some fault) × (new ≡ intent))) where
      whole_is : repeated ≡ false → items_of whole ≡ intent ++ u ∷ vs
      whole_is isnt = so_far.fresh isnt ∙ ap (λ (us : List Update). intent ++ us) split

      fault_is : repeated ≡ false → push_fault intent u ≡ cond (has_item (key_of u) intent) (Some Repeated) None
      fault_is isnt =
          let is = forms_of whole form in
          pushed intent u vs (subst (λ (us : List Update). length us ≤ MOST_ITEMS) (whole_is isnt) is.most) (subst (λ (us : List Update). length (intent_bytes us) ≤ INTENT_SIZE) (whole_is isnt) is.size)

      -- a push that fails finds the key
      found : (fault : IntentFault) (b : Bool) → Some fault ≡ cond b (Some Repeated) None → b ≡ true
      found fault true e = refl
      found fault false e = absurd cc

      pub still_fresh : (repeated || is_err result) ≡ false → items_of whole ≡ new ++ vs
      still_fresh isnt = by_cases repeated result refl outcome isnt
        where
          by_cases : (b : Bool) (r : Result R IntentFault) → repeated ≡ b
              → MatchResult r (λ _. (push_fault intent u ≡ None) × (new ≡ intent ++ u ∷ [])) (λ fault. (push_fault intent u ≡ Some fault) × (new ≡ intent))
              → (b || is_err r) ≡ false → items_of whole ≡ new ++ vs
          by_cases true r e is isnt = absurd cc
          by_cases false (Err fault) e is isnt = absurd cc
          by_cases false (Ok done) e is isnt = whole_is e ∙ sym (append_assoc intent (u ∷ []) vs) ∙ ap (λ (us : List Update). us ++ vs) (sym is.1)

      pub now_twice : (repeated || is_err result) ≡ true → are_distinct (items_of whole) ≡ false
      now_twice so = by_cases repeated result refl outcome so
        where
          by_cases : (b : Bool) (r : Result R IntentFault) → repeated ≡ b
              → MatchResult r (λ _. (push_fault intent u ≡ None) × (new ≡ intent ++ u ∷ [])) (λ fault. (push_fault intent u ≡ Some fault) × (new ≡ intent))
              → (b || is_err r) ≡ true → are_distinct (items_of whole) ≡ false
          by_cases true r e is so = so_far.twice e
          by_cases false (Ok done) e is so = absurd cc
          by_cases false (Err fault) e is so = ap are_distinct (whole_is e) ∙ repeats intent u vs (found fault (has_item (key_of u) intent) (sym is.0 ∙ fault_is e))

      module _ (sized : (us : List Update) → first_oversized f (u ∷ us) ≡ first_oversized f us) where
        sizes_behind : first_oversized f (items_of whole) ≡ first_oversized f vs
        sizes_behind = so_far.sizes ∙ ap (first_oversized f) split ∙ sized vs

        pub taken_next : (rest : List ℕ) → behind ≡ Some rest → Taken f whole (words rest) (i + 1) new (repeated || is_err result)
        taken_next rest more =
            let is_rest : vs ≡ items_of (words rest) = ap (λ (o : Option (List ℕ)). map item_of (parts_behind o)) more in
            record {
              form = form_behind rest more;
              count = count_behind rest more;
              sizes = sizes_behind ∙ ap (first_oversized f) is_rest;
              fresh = λ isnt. still_fresh isnt ∙ ap (λ (us : List Update). new ++ us) is_rest;
              twice = now_twice;
            }

        -- no word is left
        pub done : behind ≡ None → are_distinct new ≡ true → (b : Bool) → (repeated || is_err result) ≡ b → cond b RepeatedKey (Batch new) ≡ if_sized (first_oversized f (items_of whole)) (items_of whole)
        done none distinct b is =
            let gone : vs ≡ [] = ap (λ (o : Option (List ℕ)). map item_of (parts_behind o)) none in
            sym (ap (λ (o : Option Command). if_sized o (items_of whole)) (sizes_behind ∙ ap (first_oversized f) gone) ∙ by_test b is gone)
          where
            by_test : (b : Bool) → (repeated || is_err result) ≡ b → vs ≡ [] → cond (are_distinct (items_of whole)) (Batch (items_of whole)) RepeatedKey ≡ cond b RepeatedKey (Batch new)
            by_test true is gone = ap (λ b. cond b (Batch (items_of whole)) RepeatedKey) (now_twice is)
            by_test false is gone =
                let same : items_of whole ≡ new = still_fresh is ∙ ap (λ (us : List Update). new ++ us) gone ∙ append-nil new in
                ap (λ b. cond b (Batch (items_of whole)) RepeatedKey) (ap are_distinct same ∙ distinct) ∙ ap Batch same
