-- No reason against a file that is to be opened: it means a map.
use Rattle.std.proofs.Common.{◌≡◌, ℕ, Bool, true, false, cond, List, refl, sym, ap, subst, ◌∙◌, Option, Some, None}
use Rattle.header_gate.specs.declared.layout.Layout.{Layout}
use Rattle.header_gate.specs.declared.reason.Reason.{Reason}
use Rattle.header_gate.specs.Header.{layout_in}
use Rattle.header_gate.specs.Places.{height_limit}
use Rattle.header_gate.specs.Reasons.{or_else}
use Rattle.map_model.specs.Store.{Map, Update}
use Rattle.map_model.specs.Items.{first_full}
use Rattle.map_model.specs.After.{map_after_items}
use Rattle.map_model.specs.ItemWords.{AreAdmitted}
use Rattle.map_model.specs.Image.{Represents, map_of, height_of, slot_format}
use Rattle.map_model.specs.FileReasons.{reason_of}
use Rattle.map_model.proofs.Reasonings.{represents_of_none, none_of_represents}
use Rattle.map_model.proofs.ItemEffects.{admitted_where_none}
use Rattle.map_model.proofs.Recovering.{determined}
use Rattle.batch_intent.specs.Spelling.{items_in}
use Rattle.batch_intent.specs.IntentReasons.{wrong_place}
use Rattle.batch_intent.specs.Gate.{intent_area, reason_at, form_reason}
use Rattle.batch_intent.specs.Means.{has_waiting, waiting, Means, meant_map, full_reason, fullness_reason, opening_reason}
use Rattle.batch_intent.proofs.Gates.{length-intent_area}
use Rattle.batch_intent.proofs.Meanings.{none_waiting, some_waiting, means_idle, means_waiting, in_own, items_are}
use Rattle.batch_intent.proofs.Accepted.{nothing_wrong}
use Rattle.batch_intent.proofs.Sound.{spells_of_none}

neither : (first next : Option Reason) → or_else first next ≡ None → (first ≡ None) × (next ≡ None)
neither None next none = (refl, none)
neither (Some r) next none = absurd (cc)

both_none : (first next : Option Reason) → first ≡ None → next ≡ None → or_else first next ≡ None
both_none first next p q = ap (λ (o : Option Reason). or_else o next) p ∙ q

no_place : (o : Option ℕ) → reason_at o ≡ None → o ≡ None
no_place None e = refl
no_place (Some p) e = absurd (cc)

no_full : (area : List ℕ) (o : Option ℕ) → full_reason area o ≡ None → o ≡ None
no_full area None e = refl
no_full area (Some i) e = absurd (cc)

module _ (image : List ℕ) where
  abbrev form_is : Option Reason
  form_is = reason_at (wrong_place (slot_format image) (intent_area image))

  by_waiting : Represents image (map_of image) (height_of image) → (b : Bool) → has_waiting image ≡ b → form_reason (layout_in image) image ≡ None → fullness_reason image ≡ None → Means (layout_in image) image (meant_map image)
  by_waiting is true some none room =
      let right : form_is ≡ None = ap (λ (b : Bool). cond b form_is None) (sym some) ∙ none in
      let spells = spells_of_none (slot_format image) (intent_area image) (length-intent_area image) (no_place (wrong_place (slot_format image) (intent_area image)) right) in
      let admitted = no_full (intent_area image) (first_full (height_limit (layout_in image)) (map_of image) (waiting image)) room in
      let same = some_waiting image some in
      let means = means_waiting image (map_of image) (height_of image) (items_in (intent_area image)) is some spells (subst (AreAdmitted (height_limit (layout_in image)) (map_of image)) same admitted) in
      subst (λ (us : List Update). Means (layout_in image) image (map_after_items (height_limit (layout_in image)) (map_of image) us)) (sym same) means
  by_waiting is false idle none room =
      subst (λ (us : List Update). Means (layout_in image) image (map_after_items (height_limit (layout_in image)) (map_of image) us)) (sym (none_waiting image idle)) (means_idle image (map_of image) (height_of image) is idle)

  pub means_of_none : opening_reason image ≡ None → Means (layout_in image) image (meant_map image)
  unfolding opening_reason
  means_of_none none =
      let parts = neither (reason_of image) (or_else (form_reason (layout_in image) image) (fullness_reason image)) none in
      let own = neither (form_reason (layout_in image) image) (fullness_reason image) parts.1 in
      by_waiting (represents_of_none image parts.0) (has_waiting image) refl own.0 own.1

  form_none : (m : Map) → Means (layout_in image) image m → (b : Bool) → has_waiting image ≡ b → form_reason (layout_in image) image ≡ None
  form_none m means true some =
      ap (λ (b : Bool). cond b form_is None) some
      ∙ ap reason_at (nothing_wrong (slot_format image) means.items (intent_area image) (length-intent_area image) (means.form some))
  form_none m means false idle = ap (λ (b : Bool). cond b form_is None) idle

  none_own : (m : Map) → Means (layout_in image) image m → opening_reason image ≡ None
  unfolding opening_reason
  none_own m means =
      let own = determined image means.base means.height means.represents in
      let admitted = (λ t. first_full (height_limit (layout_in image)) (sym own.0 t) (sym (items_are image m means) t))
      ∙ admitted_where_none (height_limit (layout_in image)) means.base means.items means.admitted in
      both_none (reason_of image) (or_else (form_reason (layout_in image) image) (fullness_reason image)) (none_of_represents image means.base means.height means.represents)
      (both_none (form_reason (layout_in image) image) (fullness_reason image) (form_none m means (has_waiting image) refl) (ap (full_reason (intent_area image)) admitted))

  pub none_of_means : {l : Layout} (m : Map) → Means l image m → opening_reason image ≡ None
  none_of_means m means = none_own m (in_own image m means)
