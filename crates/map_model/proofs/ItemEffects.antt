-- A store makes items exactly if none of them is the first that meets a full store, that is, if no item's effect is to find it full.
use Rattle.std.proofs.Common.{◌≡◌, ℕ, suc, Bool, true, false, cond, not, ◌&&◌, ◌||◌, List, [], ◌∷◌, Option, Some, None, is_none, refl, ap, sym, ◌∙◌}
use mathlib.Core.Bool.{true≢false}
use Rattle.std.specs.Prelude.{nat_le}
use Rattle.std.specs.List.{list_any}
use Rattle.std.specs.Option.{option_map}
use Rattle.header_gate.specs.declared.layout.TheConstants.{INTENT_VERSION}
use Rattle.map_model.specs.After.{map_after}
use Rattle.map_model.specs.ItemWords.{AreAdmitted}
use Rattle.map_model.specs.Items.{effects_of, is_full, accepts, first_full}
use Rattle.map_model.specs.Store.{Map, Update, effect_of}

-- with one item before them
one_more : (b r : Bool) (o : Option ℕ) → is_none o ≡ not r → is_none (cond b (Some 0) (option_map (λ i. suc i) o)) ≡ not (b || r)
one_more true r o same = refl
one_more false r None same = same
one_more false r (Some i) same = same

none_full : (hmax : ℕ) (m : Map) (us : List Update) → is_none (first_full hmax m us) ≡ not (list_any is_full (effects_of hmax m us))
none_full hmax m [] = refl
none_full hmax m (u ∷ us) =
    one_more (is_full (effect_of hmax m u)) (list_any is_full (effects_of hmax (map_after hmax m u) us)) (first_full hmax (map_after hmax m u) us)
    (none_full hmax (map_after hmax m u) us)

pub accepts_by : (version hmax : ℕ) (m : Map) (us : List Update)
    → accepts version hmax m us ≡ (nat_le INTENT_VERSION version && is_none (first_full hmax m us))
accepts_by version hmax m us = ap (λ (b : Bool). nat_le INTENT_VERSION version && b) (sym (none_full hmax m us))

none_of : (o : Option ℕ) (b : Bool) → is_none o ≡ not b → b ≡ false → o ≡ None
none_of None b same low = refl
none_of (Some i) false same low = absurd (true≢false (sym same))
none_of (Some i) true same low = absurd (true≢false low)

low_of : (o : Option ℕ) (b : Bool) → is_none o ≡ not b → o ≡ None → b ≡ false
low_of o false same none = refl
low_of o true same none = absurd (true≢false (sym (ap is_none none) ∙ same))

pub none_finds_full : (hmax : ℕ) (m : Map) (us : List Update) → AreAdmitted hmax m us → list_any is_full (effects_of hmax m us) ≡ false
none_finds_full hmax m us none = low_of (first_full hmax m us) (list_any is_full (effects_of hmax m us)) (none_full hmax m us) none

pub admitted_where_none : (hmax : ℕ) (m : Map) (us : List Update) → list_any is_full (effects_of hmax m us) ≡ false → AreAdmitted hmax m us
admitted_where_none hmax m us low = none_of (first_full hmax m us) (list_any is_full (effects_of hmax m us)) (none_full hmax m us) low
