-- What updates write at most, by the state in which they are made.
use Rattle.std.specs.Prelude.{ℕ, ◌+◌, ◌*◌, ◌≤◌, if◌then◌else◌, Bool, List, [], ◌∷◌, length, take}
use Rattle.header_gate.specs.declared.layout.Layout.{Layout}
use Rattle.header_gate.specs.Places.{height_limit}
use Rattle.map_model.specs.Array.{Array}
use Rattle.map_model.specs.ArrayState.{ArrayState, UpdateReport, next_state, report_of}
use Rattle.map_model.specs.Store.{Update}
use Rattle.pma_store.specs.Charging.{changes}
use Rattle.pma_store.specs.Changing.{outcome_of, window_cost, most_written}
use Rattle.pma_store.specs.Readying.{resize_cost}
use Rattle.pma_store.specs.Rewrites.{commit_cost}

-- whether an update changes anything: a put that finds no room doesn't, and neither does the removal of an absent key
abbrev pub has_effect : ℕ → Array → Update → Bool
has_effect hmax segments u = changes (outcome_of hmax segments u)

-- the bytes that an update writes at most that has this report, and leaves the store at this height
abbrev pub report_cost : Layout → ℕ → UpdateReport → ℕ
report_cost l height r = if r.resized then resize_cost l height + commit_cost l else window_cost l r.spread

-- that an update in a state does
abbrev pub update_cost_in : Layout → ArrayState → Update → ℕ
update_cost_in l s u = if has_effect (height_limit l) s.array u then report_cost l (next_state (height_limit l) s u).height (report_of (height_limit l) s u) else 0

-- that updates in order do
abbrev pub updates_cost : Layout → ArrayState → List Update → ℕ
updates_cost l s [] = 0
updates_cost l s (u ∷ us) = update_cost_in l s u + updates_cost l (next_state (height_limit l) s u) us

-- what that many updates write at most in a file with this layout, whatever they are and whatever is told
abbrev pub most_of : Layout → ℕ → ℕ
most_of l updates = most_written l (height_limit l) * updates

-- Updates in order wrote no more, however many of them were made: that many were begun, and each of these has its own bound.
pub record WritesSome (l : Layout) (s : ArrayState) (us : List Update) (before after : ℕ) : Type 0 where
  pub made : ℕ
  pub some : made ≤ length us
  pub bytes : after ≤ before + updates_cost l s (take made us)
