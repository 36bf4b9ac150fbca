-- What is true of the fields of a store, and what callers see of them.
use Rattle.pma_store.specs.StoreView.{StoreView, IsStore}
use Rattle.pma_store.specs.declared.store.OpenArray.TheInside.{Inside}

abbrev pub view_of : Inside → StoreView
view_of s = record { place = s.place; tally = s.tally; index = s.index; journal = s.frames.journal; turn = s.frames.turn; closed = s.closed }

abbrev pub IsKept : Inside → Type 0
IsKept s = IsStore (view_of s)
