-- What is true of a store and its station between two calls of a test.
use Rattle.std.specs.Prelude.{◌≡◌, false}
use Rattle.station.specs.View.{View}
use Rattle.pma_store.specs.StoreView.{StoreView, IsOpenOn}

-- the store is open on the station, unless a fault has closed it
abbrev pub IsOpenUnlessClosed : StoreView → View → Type 0
IsOpenUnlessClosed s v = s.closed ≡ false → IsOpenOn s v
