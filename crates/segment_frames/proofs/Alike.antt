-- Images that a station at rest may leave mean what its held bytes mean.
use Rattle.std.proofs.Common.{◌≡◌, inl, inr, arith, Bool, false, ℕ, ◌^◌, ◌<◌, List, ap, subst, sym, ◌∙◌}
use Rattle.std.specs.Prelude.{◌≢◌, true}
use Rattle.station.specs.Bytes.{Same}
use Rattle.station.specs.View.{View, Told, MayHold, EachHeld, Lawful}
use Rattle.station.specs.Steps.{Steps}
use Rattle.station.proofs.Composition.{told_of, told_back}
use Rattle.header_gate.specs.declared.layout.Layout.{Layout}
use Rattle.header_gate.specs.Header.{gate, layout_in}
use Rattle.header_gate.specs.Recovered.{recovered, is_laid, IsJournalSound}
use Rattle.header_gate.specs.declared.layout.TheConstants.{PAIRED}
use Rattle.header_gate.proofs.Recoveries.{laid_odd, unlaid_even}
use Rattle.std.proofs.lemmas.Bool.{cases_eq}
use Rattle.header_gate.proofs.Journals.{sound_alike, named_laid, bare_sound}
use Rattle.map_model.specs.Array.{counts_of}
use Rattle.map_model.specs.Store.{Map}
use Rattle.map_model.specs.Image.{Represents, height_of, array_from, array_in, array_of, map_of}
use Rattle.map_model.specs.Batches.{KeepsHeader}
use Rattle.map_model.proofs.Headers.{same_segments}
use Rattle.map_model.proofs.Recovering.{same_header, kept, represents_own}
use Rattle.window_tally.specs.TallyView.{TallyView}
use Rattle.redo_journal.specs.declared.place.Place.{Place}
use Rattle.redo_journal.specs.Commit.{Clears}
use Rattle.redo_journal.specs.Frames.{Batch}
use Rattle.redo_journal.specs.Rest.{RestsAt}
use Rattle.redo_journal.proofs.Live.{rest_recovers, rest_live, rests_still}
use Rattle.segment_frames.specs.Lists.{IsHeld}
use Rattle.segment_frames.specs.FrameStanding.{IsSettledAt, StandsFor}

pub record Alike (place : Place) (old new : List ℕ) : Type 0 where
  pub settled : IsSettledAt place new
  pub height : height_of new ≡ height_of old
  pub array : array_of new ≡ array_of old

-- the same segments in the same format are the same array
same_array : (old new : List ℕ) → layout_in new ≡ layout_in old → recovered (layout_in old) new ≡ recovered (layout_in old) old → (h : ℕ) → array_in new h ≡ array_in old h
unfolding array_in
same_array old new layout same h t = array_from ((layout t).format) (λ i. same_segments old new layout same i t) (2 ^ h)

-- an image that recovers to the same, whose journal is sound
pub alike_of : (place : Place) (old new : List ℕ) → IsSettledAt place old → recovered place.layout new ≡ recovered place.layout old → IsJournalSound place.layout (height_of old) new → (place.layout.version ≢ PAIRED → gate new ≡ 0) → Alike place old new
alike_of place old new is same sound even =
    let by : recovered (layout_in old) new ≡ recovered (layout_in old) old = subst (λ (x : Layout). recovered x new ≡ recovered x old) (sym is.layout_is) same in
    let header : KeepsHeader old new = same_header old new is.represents.header by in
    let represents : Represents new (map_of old) (height_of old) =
    kept old new (map_of old) (height_of old) is.represents by (subst (λ (x : Layout). IsJournalSound x (height_of old) new) (sym is.layout_is) sound) in
    record {
      settled = record {
        represents = represents_own new (map_of old) (height_of old) represents;
        gate_even = even;
        layout_is = header.layout_is ∙ is.layout_is;
        region_is = header.live_is ∙ is.region_is;
      };
      height = header.height_is;
      array = ap (array_in new) header.height_is ∙ same_array old new header.layout_is by (height_of old);
    }

-- the journal of an image that a store has
own_sound : (place : Place) (image : List ℕ) → IsSettledAt place image → IsJournalSound place.layout (height_of image) image
own_sound place image is = subst (λ (x : Layout). IsJournalSound x (height_of image) image) is.layout_is is.represents.journal

-- an image that a station at rest may leave
pub alike_rest : {a : View} (place : Place) (turn : ℕ) → Lawful a → RestsAt place.layout turn a → (Told a → IsSettledAt place a.held) → (image : List ℕ) → MayHold a image → Alike place a.held image
alike_rest {a} place turn law rests settled image left =
    let is = settled (told_of law image left) in
    alike_of place a.held image is (rest_recovers place.layout a law rests.rest image left)
    (sound_alike place.layout (height_of a.held) a.held image (rest_live place.layout a law rests.rest image left) (own_sound place a.held is))
    (λ single. rests.gates image left ∙ rests.single single)

apart : (b : Bool) → b ≡ true → b ≡ false → ⊥
apart true is isnt = absurd cc
apart false is isnt = absurd cc

-- a clearing leaves an even gate even, where there is one journal
cleared_even : (l : Layout) (old new : List ℕ) → Clears l old new → (l.version ≡ PAIRED → ⊥) → gate old ≡ 0 → gate new ≡ 0
cleared_even l old new clears single even = elim (cases_eq (gate new) 1) [
  | inl odd ↦ elim (clears.table (laid_odd l new odd)) [
    | inl empty ↦ absurd (single empty.0)
    | inr was ↦ absurd (apart (is_laid l old) was.0 (unlaid_even l old single (λ one. omega (arith, one, even))))
  ]
  | inr isnt ↦ omega (arith, isnt)
]

-- and a sound journal sound
cleared_sound : (l : Layout) (height : ℕ) (old new : List ℕ) → Clears l old new → IsJournalSound l height old → IsJournalSound l height new
cleared_sound l height old new clears sound named = elim (clears.table (named_laid l new named)) [
  | inl empty ↦ bare_sound l height new (λ laid. empty) named
  | inr was ↦ sound_alike l height old new (λ laid. was) sound named
]

-- whatever a clearing leaves
pub alike_cleared : (place : Place) (old new : List ℕ) → IsSettledAt place old → Clears place.layout old new → Alike place old new
alike_cleared place old new is clears =
    alike_of place old new is clears.same (cleared_sound place.layout (height_of old) old new clears (own_sound place old is)) (λ single. cleared_even place.layout old new clears single (is.gate_even single))

-- it represents what it did
pub represents_cleared : (place : Place) (old new : List ℕ) → IsSettledAt place old → Clears place.layout old new → (m : Map) (height : ℕ) → Represents old m height → Represents new m height
represents_cleared place old new is clears m height represents =
    kept old new m height represents (subst (λ (x : Layout). recovered x new ≡ recovered x old) (sym is.layout_is) clears.same)
    (subst (λ (x : Layout). IsJournalSound x height new) (sym is.layout_is) (cleared_sound place.layout height old new clears (subst (λ (x : Layout). IsJournalSound x height old) is.layout_is represents.journal)))

-- what holds of the held bytes by their array and height holds of each image
pub each_alike : {a : View} (place : Place) (turn : ℕ) (P : List ℕ → Type 0) → Lawful a → RestsAt place.layout turn a → (Told a → IsSettledAt place a.held) → ((image : List ℕ) → Alike place a.held image → P a.held → P image)
    → (Told a → P a.held) → EachHeld P a
each_alike place turn P law rests settled keep held image left = keep image (alike_rest place turn law rests settled image left) (held (told_of law image left))

-- after calls that change no byte
pub each_same : {a b : View} (place : Place) (turn : ℕ) (P : List ℕ → Type 0) → Lawful a → Lawful b → RestsAt place.layout turn a → Steps Same a b → (Told a → IsSettledAt place a.held)
    → ((image : List ℕ) → Alike place b.held image → P b.held → P image) → (Told a → P a.held) → EachHeld P b
each_same {a} {b} place turn P law_a law_b rests ab settled keep held =
    each_alike place turn P law_b (rests_still place.layout turn a b law_a rests ab)
    (λ told. let told_a = told_back ab.frame told in subst (IsSettledAt place) (sym (ab.held told_a)) (settled told_a))
    keep
    (λ told. let told_a = told_back ab.frame told in subst P (sym (ab.held told_a)) (held told_a))

-- What it is that holds.

pub settled_alike : (place : Place) (old new : List ℕ) → Alike place old new → IsSettledAt place old → IsSettledAt place new
settled_alike place old new alike is = alike.settled

pub stands_alike : (place : Place) (tally : TallyView) (old new : List ℕ) → Alike place old new → StandsFor place tally old → StandsFor place tally new
stands_alike place tally old new alike is = record {
  settled = alike.settled;
  height_is = alike.height ∙ is.height_is;
  counts_are =
      ap (λ (h : ℕ). counts_of (array_in new h)) (sym (alike.height ∙ is.height_is)) ∙ ap counts_of alike.array ∙ ap (λ (h : ℕ). counts_of (array_in old h)) is.height_is ∙ is.counts_are;
}

-- frames that note another gate hold the same
pub held_turned : (format n : ℕ) (b : Batch) → n < 2 → IsHeld format b → IsHeld format (record b { turn = n })
held_turned format n b small is = record {
  known = is.known;
  frames = record { journal = is.frames.journal; turn = small; frames = is.frames.frames; few = is.frames.few; ascends = is.frames.ascends; small = is.frames.small };
  pages = is.pages;
  lists = is.lists;
}
