-- The parts of a store that is opened by its index agree with its file.
use Rattle.std.proofs.Common.{◌≡◌, ◌≢◌, inl, inr, length, ℕ, zero, suc, Bool, true, false, None, ◌-◌, ◌^◌, ◌<◌, ◌≤◌, List, Some, refl, sym, ap, subst, ◌∙◌, arith}
use Rattle.std.proofs.lemmas.Bool.{lt-ltb, le-leb}
use Rattle.density_rule.specs.Marks.{no_marks}
use Rattle.density_rule.specs.Windows.{IsBalanced}
use Rattle.header_gate.specs.InPlace.{IsBare}
use Rattle.header_gate.specs.declared.layout.Layout.{Layout}
use Rattle.header_gate.specs.declared.header.Header.{Header}
use Rattle.header_gate.specs.declared.layout.TheConstants.{INDEXED, PAIRED}
use Rattle.header_gate.specs.Header.{gate, layout_in, live_copy}
use Rattle.header_gate.specs.Reasons.{header_reason, IsHeader}
use Rattle.std.specs.Prelude.{IsTrue, ◌↔◌, ◌%◌, ◌==◌, ◌||◌, not}
use Rattle.std.proofs.lemmas.Bool.{cases_eq, false≢true}
use Rattle.std.proofs.lemmas.Bool.Decides.{nat_tests}
use Rattle.station.specs.Bytes.{byte, Same}
use Rattle.station.specs.View.{View, Told, Lawful, NothingPending}
use Rattle.station.specs.Steps.{Steps}
use Rattle.station.proofs.Composition.{told_back}
use Rattle.index_file.proofs.Kept.{even_of_bare}
use Rattle.index_file.specs.IndexOpening.{IsQuick, is_quick}
use Rattle.map_model.specs.Array.{counts_of}
use Rattle.map_model.specs.Image.{array_in, array_of, height_of}
use Rattle.map_model.proofs.Reasonings.{length-array_in}
use Rattle.recovery.specs.StoreParts.{AreParts, Fits, AgreesWith, turn_of}
use Rattle.redo_journal.specs.Replaying.{gate_after}
use Rattle.redo_journal.specs.Rest.{RestsAt}
use Rattle.redo_journal.proofs.Live.{after_single, done_empty, rest_nothing, rests_by}
use Rattle.redo_journal.specs.declared.place.Place.{Place}
use Rattle.veb_index.specs.Nodes.{fence_by}
use Rattle.veb_index.specs.IndexView.{IndexView, fence_at, fence_of}
use Rattle.veb_index.specs.Arrays.{IsIndexOf}
use Rattle.window_tally.specs.TallyView.{TallyView, IsTally}
use Rattle.index_file.specs.Clean.{IsLeft, fence_of_segment}
use Rattle.index_file.specs.IndexReasons.{counts_read, fence_read}
use Rattle.index_file.specs.Writing.{AreNodesOf}
use Rattle.index_file.proofs.LoadingLaws.{fences_are}
use Rattle.index_file.proofs.SoundLaws.{left_counts, left_first, fence_read-is}

fence_of-is : (index : IndexView) (i : ℕ) → 1 ≤ i → i < 2 ^ index.height → fence_of index i ≡ Some (fence_by index.height (fence_at index.fences) i)
fence_of-is index i some lt = rw (le-leb 1 i some, lt-ltb i (2 ^ index.height) lt) refl

-- the fences that were taken are the first keys of the array
pub quick_index : (l : Layout) (index : IndexView) (held : List ℕ) → IsLeft held → layout_in held ≡ l → height_of held ≡ index.height → AreNodesOf l.format l index.height index.fences (2 ^ index.height - 1) held → IsIndexOf index (array_of held)
quick_index l index held left layout tall are = record {
  size = length-array_in held (height_of held) ∙ ap (λ (n : ℕ). 2 ^ n) tall;
  fences = λ i some lt.
      let below : i < 2 ^ height_of held = subst (λ (n : ℕ). i < 2 ^ n) (sym tall) lt in
      let read = fence_read-is (layout_in held) (height_of held) (fence_of_segment (array_of held)) held left.area.nodes i some below in
      let same : fence_read l index.height held i ≡ fence_read (layout_in held) (height_of held) held i = ap (λ (x : Layout). fence_read x index.height held i) (sym layout) ∙ ap (λ (n : ℕ). fence_read (layout_in held) n held i) (sym tall) in
      fence_of-is index i some lt ∙ ap Some (fences_are l index.height index.fences held are i some lt) ∙ ap Some same ∙ ap Some read ∙ sym (left_first held left i some below);
}

-- what is left of parts that were made, once counts and fences were taken over
pub loaded_parts : (place : Place) (old new : TallyView) (was index : IndexView) (journal : ℕ) → AreParts place old was journal → new ≡ record old { counts = new.counts } → IsTally new → index.hmax ≡ was.hmax → index.height ≡ was.height
    → IsBalanced new.height new.counts → Fits place new index journal
loaded_parts place old new was index journal are kept tally room tall balanced =
    let height : new.height ≡ old.height = ap (λ (t : TallyView). t.height) kept in
    record {
      parts = record {
        layout = are.layout;
        region = are.region;
        is_tally = tally;
        tally_room = ap (λ (t : TallyView). t.hmax) kept ∙ are.tally_room;
        height = omega (arith, height, are.height);
        index_room = omega (arith, room, are.index_room);
        index_height = tall ∙ are.index_height ∙ sym height;
        journal_is = are.journal_is;
      };
      balanced = balanced;
    }

-- no window of them is rested
pub loaded_marks : (old new : TallyView) → new ≡ record old { counts = new.counts } → old.marks ≡ no_marks old.height → new.marks ≡ no_marks new.height
loaded_marks old new kept none = ap (λ (t : TallyView). t.marks) kept ∙ none ∙ ap (λ (t : TallyView). no_marks t.height) (sym kept)

pub quick_agrees : (place : Place) (tally : TallyView) (index : IndexView) (held : List ℕ) → IsLeft held → layout_in held ≡ place.layout → live_copy held ≡ place.region → height_of held ≡ tally.height → index.height ≡ tally.height
    → AreNodesOf place.layout.format place.layout tally.height index.fences (2 ^ tally.height - 1) held → tally.counts ≡ counts_read place.layout tally.height held → IsBalanced tally.height tally.counts → AgreesWith place tally index held
quick_agrees place tally index held left layout region tall index_h nodes counts balanced =
    let N : ℕ → Type 0 = λ n. AreNodesOf place.layout.format place.layout n index.fences (2 ^ n - 1) held in
    let read : counts_read place.layout tally.height held ≡ counts_read (layout_in held) (height_of held) held = ap (λ (l : Layout). counts_read l tally.height held) (sym layout) ∙ ap (λ (n : ℕ). counts_read (layout_in held) n held) (sym tall) in
    let own : counts_of (array_in held tally.height) ≡ tally.counts = ap (λ (n : ℕ). counts_of (array_in held n)) (sym tall) ∙ sym (left_counts held left) ∙ sym read ∙ sym counts in
    record {
      stands = record {
        stands = record {
          settled = record { represents = left.represents; gate_even = λ single. even_of_bare place.layout held single (subst (λ (l : Layout). IsBare l held) layout left.bare); layout_is = layout; region_is = region };
          height_is = tall;
          counts_are = own;
        };
        balanced = balanced;
      };
      index_is = quick_index place.layout index held left layout (tall ∙ sym index_h) (subst N (sym index_h) nodes);
    }

-- A file that was left is at rest, by what the journal's gate says.

gate_said : (odd : Bool) (n : ℕ) → n < 2 → IsTrue odd ↔ (n ≡ 1) → n ≡ turn_of odd
gate_said true n small is = is.0 refl
gate_said false n small is = by n small is
  where
    by : (n : ℕ) → n < 2 → IsTrue false ↔ (n ≡ 1) → n ≡ 0
    by zero small is = refl
    by (suc zero) small is = absurd (false≢true (is.1 refl))
    by (suc (suc n)) small is = absurd (omega (arith, small))

left_turn : (l : Layout) (n : ℕ) (held : List ℕ) → IsBare l held → gate held ≡ n → gate held ≡ gate_after l n
left_turn l n held bare is = elim (cases_eq l.version PAIRED) [
  | inl paired ↦ let e : gate_after l n ≡ n = grind (arith, nat_tests, paired) in is ∙ sym e
  | inr single ↦ even_of_bare l held single bare ∙ sym (after_single l n single)
]

-- what is known of its bytes
pub record IsLeftOf (l : Layout) (odd : Bool) (held : List ℕ) : Type 0 where
  pub bare : IsBare l held
  pub gate_is : IsTrue odd ↔ (gate held ≡ 1)

pub quick_rests : {a b : View} (l : Layout) (odd : Bool) → Lawful b → Steps Same a b → NothingPending b → (Told a → IsLeftOf l odd a.held) → RestsAt l (gate_after l (turn_of odd)) b
quick_rests {a} {b} l odd law steps nothing file =
    rests_by l (gate_after l (turn_of odd)) law steps.frame
    (rest_nothing l b nothing (λ told_b laid.
    let told : Told a = told_back steps.frame told_b in
    let bare : IsBare l b.held = subst (IsBare l) (sym (steps.held told)) (file told).bare in
    done_empty l b.held (ap length (bare laid).1) laid))
    (after_single l (turn_of odd))
    (λ told. ap gate (steps.held told) ∙ left_turn l (turn_of odd) a.held (file told).bare (gate_said odd (gate a.held) (omega arith) (file told).gate_is))

-- What the header says.

-- of a file that may be opened by its index
pub quick_header : (h : Header) → is_quick h ≡ true → (INDEXED ≤ h.layout.version) × (h.clean ≡ true) × (h.layout.version ≢ PAIRED → h.gate ≡ false) × (h.intent ≡ false)
quick_header h is = (grind (arith, nat_tests, is), grind (arith, nat_tests, is), (λ single. grind (arith, nat_tests, is, single)), grind (arith, nat_tests, is))

is_even : (x : ℕ) (b : Bool) → (IsTrue b ↔ (x % 2 ≡ 1)) → b ≡ false → x % 2 ≡ 0
is_even x b odd off = by_rest (x % 2) refl (omega arith)
  where
    by_rest : (n : ℕ) → x % 2 ≡ n → n ≤ 1 → x % 2 ≡ 0
    by_rest zero e low = e
    by_rest (suc zero) e low = absurd (false≢true (sym off ∙ odd.1 e))
    by_rest (suc (suc n)) e low = absurd (omega (arith, low))

pub quick_file : (h : Header) (held : List ℕ) → IsHeader h held → header_reason held ≡ None → is_quick h ≡ true → IsQuick held
quick_file h held is sound may =
    let told = quick_header h may in
    record {
      sound = sound;
      indexed = subst (λ (l : Layout). INDEXED ≤ l.version) is.layout_is told.0;
      gate_even = λ single. is_even (byte held 512) h.gate is.gate_is (told.2 (subst (λ (l : Layout). l.version ≢ PAIRED) (sym is.layout_is) single));
      intent_even = is_even (byte held 640) h.intent is.intent_is told.3;
      clean_odd = is.clean_is.0 told.1;
    }

pub not_quick_file : (h : Header) (held : List ℕ) → IsHeader h held → is_quick h ≡ false → IsQuick held → ⊥
not_quick_file h held is other quick =
    let version : INDEXED ≤ h.layout.version = subst (λ (l : Layout). INDEXED ≤ l.version) (sym is.layout_is) quick.indexed in
    let clean : h.clean ≡ true = is.clean_is.1 quick.clean_odd in
    let even : (h.layout.version == PAIRED) || not h.gate ≡ true = elim (cases_eq h.layout.version PAIRED) [
      | inl paired ↦ grind (arith, nat_tests, paired)
      | inr single ↦
          let off : h.gate ≡ false = not_odd h.gate (byte held 512) is.gate_is (quick.gate_even (subst (λ (l : Layout). l.version ≢ PAIRED) is.layout_is single)) in
          grind (arith, nat_tests, off)
    ] in
    let intent : h.intent ≡ false = not_odd h.intent (byte held 640) is.intent_is quick.intent_even in
    let may : is_quick h ≡ true = grind (arith, nat_tests, version, clean, even, intent) in
    false≢true (sym other ∙ may)
  where
    not_odd : (b : Bool) (x : ℕ) → (IsTrue b ↔ (x % 2 ≡ 1)) → x % 2 ≡ 0 → b ≡ false
    not_odd false x odd even = refl
    not_odd true x odd even = absurd (omega (arith, even, odd.0 refl))
