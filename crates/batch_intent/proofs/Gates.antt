-- The intent in a file: what its writing may leave, and what is read of it.
use Rattle.std.proofs.Common.{◌≡◌, inl, inr, ℕ, ◌+◌, ◌%◌, ◌<◌, ◌≤◌, ◌==◌, nat_le, Bool, true, false, ◌&&◌, List, length, refl, sym, ap, subst, ◌∙◌, arith}
use Rattle.std.proofs.lemmas.Bool.Decides.{nat_tests}
use Rattle.std.proofs.lemmas.List.{ext_get_or}
use Rattle.std.proofs.lemmas.List.FromFn.{get_or-map-range_with_len, length-map-range_with_len}
use Rattle.station.specs.Bytes.{byte, Touched, Blurred, Written, Filled}
use Rattle.station.specs.View.{View, Told, NothingPending, Lawful}
use Rattle.station.specs.Steps.{Steps}
use Rattle.station.proofs.Composition.{weaken, andthen, only_held, told_of}
use Rattle.batch_intent.specs.declared.places.TheConstants.{INTENT, INTENT_SIZE}
use Rattle.header_gate.specs.declared.layout.Layout.{Layout}
use Rattle.header_gate.specs.declared.layout.TheConstants.{INTENT_VERSION}
use Rattle.header_gate.specs.Header.{HasPage, intent_gate}
use Rattle.header_gate.specs.Places.{page_size}
use Rattle.header_gate.proofs.Flips.{page_of}
use Rattle.map_model.specs.Store.{Update}
use Rattle.batch_intent.specs.Spelling.{intent_bytes}
use Rattle.batch_intent.specs.Gate.{IsIntentGatePlace, has_intent, intent_area, HoldsItems, Intends}

-- Bytes of the intent.

pub length-intent_area : (file : List ℕ) → length (intent_area file) ≡ INTENT_SIZE
unfolding intent_area
length-intent_area file = length-map-range_with_len (λ k. byte file (INTENT + k)) 0 INTENT_SIZE

pub byte-intent_area : (file : List ℕ) (k : ℕ) → k < INTENT_SIZE → byte (intent_area file) k ≡ byte file (INTENT + k)
unfolding intent_area
byte-intent_area file k lt = get_or-map-range_with_len (λ j. byte file (INTENT + j)) 0 INTENT_SIZE k k 0 lt (omega arith)

-- what was read is the intent
pub area_read : (file buffer : List ℕ) → length buffer ≡ INTENT_SIZE → Filled INTENT file buffer → buffer ≡ intent_area file
area_read file buffer size filled =
    ext_get_or 0 buffer (intent_area file) (size ∙ sym (length-intent_area file)) (λ k lt.
    filled k lt ∙ sym (byte-intent_area file k (omega (arith, lt, size))))

-- the same bytes are the same intent
pub area_same : (old new : List ℕ) → ((k : ℕ) → k < INTENT_SIZE → byte new (INTENT + k) ≡ byte old (INTENT + k)) → intent_area new ≡ intent_area old
area_same old new same =
    ext_get_or 0 (intent_area new) (intent_area old) (length-intent_area new ∙ sym (length-intent_area old)) (λ k lt.
    let inner : k < INTENT_SIZE = omega (arith, lt, length-intent_area new) in
    byte-intent_area new k inner ∙ same k inner ∙ sym (byte-intent_area old k inner))

-- Whether an intent is to be applied, by what was read.

-- in a file of an early version none is
pub early_idle : (layout : Layout) (file : List ℕ) → layout.version < INTENT_VERSION → has_intent layout file ≡ false
early_idle layout file early = ap (λ (b : Bool). b && (intent_gate file == 1)) (too_low INTENT_VERSION layout.version early)
  where
    too_low : (m n : ℕ) → n < m → nat_le m n ≡ false
    too_low m n lt = grind (arith, nat_tests)

-- nor with a gate byte that is even
pub even_idle : (layout : Layout) (file : List ℕ) (b : ℕ) → b ≡ byte file 640 → b % 2 ≡ 0 → has_intent layout file ≡ false
even_idle layout file b is even =
    let closed : intent_gate file ≡ 0 = ap (λ (n : ℕ). n % 2) (sym is) ∙ even in
    ap (λ (n : ℕ). nat_le INTENT_VERSION layout.version && (n == 1)) closed ∙ and_false (nat_le INTENT_VERSION layout.version)
  where
    and_false : (b : Bool) → (b && false) ≡ false
    and_false true = refl
    and_false false = refl

-- else one is
pub odd_applies : (layout : Layout) (file : List ℕ) (b : ℕ) → INTENT_VERSION ≤ layout.version → b ≡ byte file 640 → (b % 2 ≡ 0 → ⊥) → has_intent layout file ≡ true
odd_applies layout file b version is odd =
    let same : b % 2 ≡ intent_gate file = ap (λ (n : ℕ). n % 2) is in
    (λ t. le_true INTENT_VERSION layout.version version t && (other (b % 2) (intent_gate file) same odd (omega arith) t == 1))
  where
    other : (x y : ℕ) → x ≡ y → (x ≡ 0 → ⊥) → x < 2 → y ≡ 1
    other x y e odd small = omega (arith, e, odd, small)

    le_true : (m n : ℕ) → m ≤ n → nat_le m n ≡ true
    le_true m n le = grind (arith, nat_tests)

-- The writing of an intent.

module _ (items : List Update) (bytes : List ℕ) (is : bytes ≡ intent_bytes items) (fits : length bytes ≤ INTENT_SIZE) where
  -- while its bytes are written
  pub begun : (d i : List ℕ) → page_size ≤ length d → Blurred INTENT (length bytes) d i → Intends items d i
  begun d i long blurred = record {
    touched = record {
      size = elim blurred.size [ inl e ↦ e | inr e ↦ omega (arith, e, long, fits) ];
      rest = λ k out. blurred.rest k (λ r. out (inl (r.0, omega (arith, r.1, fits))));
    };
    holds = λ even odd.
        let same : intent_gate i ≡ intent_gate d = ap (λ (b : ℕ). b % 2) (blurred.rest 640 (λ r. omega (arith, r.0))) in
        absurd (omega (arith, odd, even, same));
  }

  -- it holds the items, and does so while its gate is written
  pub held_items : (a b c : List ℕ) → Written INTENT bytes a b → Touched IsIntentGatePlace b c → HoldsItems items c
  held_items a b c written touched = record {
    spelled = λ k lt.
        let inner : k < length bytes = omega (arith, lt, ap length is) in
        touched.rest (INTENT + k) (λ e. omega (arith, e)) ∙ written.inside k inner ∙ ap (λ (f : List ℕ). byte f k) is;
  }

  -- so it is over what a sync made the only image
  pub ended : (held d e i : List ℕ) → Intends items d e → Written INTENT bytes held e → Touched IsIntentGatePlace e i → Intends items d i
  ended held d e i before written touched = record {
    touched = record {
      size = touched.size ∙ before.touched.size;
      rest = λ k out. touched.rest k (λ p. out (inr p)) ∙ before.touched.rest k out;
    };
    holds = λ even odd. held_items held e i written touched;
  }

module _ (a b c : View) (items : List Update) (bytes : List ℕ) (is : bytes ≡ intent_bytes items) (fits : length bytes ≤ INTENT_SIZE) (law : Lawful a) (long : HasPage a) where
  pub intent_begun : Steps (Blurred INTENT (length bytes)) a b → Steps (Intends items) a b
  intent_begun ab = weaken ab (λ d i left step. begun items bytes is fits d i (page_of a law long d left) step)

  pub intent_done : Steps (Blurred INTENT (length bytes)) a b → NothingPending b → (Told a → Written INTENT bytes a.held b.held) → Steps (Touched IsIntentGatePlace) b c → Steps (Intends items) a c
  intent_done ab nothing written bc = andthen ab bc (λ d i left step. begun items bytes is fits d i (page_of a law long d left) step) (λ d e i left step mid last.
      let put : Written INTENT bytes a.held e = subst (Written INTENT bytes a.held) (sym (only_held b nothing e mid)) (written (told_of law d left)) in
      ended items bytes is fits a.held d e i (begun items bytes is fits d e (page_of a law long d left) step) put last)
