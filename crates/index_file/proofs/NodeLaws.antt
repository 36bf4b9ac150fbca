-- The tests of a node, by the bytes that they look at.
use Rattle.std.proofs.Common.{◌≡◌, ℕ, zero, suc, ◌+◌, ◌-◌, ◌<◌, ◌≤◌, Bool, true, false, List, length, refl, sym, ap, ◌∙◌, arith, inl, inr}
use Rattle.std.specs.Prelude.{◌==◌, ◌&&◌, nat_le}
use Rattle.std.proofs.lemmas.Bool.{cases_lt}
use Rattle.std.proofs.lemmas.Bool.Decides.{nat_tests}
use Rattle.std.proofs.lemmas.List.{ext_get_or}
use Rattle.std.proofs.lemmas.List.FromFn.{length-map-range_with_len, get_or-map-range_with_len}
use Rattle.station.specs.Bytes.{byte, InRange, Touched, Written}
use Rattle.station.proofs.Ranges.{byte-slice_range, length-slice_range}
use Rattle.std.specs.Prelude.{slice_range}
use Rattle.header_gate.specs.Header.{number}
use Rattle.header_gate.proofs.NumberLaws.{number_same}
use Rattle.key_slot.specs.Record.{Bytes}
use Rattle.key_slot.specs.Format.{wide, key_room}
use Rattle.key_slot.specs.declared.sizes.TheConstants.{MAX_KEY_LEN}
use Rattle.index_file.specs.Node.{bytes_at, is_zero, fence_in, has_form, is_node, IsNode}

-- Zeros.

pub zero_test : (file : List ℕ) (place n : ℕ) → ((k : ℕ) → k < n → byte file (place + k) ≡ 0) → is_zero file place n ≡ true
zero_test file place zero each = refl
zero_test file place (suc n) each = let here : byte file (place + n) ≡ 0 = each n (omega arith) in let before : is_zero file place n ≡ true = zero_test file place n (λ k lt. each k (omega arith)) in grind (arith, nat_tests, here, before)

pub zero_at : (file : List ℕ) (place n : ℕ) → is_zero file place n ≡ true → (k : ℕ) → k < n → byte file (place + k) ≡ 0
zero_at file place zero is k lt = absurd (omega (arith, lt))
zero_at file place (suc n) is k lt =
    let before : is_zero file place n ≡ true = grind (arith, nat_tests, is) in
    let here : byte file (place + n) ≡ 0 = grind (arith, nat_tests, is) in
    elim (cases_lt k n) [
      | inl below ↦ zero_at file place n before k below
      | inr last ↦ let e : k ≡ n = omega (arith, last, lt) in ap (λ (m : ℕ). byte file (place + m)) e ∙ here
    ]

-- one that isn't
pub not_zero : (file : List ℕ) (place n k : ℕ) → k < n → (byte file (place + k) ≡ 0 → ⊥) → is_zero file place n ≡ false
not_zero file place n k lt other = by_test (is_zero file place n) refl
  where
    by_test : (b : Bool) → is_zero file place n ≡ b → is_zero file place n ≡ false
    by_test false e = e
    by_test true e = absurd (other (zero_at file place n e k lt))

-- the same bytes are zero
pub zero_same : (f g : List ℕ) (x y n : ℕ) → ((k : ℕ) → k < n → byte f (x + k) ≡ byte g (y + k)) → is_zero f x n ≡ is_zero g y n
zero_same f g x y zero same = refl
zero_same f g x y (suc n) same = λ i. zero_same f g x y n (λ k lt. same k (omega arith)) i && (same n (omega arith) i == 0)

-- Bytes at a place.

pub length-bytes_at : (file : List ℕ) (place n : ℕ) → length (bytes_at file place n) ≡ n
length-bytes_at file place n = length-map-range_with_len (λ k. byte file (place + k)) 0 n

pub byte-bytes_at : (file : List ℕ) (place n k : ℕ) → k < n → byte (bytes_at file place n) k ≡ byte file (place + k)
byte-bytes_at file place n k lt = get_or-map-range_with_len (λ k. byte file (place + k)) 0 n k k 0 lt (omega arith)

pub bytes_same : (f g : List ℕ) (x y n : ℕ) → ((k : ℕ) → k < n → byte f (x + k) ≡ byte g (y + k)) → bytes_at f x n ≡ bytes_at g y n
bytes_same f g x y n same = ext_get_or 0 (bytes_at f x n) (bytes_at g y n) (length-bytes_at f x n ∙ sym (length-bytes_at g y n)) (λ k lt.
    let below : k < n = omega (arith, lt, length-bytes_at f x n) in
    byte-bytes_at f x n k below ∙ same k below ∙ sym (byte-bytes_at g y n k below))

-- bytes that stand at a place
pub bytes_are : (file bytes : List ℕ) (place n : ℕ) → length bytes ≡ n → ((k : ℕ) → k < n → byte file (place + k) ≡ byte bytes k) → bytes_at file place n ≡ bytes
bytes_are file bytes place n size same = ext_get_or 0 (bytes_at file place n) bytes (length-bytes_at file place n ∙ sym size) (λ k lt.
    let below : k < n = omega (arith, lt, length-bytes_at file place n) in
    byte-bytes_at file place n k below ∙ same k below)

pub range_is : (file : List ℕ) (place n : ℕ) → place + n ≤ length file → slice_range file place (place + n) ≡ bytes_at file place n
range_is file place n fits = sym (bytes_are file (slice_range file place (place + n)) place n (length-slice_range file place (place + n) (omega arith) fits ∙ omega arith) (λ k lt. sym (byte-slice_range file place (place + n) k (omega (arith, lt)))))

-- The form.

pub record Form (f : ℕ) (file : List ℕ) (place : ℕ) : Type 0 where
  pub some : 1 ≤ byte file place
  pub most : byte file place ≤ key_room f
  pub front : is_zero file (place + 1) 7 ≡ true
  pub gap : is_zero file (place + (8 + byte file place)) (40 - byte file place) ≡ true
  pub back : is_zero file (place + 56) 8 ≡ true

pub form_of : (f : ℕ) (file : List ℕ) (place : ℕ) → has_form f file place ≡ true → Form f file place
unfolding has_form
form_of f file place is = record {
  some = grind (arith, nat_tests, is);
  most = grind (arith, nat_tests, is);
  front = grind (arith, nat_tests, is);
  gap = grind (arith, nat_tests, is);
  back = grind (arith, nat_tests, is);
}

pub has_form_by : (f : ℕ) (file : List ℕ) (place : ℕ) → Form f file place → has_form f file place ≡ true
unfolding has_form
has_form_by f file place form = grind (arith, nat_tests, form.some, form.most, form.front, form.gap, form.back)

pub is_node_by : (f left right : ℕ) (file : List ℕ) (place : ℕ) → has_form f file place ≡ true → number file (place + 48) ≡ left → number file (place + 52) ≡ right → is_node f left right file place ≡ true
unfolding is_node
is_node_by f left right file place form l r = grind (arith, nat_tests, form, l, r)

pub form_in : (f left right : ℕ) (file : List ℕ) (place : ℕ) → is_node f left right file place ≡ true → has_form f file place ≡ true
unfolding is_node
form_in f left right file place is = grind (arith, nat_tests, is)

pub links_in : (f left right : ℕ) (file : List ℕ) (place : ℕ) → is_node f left right file place ≡ true → (number file (place + 48) ≡ left) × (number file (place + 52) ≡ right)
unfolding is_node
links_in f left right file place is = (grind (arith, nat_tests, is), grind (arith, nat_tests, is))

-- a node of the longer format is one of another, if its fence is a key of that
pub node_of_format : (f left right : ℕ) (fence : Bytes) (file : List ℕ) (place : ℕ) → IsNode wide left right fence file place → length fence ≤ key_room f → IsNode f left right fence file place
node_of_format f left right fence file place is fits =
    let form = form_of wide file place (form_in wide left right file place is.form) in
    let links = links_in wide left right file place is.form in
    let size : byte file place ≡ length fence = sym (length-bytes_at file (place + 8) (byte file place)) ∙ ap length is.fence_is in
    record {
      form = is_node_by f left right file place (has_form_by f file place (record { some = form.some; most = omega (arith, size, fits); front = form.front; gap = form.gap; back = form.back })) links.0 links.1;
      fence_is = is.fence_is;
    }

-- the same bytes have the same form, and are the same node
pub form_same : (n : ℕ) (f g : List ℕ) (x y : ℕ) → ((k : ℕ) → k < 64 → byte f (x + k) ≡ byte g (y + k)) → has_form n f x ≡ has_form n g y
unfolding has_form
form_same n f g x y same =
    let size : byte f x ≡ byte g y = ap (byte f) {x = x} {y = x + 0} (omega arith) ∙ same 0 (omega arith) ∙ ap (byte g) {x = y + 0} {y = y} (omega arith) in
    let front : is_zero f (x + 1) 7 ≡ is_zero g (y + 1) 7 = zero_same f g (x + 1) (y + 1) 7 (λ k lt. at 1 k (omega arith)) in
    let gap : is_zero f (x + (8 + byte f x)) (40 - byte f x) ≡ is_zero g (y + (8 + byte g y)) (40 - byte g y) =
    zero_same f g (x + (8 + byte f x)) (y + (8 + byte f x)) (40 - byte f x) (λ k lt. at (8 + byte f x) k (omega (arith, lt))) ∙ ap (λ (m : ℕ). is_zero g (y + (8 + m)) (40 - m)) size in
    let back : is_zero f (x + 56) 8 ≡ is_zero g (y + 56) 8 = zero_same f g (x + 56) (y + 56) 8 (λ k lt. at 56 k (omega arith)) in
    λ i. (nat_le 1 (size i) && nat_le (size i) (key_room n)) && (front i && (gap i && back i))
  where
    at : (m k : ℕ) → m + k < 64 → byte f (x + m + k) ≡ byte g (y + m + k)
    at m k lt = ap (byte f) {x = x + m + k} {y = x + (m + k)} (omega arith) ∙ same (m + k) lt ∙ ap (byte g) {x = y + (m + k)} {y = y + m + k} (omega arith)

pub links_same : (f g : List ℕ) (x y n : ℕ) → n + 4 ≤ 64 → ((k : ℕ) → k < 64 → byte f (x + k) ≡ byte g (y + k)) → number f (x + n) ≡ number g (y + n)
links_same f g x y n within same = number_same f g (x + n) (y + n) (λ k p q lt ep eq. ap (byte f) {x = p} {y = x + (n + k)} (omega (arith, ep)) ∙ same (n + k) (omega (arith, lt, within)) ∙ ap (byte g) {x = y + (n + k)} {y = q} (omega (arith, eq)))

pub node_test_same : (n left right : ℕ) (f g : List ℕ) (x y : ℕ) → ((k : ℕ) → k < 64 → byte f (x + k) ≡ byte g (y + k)) → is_node n left right f x ≡ is_node n left right g y
unfolding is_node
node_test_same n left right f g x y same =
    λ i. form_same n f g x y same i && ((links_same f g x y 48 (omega arith) same i == left) && (links_same f g x y 52 (omega arith) same i == right))

pub fence_same : (n : ℕ) (f g : List ℕ) (x y : ℕ) → n ≤ wide → has_form n g y ≡ true → ((k : ℕ) → k < 64 → byte f (x + k) ≡ byte g (y + k)) → fence_in f x ≡ fence_in g y
fence_same n f g x y low form same =
    let is = form_of n g y form in
    let size : byte f x ≡ byte g y = ap (byte f) {x = x} {y = x + 0} (omega arith) ∙ same 0 (omega arith) ∙ ap (byte g) {x = y + 0} {y = y} (omega arith) in
    ap (bytes_at f (x + 8)) size
    ∙ bytes_same f g (x + 8) (y + 8) (byte g y) (λ k lt. ap (byte f) {x = x + 8 + k} {y = x + (8 + k)} (omega arith) ∙ same (8 + k) (omega (arith, lt, is.most, low)) ∙ ap (byte g) {x = y + (8 + k)} {y = y + 8 + k} (omega arith))

pub node_same : (n left right : ℕ) (fence : Bytes) (f g : List ℕ) (x y : ℕ) → n ≤ wide → ((k : ℕ) → k < 64 → byte f (x + k) ≡ byte g (y + k)) → IsNode n left right fence g y → IsNode n left right fence f x
node_same n left right fence f g x y low same is = record {
  form = node_test_same n left right f g x y same ∙ is.form;
  fence_is = fence_same n f g x y low (form_in n left right g y is.form) same ∙ is.fence_is;
}

-- The making of a node.

pub node_made : (left right : ℕ) (fence a b c d : List ℕ) → 1 ≤ length fence → length fence ≤ MAX_KEY_LEN
    → byte a 0 ≡ length fence → ((k : ℕ) → 1 ≤ k → byte a k ≡ 0) → Written 8 fence a b
    → number c 48 ≡ left → Touched (InRange 48 4) b c → number d 52 ≡ right → Touched (InRange 52 4) c d → IsNode wide left right fence d 0
node_made left right fence a b c d some most size zeros written l tl r tr = record {
  form = is_node_by wide left right d 0 (has_form_by wide d 0 form) left_is right_is;
  fence_is = ap (λ (n : ℕ). bytes_at d 8 n) first ∙ bytes_are d fence 8 (length fence) refl (λ k lt. kept (8 + k) (omega (arith, lt, most)) ∙ written.inside k lt);
}
  where
    -- before the links and behind them nothing changes after the fence is put
    kept : (k : ℕ) → k < 48 → byte d k ≡ byte b k
    kept k lt = tr.rest k (λ i. omega (arith, i.0, lt)) ∙ tl.rest k (λ i. omega (arith, i.0, lt))

    behind : (k : ℕ) → 56 ≤ k → byte d k ≡ byte b k
    behind k le = tr.rest k (λ i. omega (arith, i.1, le)) ∙ tl.rest k (λ i. omega (arith, i.1, le))

    first : byte d 0 ≡ length fence
    first = kept 0 (omega arith) ∙ written.rest 0 (λ i. omega (arith, i.0)) ∙ size

    left_is : number d (0 + 48) ≡ left
    left_is = number_same d c 48 48 (λ n x y lt ex ey. let e : x ≡ y = omega (arith, ex, ey) in tr.rest x (λ i. omega (arith, i.0, ex, lt)) ∙ ap (byte c) e) ∙ l

    right_is : number d (0 + 52) ≡ right
    right_is = r

    form : Form wide d 0
    form = record {
      some = omega (arith, first, some);
      most = omega (arith, first, most);
      front = zero_test d 1 7 (λ k lt. kept (1 + k) (omega (arith, lt)) ∙ written.rest (1 + k) (λ i. omega (arith, i.0, lt)) ∙ zeros (1 + k) (omega arith));
      gap = zero_test d (0 + (8 + byte d 0)) (40 - byte d 0) (λ k lt. kept (0 + (8 + byte d 0) + k) (omega (arith, lt)) ∙ written.rest (0 + (8 + byte d 0) + k) (λ i. omega (arith, i.1, first)) ∙ zeros (0 + (8 + byte d 0) + k) (omega arith));
      back = zero_test d (0 + 56) 8 (λ k lt. behind (56 + k) (omega arith) ∙ written.rest (56 + k) (λ i. omega (arith, i.1, most)) ∙ zeros (56 + k) (omega arith));
    }
