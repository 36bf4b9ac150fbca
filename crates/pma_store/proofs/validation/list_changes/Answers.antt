use Rattle.std.proofs.Common.{◌≡◌, ℕ, ◌+◌, ◌<◌, Bool, List, [], ◌∷◌, ◌++◌, All, length, take, get_or, Result, Ok, Err, Some, refl, sym, ap, subst, ◌∙◌, arith}
use Rattle.std.specs.Prelude.{is_ok, IfOk}
use Rattle.batch_intent.specs.ItemView.{is_put as is_put_of}
use Rattle.std.proofs.lemmas.Grind.{take-set_at}
use Rattle.std.proofs.lemmas.List.{append-nil, length-set, take_all}
use Rattle.key_slot.specs.Record.{IsAscending}
use Rattle.map_model.specs.Array.{Array, rows, segment_at}
use Rattle.map_model.specs.Store.{Update, bind, unbind, key_of}
use Rattle.one_commit.specs.declared.changes.ItemChange.{ItemChange}
use Rattle.one_commit.specs.Fitting.{change_before, changes_in, is_put, kind_in, kind_of, with_change}
use Rattle.segment.specs.Rows.{key_at}
use Rattle.pma_store.specs.ItemEffects.{kinds_in}
use Rattle.pma_store.specs.Looked.{BelongThere, HasFound}
use Rattle.pma_store.proofs.FoundItems.{kinds_all, kinds_next}
use Rattle.pma_store.proofs.Listed.{changes_next, all_more, change_is}
use Rattle.std.proofs.lemmas.List.{get_or_default}
use Rattle.pma_store.proofs.validation.list_changes.Goals as goal
use Rattle.pma_store.proofs.validation.list_changes.Goals.{in-Some, in-None}

abbrev none : Update
none = unbind []

-- an intent calls the same items puts
same_put : (u : Update) → is_put_of u ≡ is_put u
same_put (bind key value) = refl
same_put (unbind key) = refl

pub loop-i-preserved : goal.loop-i-preserved
loop-i-preserved c =
    let items = c.args.intent.now in
    let numbers = c.args.segments.now in
    let found = c.args.found.now in
    let i = c.loop-i.i in
    let is = c.loop-i.invariant in
    let lt : i < length items = omega (arith, c.len-i-end.ensures.count, c.loop-i-test.true) in
    let few : i < 16 = omega (arith, lt, c.len-i-end.ensures.intent.most) in
    let there : i < length found = omega (arith, few, c.requires.found) in
    let puts : is_put (get_or items i none) ≡ c.is_put-puts.result = sym (c.is_put-puts.ensures ∙ same_put _ ∙ ap is_put (c.item.ensures none)) in
    let more = λ (array : Array) (n : ℕ) (some : 0 < length array) (ascends : IsAscending (rows array)) (belong : BelongThere array numbers items) (small : (k : ℕ) → k < length numbers → get_or numbers k 0 < n) (finds : HasFound array numbers items found n).
    change_is array numbers items found n some ascends belong finds i none lt (small i (omega (arith, lt, c.requires.segments))) c.is_put-puts.result puts (get_or found i (Err 0)) refl c.change_of.result
    (λ at ascending place. subst (λ (x : Result ℕ ℕ). change_before (is_ok x) array (get_or items i none) [] ≡ with_change c.change_of.result []) (get_or_default found i (_) (Err 0) there) (c.change_of.ensures.change array (get_or items i none) [] puts at ascending (subst (λ (x : Result ℕ ℕ). IfOk x (λ place. key_at (segment_at array (get_or numbers i 0)) place ≡ Some (key_of (get_or items i none)))) (get_or_default found i (Err 0) (_) there) place))) in
    let kind : kind_in c.change_of.result ≡ kind_of (is_put (get_or items i none)) (is_ok (get_or found i (Err 0))) =
    c.change_of.ensures.kind
    ∙ ap (λ (r : Result ℕ ℕ). kind_of c.is_put-puts.result (is_ok r)) (get_or_default found i (Ok 0) (Err 0) there)
    ∙ ap (λ (b : Bool). kind_of b (is_ok (get_or found i (Err 0)))) (sym puts) in
    let kinds = kinds_next items (λ k. is_ok (get_or found k (Err 0))) i (take c.loop-i.count c.loop-i.changes) c.change_of.result lt is.kinds kind in
    elim c.match-change_of.branch [
      | in-Some w ↦
          let room : c.loop-i.count < length c.loop-i.changes = omega (arith, is.few, few, is.size) in
          let longer : take c.match-change_of.count c.match-change_of.changes ≡ take c.loop-i.count c.loop-i.changes ++ w.in-Some.change ∷ [] = (λ τ. take (w.count-is τ) (w.changes-is τ)) ∙ take-set_at c.loop-i.changes c.loop-i.count (c.loop-i.count + 1) w.in-Some.change refl room in
          record {
            few = omega (arith, is.few, w.count-is);
            size = ap length w.changes-is ∙ length-set c.loop-i.changes c.loop-i.count w.in-Some.change ∙ is.size;
            in_store = λ n small. subst (All (λ (x : ItemChange). x.segment < n)) (sym longer) (all_more (λ (x : ItemChange). x.segment < n) (take c.loop-i.count c.loop-i.changes) w.in-Some.change (is.in_store n small) (omega (arith, w.in-Some.ensures.segment, small i (omega (arith, lt, c.requires.segments)))));
            kinds = ap kinds_in (longer ∙ sym (ap (λ o. take c.loop-i.count c.loop-i.changes ++ with_change o []) w.in-Some.is)) ∙ kinds;
            listed = λ array n some ascends belong small finds.
                longer ∙ ap (λ (l : List ItemChange). l ++ w.in-Some.change ∷ []) (is.listed array n some ascends belong small finds)
                ∙ ap (λ (l : List ItemChange). changes_in array (take i items) ++ l) (sym (more array n some ascends belong small finds ∙ ap (λ o. with_change o []) w.in-Some.is))
                ∙ sym (changes_next array items i none lt);
          }
      | in-None w ↦
          let same : take c.match-change_of.count c.match-change_of.changes ≡ take c.loop-i.count c.loop-i.changes = (λ τ. take (w.count-is τ) (w.changes-is τ)) in
          record {
            few = omega (arith, is.few, w.count-is);
            size = ap length w.changes-is ∙ is.size;
            in_store = λ n small. subst (All (λ (x : ItemChange). x.segment < n)) (sym same) (is.in_store n small);
            kinds = ap kinds_in (same ∙ sym (ap (λ o. take c.loop-i.count c.loop-i.changes ++ with_change o []) w.in-None.is ∙ append-nil (take c.loop-i.count c.loop-i.changes))) ∙ kinds;
            listed = λ array n some ascends belong small finds.
                same ∙ is.listed array n some ascends belong small finds ∙ sym (append-nil (changes_in array (take i items)))
                ∙ ap (λ (l : List ItemChange). changes_in array (take i items) ++ l) (sym (more array n some ascends belong small finds ∙ ap (λ o. with_change o []) w.in-None.is))
                ∙ sym (changes_next array items i none lt);
          }
    ]

pub returns-clause-listed : goal.returns-clause-listed
returns-clause-listed c = λ array n some ascends belong small finds.
    let end : c.loop-i.i ≡ length c.args.intent.now = omega (arith, c.len-i-end.ensures.count, c.loop-i-test.false) in
    c.loop-i.invariant.listed array n some ascends belong small finds ∙ ap (changes_in array) (take_all c.loop-i.i c.args.intent.now (omega (arith, end)))

pub returns-clause-kinds : goal.returns-clause-kinds
returns-clause-kinds c = kinds_all c.args.intent.now (λ k. is_ok (get_or c.args.found.now k (Err 0))) c.loop-i.i (take c.loop-i.count c.loop-i.changes) (omega (arith, c.len-i-end.ensures.count, c.loop-i-test.false)) c.loop-i.invariant.kinds
