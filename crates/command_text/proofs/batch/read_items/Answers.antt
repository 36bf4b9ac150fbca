-- One item more is taken, or the batch ends.
use Rattle.std.proofs.Common.{◌≡◌, ◌+◌, Bool, true, ◌||◌, [], ◌∷◌, ◌++◌, Some, None, MatchResult, ap, sym, subst, ◌∙◌, option_copied}
use Rattle.map_model.specs.Store.{Update}
use Rattle.batch_intent.specs.Pushing.{push_fault}
use Rattle.command_text.specs.Words.{words}
use Rattle.command_text.proofs.BatchTaking.{Taken, none_left, taken_next, done}
use Rattle.command_text.proofs.batch.read_items.Goals as goal

pub returns-then-repeated : goal.returns-then-repeated
returns-then-repeated c =
    done c.args.format (words c.args.rest.now) (words c.loop-i.left.now) c.loop-i._i c.loop-i.intent c.loop-i.repeated c.loop-i.invariant
    c.in-Some.words.puts c.in-Some.words.key.now c.in-Some.words.value.now (option_copied c.in-Some.words.behind) c.in-Some.ensures
    c.requires.form c.push.result c.push.new.self
    (subst (λ (u : Update). MatchResult c.push.result (λ _. (push_fault c.loop-i.intent u ≡ None) × (c.push.new.self ≡ c.loop-i.intent ++ u ∷ [])) (λ fault. (push_fault c.loop-i.intent u ≡ Some fault) × (c.push.new.self ≡ c.loop-i.intent))) c.in-Some-read_item.ensures.0 c.push.ensures.outcome)
    c.in-Some-read_item.ensures.1 (ap option_copied c.in_default-behind.is) c.push.ensures.intent.distinct true (ap (λ (b : Bool). c.loop-i.repeated || b) (sym c.is_err-repeated.ensures.value) ∙ c.if-repeated.true)

pub loop-i-preserved : goal.loop-i-preserved
loop-i-preserved c =
    subst (λ (b : Bool). Taken c.args.format (words c.args.rest.now) (words c.in-Some-behind.behind.now) (c.loop-i._i + 1) c.push.new.self (c.loop-i.repeated || b)) (sym c.is_err-repeated.ensures.value)
    (taken_next c.args.format (words c.args.rest.now) (words c.loop-i.left.now) c.loop-i._i c.loop-i.intent c.loop-i.repeated c.loop-i.invariant
    c.in-Some.words.puts c.in-Some.words.key.now c.in-Some.words.value.now (option_copied c.in-Some.words.behind) c.in-Some.ensures
    c.requires.form c.push.result c.push.new.self
    (subst (λ (u : Update). MatchResult c.push.result (λ _. (push_fault c.loop-i.intent u ≡ None) × (c.push.new.self ≡ c.loop-i.intent ++ u ∷ [])) (λ fault. (push_fault c.loop-i.intent u ≡ Some fault) × (c.push.new.self ≡ c.loop-i.intent))) c.in-Some-read_item.ensures.0 c.push.ensures.outcome)
    c.in-Some-read_item.ensures.1 c.in-Some-behind.behind.now (ap option_copied c.in-Some-behind.is))

pub unreachable-requires-2 : goal.unreachable-requires-2
unreachable-requires-2 c = none_left c.args.format (words c.args.rest.now) (words c.loop-i.left.now) c.loop-i._i c.loop-i.intent c.loop-i.repeated c.loop-i.invariant c.loop-i-test.false
