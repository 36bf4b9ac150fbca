use Rattle.std.proofs.Common.{◌≡◌, true, ◌∙◌, sym, arith}
use Rattle.std.proofs.lemmas.Bool.{false≢true}
use Rattle.index_file.specs.Node.{has_form}
use Rattle.index_file.proofs.NodeLaws.{form_of, is_node_by}
use Rattle.index_file.proofs.node.validate_node.Goals as goal

pub fence_bytes-requires-clause-some : goal.fence_bytes-requires-clause-some
fence_bytes-requires-clause-some c = (form_of c.args.format c.args.bytes.now c.args.at (grind (arith, c.has_form.ensures, c.if-not-has_form.false))).some

pub fence_bytes-requires-clause-most : goal.fence_bytes-requires-clause-most
fence_bytes-requires-clause-most c = omega (arith, c.requires.format, (form_of c.args.format c.args.bytes.now c.args.at (grind (arith, c.has_form.ensures, c.if-not-has_form.false))).most)

pub returns-in-Ok-clause-some : goal.returns-in-Ok-clause-some
returns-in-Ok-clause-some c =
    let form : has_form c.args.format c.args.bytes.now c.args.at ≡ true = grind (arith, c.has_form.ensures, c.if-not-has_form.false) in
    record {
      form = is_node_by c.args.format c.args.left c.args.right c.args.bytes.now c.args.at form (sym c.number_at.ensures ∙ c.if-number_at-left.false) (sym c.number_at-2.ensures ∙ c.if-number_at-right.false);
      fence_is = sym (c.in-Ok.ensures.key ∙ c.fence_bytes.ensures.bytes);
    }

pub returns-in-Err-clause-none : goal.returns-in-Err-clause-none
returns-in-Err-clause-none c same = absurd (false≢true (c.in-Err.ensures.when.1 (c.fence_bytes.ensures.some, c.fence_bytes.ensures.most)))
