-- The bytes and what was copied behind them.
use Rattle.std.proofs.Common.{◌+◌, ◌-◌, ◌++◌, take, length, ap, ◌∙◌, arith}
use Rattle.std.proofs.lemmas.Slice.{take-put_mid}
use Rattle.pma_engine.proofs.output_buffer.copy_behind.Goals as goal

pub returns-clause-behind : goal.returns-clause-behind
returns-clause-behind c =
    let copied = c.copy_from_slice.ensures.after in
    take-put_mid c.args.len (c.args.len + length c.args.more.now - c.args.len) c.args.bytes.now c.copy_from_slice.new.self (c.args.len + length c.args.more.now) (omega (arith, ap length copied)) (omega (arith, c.requires))
    ∙ ap (λ l. take c.args.len c.args.bytes.now ++ l) copied
