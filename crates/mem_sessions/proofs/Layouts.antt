-- The longest file of the tests.
use Rattle.std.proofs.Common.{◌≡◌, ℕ, ◌^◌, ◌≤◌, Option, Some, sym, ap, subst, ◌∙◌, arith}
use Rattle.std.proofs.Math.Pow.{pow_mono}
use Rattle.header_gate.proofs.Shifts.{shift_size}
use Rattle.header_gate.specs.Places.{file_length}
use Rattle.header_gate.specs.declared.layout.Layout.{Layout}
use Rattle.pma_engine.specs.CommandLines.{layout_of, made_by}
use Rattle.pma_engine.specs.declared.words.Form.{Form}
use Rattle.pma_engine.specs.declared.words.Job.{Job}
use Rattle.pma_engine.specs.declared.words.Job.TheVariants.{Create}
use Rattle.pma_engine.proofs.Layouts.{area_most}

-- a file of height limit 4 with two journals of 16 segments and an index has 278528 bytes, and none below it has more
pub short_file : (form : Form) (height journal : ℕ) → height ≤ 4 → journal ≤ 16 → file_length (layout_of form height journal) ≤ 278528
short_file form height journal low few =
    let power : 2 ^ height ≤ 2 ^ 4 = pow_mono {i = height} {j = 4} low in
    omega (arith, few, power, shift_size (layout_of form height journal) 1, area_most (layout_of form height journal))

-- the same of what words ask for, where its height and journal were read
pub short_made : {form : Form} (job : Option Job) (h j : ℕ) (l : Layout) → job ≡ Some (Create form h j) → made_by job ≡ Some l → h ≤ 4 → j ≤ 16 → file_length l ≤ 278528
short_made {form} job h j l is made low few =
    let same : Some (layout_of form h j) ≡ Some l = sym (ap made_by is) ∙ made in
    let one : layout_of form h j ≡ l = cc in
    subst (λ (x : Layout). file_length x ≤ 278528) one (short_file form h j low few)
