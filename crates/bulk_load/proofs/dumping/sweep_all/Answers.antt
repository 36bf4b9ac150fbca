use Rattle.std.proofs.Common.{◌≡◌, ◌≤◌, ◌^◌, ℕ, length, arith, ap, refl, sym, ◌∙◌}
use Rattle.std.specs.FinMap.{entries}
use Rattle.map_model.specs.Image.{array_in, map_of, height_of}
use Rattle.range_scan.proofs.Standing.{cut_is, cut_size}
use Rattle.std.proofs.Math.Pow.{pow_mono}
use Rattle.map_model.specs.Scan.{scanned}
use Rattle.range_scan.specs.SweepView.{SweepView}
use Rattle.bulk_load.proofs.DumpLaws.{all_scanned, few_entries}
use Rattle.bulk_load.proofs.dumping.sweep_all.Goals as goal

pub returns-clause-all : goal.returns-clause-all
returns-clause-all c image stands =
    let few = few_entries image (map_of image) (height_of image) stands.stands.settled.represents in
    ap (λ (s : SweepView). scanned s.low s.high s.limit (entries (map_of image))) c.over.ensures.sweep ∙ all_scanned 4294967295 (entries (map_of image)) (omega (arith, few))

pub returns-clause-sweeping : goal.returns-clause-sweeping
returns-clause-sweeping c image stands =
    let place = c.args.place.now in
    let tally = c.args.tally.now in
    let size : length (array_in image tally.height) ≡ 2 ^ tally.height = sym (ap length (cut_is place.layout place.region tally.height tally.counts image stands.stands)) ∙ cut_size place.layout place.region tally.height tally.counts image stands.stands in
    let low : tally.height ≤ 17 = omega (arith, c.requires.height, c.requires.layout.most, c.requires.layout.format.least) in
    let small : 2 ^ tally.height ≤ 131072 = pow_mono {i = tally.height} {j = 17} low in
    c.over.ensures.there image stands refl (omega (arith, size, small, ap (λ (h : ℕ). 2 ^ h) c.height.ensures.height))
