use Rattle.std.proofs.Common.{◌≡◌, ◌++◌, ℤ, ap, arith, codes, sym}
use Rattle.std.specs.Int.{cast_signed, cast_unsigned, w64}
use Rattle.std.proofs.lemmas.Int.{ints, to_z-of_z}
use Rattle.shown_bytes.specs.Lengths.{millimetres}
use Rattle.job_reports.specs.JobSentences.{left_phrase}
use Rattle.job_reports.proofs.Appending.{three_appended}
use Rattle.job_reports.proofs.job_sentences.push_left.Goals as goal

pub returns : goal.returns
unfolding left_phrase
returns g c =
    let same : cast_signed w64 (cast_unsigned w64 c.args.x) ≡ c.args.x = grind (arith, ints, to_z-of_z, c.ranges.x.sfits) in
    three_appended c.extend_from_slice-2.result c.args.line.now.items _ _ _ (codes ", ") _ (codes " mm from the left") _
    c.in_ok-extend_from_slice.ensures.items c.in_ok-push_millimetres.ensures c.extend_from_slice-2.ensures.items
    (ap (λ (z : ℤ). codes ", " ++ millimetres z ++ codes " mm from the left") (sym same))
