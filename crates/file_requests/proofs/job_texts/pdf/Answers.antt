use Rattle.std.proofs.Common.{[], ◌∷◌, arith, inl, inr, refl, sym}
use Rattle.std.specs.Prelude.{Contains}
use Rattle.file_requests.proofs.OnFiles.{pdf_left}
use Rattle.file_requests.proofs.job_texts.pdf.Goals as goal

pub returns-then-is_pipe : goal.returns-then-is_pipe
returns-then-is_pipe g c =
    let jobs = c.args.asked.now.job.now ∷ [] in
    let is_one : Contains jobs c.as_bytes-then-is_pipe.result.now = (0, omega arith, sym c.as_bytes-then-is_pipe.ensures.value) in
    inr (c.refuse_pipe.ensures jobs is_one, refl, refl)

pub returns : goal.returns
returns g c =
    let asked = c.args.asked.now in
    let left = c.pdf-ended.ensures in
    inl
    (pdf_left asked.job.now c.args.out.now _ _ _ asked.setting.profile.now asked.most_items asked.setting.choices.now asked.selection
    asked.is_proof
    _ _ _ _ _ _ _ c.pdf-ended.result _ _ _ _ _ _ _ c.end_document-status.new.out _ _ _ _ _ _ _
    c.new-texts.ensures.given c.new-first.ensures.file c.new-source.ensures.file c.new-outlet.ensures.file left.ends left.choice left.limit
    c.end_document-status.ensures c.new-texts.ensures.named left.named c.end.ensures
    c.new-first.ensures.path c.new-source.ensures.path c.new-outlet.ensures.path c.read.ensures c.read-2.ensures c.written.ensures)
