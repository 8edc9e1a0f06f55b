use Rattle.std.proofs.Common.{◌≡◌, ◌∙◌, Bool, append-nil, if◌then◌else◌, length, refl, subst, sym}
use Rattle.std.specs.Prelude.{OnOk}
use Rattle.page_env.specs.Mark.{shape_of}
use Rattle.page_pdf.specs.Document.{HasWritten, nothing, settled}
use Rattle.page_pdf.specs.Pending.{goes_on}
use Rattle.page_pdf.proofs.Settling.{on_is}
use Rattle.page_pdf.proofs.document.Document.settle_before.Goals as goal

pub returns-then-is_on : goal.returns-then-is_on
returns-then-is_on g c =
    let old = c.args.self.now in
    let text = c.args.text.now.items in
    let mark = shape_of c.args.mark.now in
    let is : c.goes_on-is_on.result ≡ goes_on c.args.paper.now old.pending (length old.pixels) mark =
    on_is c.args.paper.now mark old c.pixels.result.now c.pending.result c.goes_on-is_on.result c.goes_on-is_on.ensures
    c.pixels.ensures c.pending.ensures in
    subst (λ (on : Bool). HasWritten (if on then nothing old else settled old) text text old) (sym c.if-is_on.true ∙ is)
    (record { text_is = sym (append-nil text); pdf_is = refl })

pub returns : goal.returns
returns g c =
    let old = c.args.self.now in
    let mark = shape_of c.args.mark.now in
    let is : c.goes_on-is_on.result ≡ goes_on c.args.paper.now old.pending (length old.pixels) mark =
    on_is c.args.paper.now mark old c.pixels.result.now c.pending.result c.goes_on-is_on.result c.goes_on-is_on.ensures
    c.pixels.ensures c.pending.ensures in
    subst
    (λ (on : Bool).
    OnOk c.settle.result
    (HasWritten (if on then nothing old else settled old) c.args.text.now.items c.settle.new.text.items c.settle.new.self))
    (sym c.if-is_on.false ∙ is) c.settle.ensures
