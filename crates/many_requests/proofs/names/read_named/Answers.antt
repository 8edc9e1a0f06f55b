use Rattle.std.proofs.Common.{◌≡◌, ◌∙◌, ◌++◌, ◌∷◌, [], ℕ, List, ap, false, subst, sym, true}
use Rattle.std.proofs.lemmas.Result.{IfOk-weaker}
use Rattle.streams.specs.Files.{no_source}
use Rattle.streams.specs.Source.{SourceState}
use Rattle.streams.specs.Used.{FileUse, read_at}
use Rattle.named_inputs.proofs.InputUses.{file_read, input_read}
use Rattle.named_inputs.specs.FileJobs.{is_input}
use Rattle.many_requests.specs.Names.{AreBytesBy, AreBytesOf}
use Rattle.many_requests.proofs.names.read_named.Goals as goal

-- of standard input, of which nothing was read before
of_input : (path : List ℕ) (used : List FileUse) (start file : SourceState) (bytes : List ℕ)
    → start ≡ no_source → AreBytesBy start file bytes → is_input path ≡ true → AreBytesOf path used used bytes
of_input path used start file bytes new by is =
    (file, subst (λ first. AreBytesBy first file bytes) new by, input_read used path file is)

-- of a file, of which nothing was read before
of_file : (path at : List ℕ) (used used' : List FileUse) (start file : SourceState) (bytes : List ℕ)
    → start ≡ no_source → AreBytesBy start file bytes → is_input path ≡ false → at ≡ path → used' ≡ used ++ read_at at file ∷ []
    → AreBytesOf path used used' bytes
of_file path at used used' start file bytes new by is place read =
    (file, subst (λ first. AreBytesBy first file bytes) new by, file_read used used' path at file is place read)

pub returns-then-is_input-clause-read : goal.returns-then-is_input-clause-read
returns-then-is_input-clause-read g c =
    let is = ap is_input (sym c.as_bytes.ensures.value) ∙ sym c.is_input.ensures ∙ c.if-is_input.true in
    IfOk-weaker c.read_bytes.result _ _
    (λ names by. of_input c.args.path.now c.args.used.now _ _ names.items c.job-input.ensures.start by is) c.read_bytes.ensures.read

pub returns-clause-read : goal.returns-clause-read
returns-clause-read g c =
    let is = ap is_input (sym c.as_bytes.ensures.value) ∙ sym c.is_input.ensures ∙ c.if-is_input.false in
    IfOk-weaker c.read_bytes-names.result _ _
    (λ names by. of_file c.args.path.now _ c.args.used.now _ _ _ names.items c.new-source.ensures.file by is c.new-source.ensures.path
    c.read.ensures)
    c.read_bytes-names.ensures.read
