-- What each request keeps to.
use Rattle.std.specs.Prelude.{◌≢◌, [], IfSome, IsFalse, ⊤}
use Rattle.requests.specs.declared.request.Request.{Request}
use Rattle.requests.specs.declared.request.Request.TheVariants.{Check, CheckMany, Compare, Pdf, Plain, Pin}
use Rattle.requests.specs.declared.request.Request.TheVariants.{ProfileSheet}
use Rattle.requests.specs.Comparisons.{NamesCompared, reads_job, reads_printer}
use Rattle.requests.specs.ManyWords.{NamesPrinter}

-- a check and a comparison name one printer at least, or a text that does, and golden jobs are one job at least
abbrev pub NamesSome : Request → Type 0
NamesSome (Check job profiles) = profiles.items ≢ []
NamesSome (CheckMany many) = NamesPrinter many
NamesSome (Compare words) = NamesCompared words
NamesSome _ = ⊤

-- a text, a document or a picture of jobs, and a sheet, go to no path that is read
abbrev pub KeepsWhatItReads : Request → Type 0
KeepsWhatItReads (Plain job out) = job.now ≢ out.now
KeepsWhatItReads (Pdf job profile choices selection is_proof out) = (job.now ≢ out.now) × (profile.now ≢ out.now)
KeepsWhatItReads (Pin job profile choices out) = (job.now ≢ out.now) × (profile.now ≢ out.now)
KeepsWhatItReads (ProfileSheet profile out) = profile.now ≢ out.now
KeepsWhatItReads (Compare words) =
    IfSome words.picture (λ out. IsFalse (reads_job words.jobs out.now) × IsFalse (reads_printer words out.now))
KeepsWhatItReads _ = ⊤
