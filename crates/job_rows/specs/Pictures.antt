-- The picture of a page, in a job's row.
use Rattle.std.specs.Prelude.{ℕ, ◌==◌, List, [], ◌++◌, codes, length, if◌then◌else◌, None, Result, Ok, Err}
use Rattle.base64.specs.Engines.{standard}
use Rattle.base64.specs.GeneralPurpose.{encode_of}
use Rattle.streams.specs.declared.error.Error.{Error}
use Rattle.verdict.specs.declared.verdict.Verdict.{Verdict}
use Rattle.verdict.specs.declared.verdict.Verdict.TheVariants.{Pass, Fail}
use Rattle.job_reports.specs.Kinds.{kind_of}
use Rattle.job_reports.specs.declared.kind.Kind.{Kind}
use Rattle.job_reports.specs.declared.kind.Kind.TheVariants as kinds

-- What is seen of the page at which a job fails: of 12 and 33 no failure, since each is one of several panels or
-- printers together, and the page is that of one.
abbrev pub failing_caption : Kind → List ℕ
failing_caption kinds.Unchecked = codes "The page at which the job fails, from the first settings of the panel"
failing_caption kinds.Wrong = codes "The page at which the job fails, from the first settings of the panel"
failing_caption kinds.Printer = codes "The page at which the job fails, from the first settings of the panel"
failing_caption kinds.Panel =
    codes "The page as it prints from the first settings of the panel; others may print it otherwise"
failing_caption kinds.Differs = codes "The page as it prints on this printer; the first one prints it otherwise"

-- which page it is; what a caption tells apart is known without the item
abbrev pub caption : Result Verdict Error → List ℕ
caption (Ok (Pass pages marks)) = codes "The first page, from the first settings of the panel"
caption (Ok (Fail place profile reason)) = failing_caption (kind_of reason None)
caption (Err error) = []

-- the bytes of a picture in its address: the Base64 of RFC 4648, of letters, digits, `+`, `/` and `=`
unfoldable pub address_text : List ℕ → List ℕ
address_text picture = encode_of standard picture

-- A picture of its own, so that nothing in it reaches the document: an address that has all of it.
-- It is taken apart only once it is looked at.
unfoldable pub figure : Result Verdict Error → List ℕ → List ℕ
figure answer picture =
    codes "<figure>\n<figcaption>" ++ caption answer
    ++ codes "</figcaption>\n<img loading=\"lazy\" alt=\"The page\" src=\"data:image/svg+xml;base64,"
    ++ address_text picture ++ codes "\">\n</figure>\n"

-- a large picture is left to the command that draws it
unfoldable pub too_large : List ℕ
too_large =
    codes "<p>The picture of the page is too large for this document; the command picture of pclcheck draws it.</p>\n"

-- where the job has no such page, nothing
abbrev pub picture_part : Result Verdict Error → List ℕ → List ℕ
picture_part answer picture = if length picture == 0 then [] else figure answer picture
