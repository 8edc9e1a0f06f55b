-- The lines that the program writes on standard output.
use Rattle.std.specs.Prelude.{List, ℕ, ◌++◌, codes, decimal}
use Rattle.verdict.specs.declared.verdict.Verdict.{Verdict}
use Rattle.verdict.specs.declared.verdict.Verdict.TheVariants.{Pass, Fail}
use Rattle.line_words.specs.Reason.{reason_words}

abbrev pub verdict_line : Verdict → List ℕ
verdict_line (Pass pages marks) = codes "PASS pages=" ++ decimal pages ++ codes " marks=" ++ decimal marks ++ codes "\n"
verdict_line (Fail place profile finding) =
    codes "FAIL at=" ++ decimal place ++ codes " profile=" ++ decimal profile ++ codes " " ++ reason_words finding
    ++ codes "\n"
