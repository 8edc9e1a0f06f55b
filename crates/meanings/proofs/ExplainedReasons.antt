-- Each fault, finding and note is explained, and each explanation is of one.
use Rattle.std.proofs.Common.{◌≡◌, ℕ, List, [], ◌∷◌, ◌++◌, map, filter, get_or, refl}
use Rattle.std.specs.Prelude.{decimal}
use Rattle.std.specs.Fmt.{digits}
use Rattle.pcl_items.specs.declared.fault.LexCause.TheVariants.{Syntax, Truncated, NotInProfile, BadNumber, Pjl, EndInFrame}
use Rattle.pcl_items.specs.declared.fault.Name.TheVariants.{Byte}
use Rattle.device_profile.specs.declared.field.Field.TheVariants.{Size}
use Rattle.page_env.specs.declared.finding.Finding.TheVariants as findings
use Rattle.verdict.specs.declared.reason.Reason.{Reason}
use Rattle.verdict.specs.declared.reason.Reason.TheVariants.{Fault, Finding as Found, Differs, Unpinnable}
use Rattle.verdict.specs.Numbers.{reason_number}
use Rattle.line_words.specs.Reason.{bare_name}
use Rattle.meanings.specs.declared.explanations.TheConstants.{EXPLANATIONS}
use Rattle.notes.specs.declared.note.Note.{Note}
use Rattle.notes.specs.declared.note.Note.TheVariants as note_kinds
use Rattle.notes.specs.Note.{note_name, note_number}
use Rattle.meanings.specs.Explanations.{ExplainReasons, IsExplained, first_line, head_of, head_of_note, head_with, is_about}

abbrev texts : List (List ℕ)
texts = map (λ text. text.now) EXPLANATIONS

-- what is asked for by a number, and the first of it
abbrev found : ℕ → List (List ℕ)
found number = filter (is_about (decimal number)) texts

abbrev text_of : ℕ → List ℕ
text_of number = get_or (found number) 0 []

of : {number : ℕ} {name : List ℕ} → found number ≡ text_of number ∷ [] →
    filter (is_about name) texts ≡ text_of number ∷ []
    → first_line (text_of number) ≡ head_with number name → IsExplained texts number name
of {number} {name} by_number by_name begins =
    record { text = text_of number; by_number = by_number; by_name = by_name; begins = begins }

each : (reason : Reason) → IsExplained texts (reason_number reason) (bare_name reason)
unfolding digits
each (Fault Syntax) = of refl refl refl
each (Fault Truncated) = of refl refl refl
each (Fault (NotInProfile name)) = of refl refl refl
each (Fault BadNumber) = of refl refl refl
each (Fault Pjl) = of refl refl refl
each (Fault EndInFrame) = of refl refl refl
each (Found findings.BadValue) = of refl refl refl
each (Found findings.NotOnDevice) = of refl refl refl
each (Found (findings.Unset field)) = of refl refl refl
each (Found findings.NoFont) = of refl refl refl
each (Found (findings.NoGlyph code)) = of refl refl refl
each (Found findings.OffPage) = of refl refl refl
each (Found findings.PastRightMargin) = of refl refl refl
each (Found findings.NotPrintable) = of refl refl refl
each (Found findings.StackFull) = of refl refl refl
each (Found findings.StackEmpty) = of refl refl refl
each (Found findings.NoMacro) = of refl refl refl
each (Found findings.MacroDepth) = of refl refl refl
each (Found findings.MacroMemory) = of refl refl refl
each (Found findings.InMacro) = of refl refl refl
each (Found findings.DefinitionOpen) = of refl refl refl
each (Found findings.RasterNotStarted) = of refl refl refl
each (Found findings.RasterLocked) = of refl refl refl
each (Found findings.RasterTooBig) = of refl refl refl
each (Found findings.NoPen) = of refl refl refl
each (Found findings.OutsideFrame) = of refl refl refl
each (Found findings.EmptyRectangle) = of refl refl refl
each (Found findings.Inexact) = of refl refl refl
each (Found findings.MarginIgnored) = of refl refl refl
each Differs = of refl refl refl
each (Found findings.RotatedRaster) = of refl refl refl
each Unpinnable = of refl refl refl
each (Found findings.ManyItems) = of refl refl refl

abbrev reasons : List Reason
reasons =
    Fault Syntax ∷ Fault Truncated ∷ Fault (NotInProfile (Byte 0)) ∷ Fault BadNumber
    ∷ Fault Pjl ∷ Fault EndInFrame ∷ Found findings.BadValue ∷ Found findings.NotOnDevice
    ∷ Found (findings.Unset Size) ∷ Found findings.NoFont ∷ Found (findings.NoGlyph 0)
    ∷ Found findings.OffPage
    ∷ Found findings.PastRightMargin ∷ Found findings.NotPrintable ∷ Found findings.StackFull ∷ Found findings.StackEmpty
    ∷ Found findings.NoMacro ∷ Found findings.MacroDepth ∷ Found findings.MacroMemory ∷ Found findings.InMacro
    ∷ Found findings.DefinitionOpen ∷ Found findings.RasterNotStarted ∷ Found findings.RasterLocked ∷ Found findings.RasterTooBig
    ∷ Found findings.NoPen ∷ Found findings.OutsideFrame ∷ Found findings.EmptyRectangle ∷ Found findings.Inexact
    ∷ Found findings.MarginIgnored ∷ Differs ∷ Found findings.RotatedRaster ∷ Unpinnable
    ∷ Found findings.ManyItems ∷ []

each_note : (note : Note) → IsExplained texts (note_number note) (note_name note)
unfolding digits
each_note note_kinds.OpenStart = of refl refl refl
each_note note_kinds.OpenEnd = of refl refl refl
each_note note_kinds.NoPage = of refl refl refl
each_note note_kinds.PjlAsText = of refl refl refl
each_note note_kinds.SameOrientation = of refl refl refl
each_note note_kinds.RoundedColumn = of refl refl refl
each_note note_kinds.FractionOfUnit = of refl refl refl
each_note note_kinds.LaterLanguage = of refl refl refl
each_note note_kinds.ShortRaster = of refl refl refl
each_note note_kinds.BlankOverflow = of refl refl refl
each_note note_kinds.SourceMovesLeft = of refl refl refl
each_note note_kinds.LongRun = of refl refl refl
each_note note_kinds.OtherLanguage = of refl refl refl

abbrev notes : List Note
notes =
    note_kinds.OpenStart ∷ note_kinds.OpenEnd ∷ note_kinds.NoPage ∷ note_kinds.PjlAsText ∷ note_kinds.SameOrientation
    ∷ note_kinds.RoundedColumn
    ∷ note_kinds.FractionOfUnit ∷ note_kinds.LaterLanguage ∷ note_kinds.ShortRaster ∷ note_kinds.BlankOverflow ∷ note_kinds.SourceMovesLeft
    ∷ note_kinds.LongRun ∷ note_kinds.OtherLanguage ∷ []

only : map first_line texts ≡ map head_of reasons ++ map head_of_note notes
unfolding digits
only = refl

pub explain_reasons : ExplainReasons texts
explain_reasons = record { each = each; each_note = each_note; reasons = reasons; notes = notes; only = only }
