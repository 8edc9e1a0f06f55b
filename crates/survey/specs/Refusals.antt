-- What the language refuses, and which refusals are alike.
use Rattle.std.specs.Prelude.{ℕ, ◌==◌, ◌&&◌, Bool, true, false}
use Rattle.verdict.specs.Numbers.{cause_number}
use Rattle.survey.specs.declared.refusal.Refusal.{Refusal}
use Rattle.survey.specs.declared.refusal.Spelled.{Spelled}
use Rattle.survey.specs.declared.refusal.Spelled.TheVariants.{Control, Sequence, Grouped, Ungrouped, Unended}
use Rattle.survey.specs.declared.refusal.Spelled.TheVariants.{Instruction, FrameBytes, Line, End}

abbrev pub is_same_spelling : Spelled → Spelled → Bool
is_same_spelling (Control a) (Control b) = a == b
is_same_spelling (Sequence a) (Sequence b) = a == b
is_same_spelling (Grouped a b c) (Grouped d e f) = (a == d) && (b == e) && (c == f)
is_same_spelling (Ungrouped a b) (Ungrouped c d) = (a == c) && (b == d)
is_same_spelling Unended Unended = true
is_same_spelling (Instruction a b) (Instruction c d) = (a == c) && (b == d)
is_same_spelling FrameBytes FrameBytes = true
is_same_spelling (Line a) (Line b) = a == b
is_same_spelling End End = true
is_same_spelling _ _ = false

-- they are spelled alike and refused for the same kind of fault
abbrev pub is_same : Refusal → Refusal → Bool
is_same one other =
    (cause_number one.cause == cause_number other.cause) && is_same_spelling one.spelled other.spelled
