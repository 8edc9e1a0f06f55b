-- The variables of a printer that are read.
use Rattle.std.specs.Prelude.{ℕ, List, [], ◌∷◌, codes}
use Rattle.pjl_answer.specs.declared.variable.Variable.{Variable}
use Rattle.pjl_answer.specs.declared.variable.Variable.TheVariants as variables

-- THE TABLE OF VARIABLES, by their names in PJL
abbrev pub word_of : Variable → List ℕ
word_of variables.Paper = codes "PAPER"
word_of variables.Orientation = codes "ORIENTATION"
word_of variables.FormLines = codes "FORMLINES"
word_of variables.FontSource = codes "FONTSOURCE"
word_of variables.FontNumber = codes "FONTNUMBER"
word_of variables.SymbolSet = codes "SYMSET"
word_of variables.Pitch = codes "PITCH"
word_of variables.Copies = codes "COPIES"
word_of variables.Duplex = codes "DUPLEX"
word_of variables.Binding = codes "BINDING"
word_of variables.ManualFeed = codes "MANUALFEED"
word_of variables.MpTray = codes "MPTRAY"
word_of variables.LineTermination = codes "LINETERMINATION"
word_of variables.AppendCrToLf = codes "APPENDCRTOLF"
word_of variables.WideA4 = codes "WIDEA4"
word_of variables.EdgeToEdge = codes "EDGETOEDGE"
word_of variables.OverrideA4WithLetter = codes "OVERRIDEA4WITHLETTER"
word_of variables.PanelLock = codes "CPLOCK"
word_of variables.Personality = codes "PERSONALITY"
word_of variables.Memory = codes "MEMORY"

abbrev pub every_variable : List Variable
every_variable =
    variables.Paper ∷ variables.Orientation ∷ variables.FormLines ∷ variables.FontSource ∷ variables.FontNumber
    ∷ variables.SymbolSet ∷ variables.Pitch ∷ variables.Copies ∷ variables.Duplex ∷ variables.Binding
    ∷ variables.ManualFeed ∷ variables.MpTray
    ∷ variables.LineTermination ∷ variables.AppendCrToLf ∷ variables.WideA4 ∷ variables.EdgeToEdge
    ∷ variables.OverrideA4WithLetter ∷ variables.PanelLock ∷ variables.Personality ∷ variables.Memory ∷ []
