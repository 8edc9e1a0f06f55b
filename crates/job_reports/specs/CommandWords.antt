-- The item that a job fails at, in words.
use Rattle.std.specs.Prelude.{ℕ, ℤ, ◌==◌, unsigned_abs, List, [], ◌∷◌, ◌++◌, codes, decimal, flat_map, if◌then◌else◌}
use Rattle.shown_bytes.specs.Decimals.{amount, minus}
use Rattle.shown_bytes.specs.Lettered.{lettered}
use Rattle.pcl_items.specs.Spellings.Canon.{canon}
use Rattle.pcl_items.specs.Escapes.Commands.{introducer_of, character_of, data_group_of, data_letter_of}
use Rattle.pcl_items.specs.Items.{simple_view}
use Rattle.line_words.specs.Figures.{escaped_byte}
use Rattle.device_profile.specs.declared.font.FontRequest.{FontRequest}
use Rattle.judgement.specs.declared.failing_item.FailingItem.{FailingItem}
use Rattle.judgement.specs.declared.failing_item.FailingItem.TheVariants.{Text, Simple, WithData, Line}

-- a byte of a spelling: a control code by its name, any other byte as `list` writes it
abbrev pub code_words : ℕ → List ℕ
code_words byte =
    if byte == 27 then codes "ESC " else
    if byte == 13 then codes "CR" else
    if byte == 10 then codes "LF" else
    if byte == 12 then codes "FF" else escaped_byte byte

-- an item in its one spelling, but without data; of a line only how it begins
abbrev pub command_words : FailingItem → List ℕ
command_words (Text code) = codes "character " ++ escaped_byte code
command_words (Simple item) = flat_map code_words (canon (simple_view item))
command_words (WithData command count) =
    codes "ESC " ++ introducer_of (data_group_of command) ∷ character_of (data_group_of command)
    ∷ (decimal count ++ data_letter_of command ∷ [])
command_words Line = codes "@PJL"

-- ---- the commands that ask for a font

-- of how it is set
unfoldable pub setting_words : FontRequest → List ℕ
setting_words font =
    amount font.spacing ++ codes "p" ++ amount font.pitch ++ codes "h" ++ amount font.height ++ codes "v"

-- of its stroke weight, which may be less than 0
unfoldable pub weight_words : ℤ → List ℕ
weight_words weight = minus weight ++ amount (unsigned_abs weight) ++ codes "b"

-- of how it looks
unfoldable pub look_words : FontRequest → List ℕ
look_words font =
    amount font.style ++ codes "s" ++ weight_words font.weight ++ amount font.typeface ++ codes "T"

-- of all of it
unfoldable pub font_commands : FontRequest → List ℕ
font_commands font =
    codes "ESC (" ++ lettered font.symbol_set.number font.symbol_set.letter ++ codes " ESC (s" ++ setting_words font
    ++ look_words font
