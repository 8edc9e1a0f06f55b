-- Lines by hand, and what they are. Blanks are the bytes 9, 13 and 32.
use Rattle.std.specs.Prelude.{◌≡◌, [], ◌∷◌, ◌++◌, None, Some, codes, refl}
use Rattle.pcl_items.specs.PjlLines.Text.{Bare, Remark, JobBegins, JobEnds, EnterPcl}
use Rattle.pcl_items.specs.PjlLines.Reader.{trimmed, is_word, past_part, parts_behind, is_language, in_words, pjl_command_of}

bare_line : pjl_command_of (codes "@PJL  ") ≡ Some Bare
unfolding pjl_command_of trimmed
bare_line = refl

small_prefix : pjl_command_of (codes "@pjl") ≡ None
unfolding pjl_command_of
small_prefix = refl

no_prefix : pjl_command_of (codes "@XYZ") ≡ None
unfolding pjl_command_of
no_prefix = refl

unknown_word : pjl_command_of (codes "@PJL SET") ≡ None
unfolding pjl_command_of trimmed in_words is_word
unknown_word = refl

named_job :
    pjl_command_of (codes "@PJL  job name = \"x\"   Display=\"y\" " ++ 13 ∷ []) ≡ Some (JobBegins (codes "name = \"x\"   Display=\"y\""))
unfolding pjl_command_of trimmed in_words is_word past_part parts_behind
named_job = refl

enter_pcl : pjl_command_of (codes "@PJL enter" ++ 9 ∷ codes "language = pcl") ≡ Some EnterPcl
unfolding pjl_command_of trimmed in_words is_word is_language
enter_pcl = refl

any_text : pjl_command_of (codes "@PJL COMMENT " ++ 27 ∷ 69 ∷ 0 ∷ 255 ∷ 34 ∷ []) ≡ Some (Remark (27 ∷ 69 ∷ 0 ∷ 255 ∷ 34 ∷ []))
unfolding pjl_command_of trimmed in_words is_word
any_text = refl

blank_text : pjl_command_of (codes "@PJL COMMENT " ++ 9 ∷ 13 ∷ []) ≡ Some (Remark [])
unfolding pjl_command_of trimmed in_words is_word
blank_text = refl

job_end : pjl_command_of (codes "@PJL" ++ 9 ∷ codes "EOJ" ++ 13 ∷ []) ≡ Some (JobEnds [])
unfolding pjl_command_of trimmed in_words is_word
job_end = refl

two_names : pjl_command_of (codes "@PJL JOB" ++ 13 ∷ codes "NAME=\"x\"" ++ 9 ∷ codes "NAME=\"y\"")
    ≡ Some (JobBegins (codes "NAME=\"x\"" ++ 9 ∷ codes "NAME=\"y\""))
unfolding pjl_command_of trimmed in_words is_word past_part parts_behind
two_names = refl

longer_word : pjl_command_of (codes "@PJL COMMENTx") ≡ None
unfolding pjl_command_of trimmed in_words is_word
longer_word = refl

quote_behind_word : pjl_command_of (codes "@PJL JOB\"x\"") ≡ None
unfolding pjl_command_of trimmed in_words is_word
quote_behind_word = refl

two_ends : pjl_command_of (codes "@PJL EOJ NAME=\"x\" NAME=\"x\"") ≡ None
unfolding pjl_command_of trimmed in_words is_word past_part parts_behind
two_ends = refl

display_end : pjl_command_of (codes "@PJL EOJ DISPLAY=\"x\"") ≡ None
unfolding pjl_command_of trimmed in_words is_word past_part parts_behind
display_end = refl
