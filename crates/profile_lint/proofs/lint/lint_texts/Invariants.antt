use Rattle.std.proofs.Common.{◌≡◌, flat_map, map, take}
use Rattle.profile_lint.specs.Lint.{findings_text, sound_printers, sound_words}
use Rattle.profile_lint.proofs.lint.lint_texts.Given as goal

abbrev pub invariant-loop-named : goal.invariant-loop-named
invariant-loop-named g l =
    (l.lines.items ≡ flat_map findings_text (take l.named-index l.texts))
    × (map (λ word. word.now) l.words.items ≡ flat_map sound_words (take l.named-index l.texts))
    × (l.profiles.items ≡ flat_map sound_printers (take l.named-index l.texts))
