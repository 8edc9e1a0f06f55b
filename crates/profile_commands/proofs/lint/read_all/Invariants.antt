use Rattle.std.proofs.Common.{◌≡◌, ◌++◌, IsFalse, map, take}
use Rattle.profile_commands.specs.ProfileLint.{AreRead}
use Rattle.profile_commands.proofs.lint.read_all.Given as goal

abbrev pub invariant-loop-word : goal.invariant-loop-word
invariant-loop-word g l =
    IsFalse (g.T.ProfileTexts.failed l.texts)
    × (g.T.ProfileTexts.text_of l.texts ≡ g.T.ProfileTexts.text_of l.initial.texts)
    × (l.stderr ≡ l.initial.stderr)
    × AreRead (g.T.ProfileTexts.text_of l.initial.texts) (map (λ word. word.now) (take l.word-index l.words))
    (g.T.ProfileTexts.given l.initial.texts) (g.T.ProfileTexts.given l.texts) l.all.items
    × (g.T.ProfileTexts.named l.texts
    ≡ g.T.ProfileTexts.named l.initial.texts ++ map (λ word. word.now) (take l.word-index l.words))
