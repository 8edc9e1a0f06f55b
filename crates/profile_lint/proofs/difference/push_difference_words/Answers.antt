use Rattle.std.proofs.Common.{◌++◌, ap, codes, sym, ◌∙◌}
use Rattle.profile_lint.specs.Differences.{difference_words}
use Rattle.profile_lint.proofs.Pushed.{last_is_pushed}
use Rattle.profile_lint.proofs.difference.push_difference_words.Goals as goal

pub returns-in-Pages : goal.returns-in-Pages
unfolding difference_words
returns-in-Pages g c =
    last_is_pushed c.push_numbers_in.result c.push_numbers_in.new.out.items _ _
    (ap (λ difference. c.args.out.now.items ++ difference_words difference) (sym c.in-Pages.is)) c.push_numbers_in.ensures

pub returns-in-Faces : goal.returns-in-Faces
unfolding difference_words
returns-in-Faces g c =
    last_is_pushed c.push_number_in.result c.push_number_in.new.out.items _ _
    (ap (λ difference. c.args.out.now.items ++ difference_words difference) (sym c.in-Faces.is)) c.push_number_in.ensures

pub returns-in-Lists : goal.returns-in-Lists
unfolding difference_words
returns-in-Lists g c =
    last_is_pushed c.push_word_in.result c.push_word_in.new.out.items _ _
    ((λ i. c.args.out.now.items
    ++ (codes "their lists '" ++ c.key.ensures i ++ codes "' are not the same: " ++ c.meaning_of.ensures i))
    ∙ ap (λ difference. c.args.out.now.items ++ difference_words difference) (sym c.in-Lists.is)) c.push_word_in.ensures
