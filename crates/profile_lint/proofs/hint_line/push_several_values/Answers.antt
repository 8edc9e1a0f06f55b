use Rattle.std.proofs.Common.{codes}
use Rattle.device_profile.specs.Field.{field_key}
use Rattle.profile_lint.specs.HintLines.{several_words}
use Rattle.profile_lint.specs.Rules.{command_of}
use Rattle.profile_lint.proofs.Pushed.{word_is_pushed}
use Rattle.profile_lint.proofs.hint_line.push_several_values.Goals as goal

pub returns : goal.returns
unfolding several_words
returns g c =
    word_is_pushed c.push_word_in.result c.push_word_in.new.out.items c.args.out.now.items
    (codes "'") c.key.result.now (codes "' has several values: each job has to send ") c.command_of.result.now
    (field_key c.args.field) (command_of c.args.field) c.key.ensures c.command_of.ensures c.push_word_in.ensures
