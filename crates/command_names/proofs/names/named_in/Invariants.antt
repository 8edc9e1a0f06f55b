use Rattle.std.proofs.Common.{◌≡◌, drop}
use Rattle.command_names.specs.CommandNames.{named_by, texts_in}
use Rattle.command_names.proofs.names.named_in.Given as goal

abbrev pub invariant-loop-chapter : goal.invariant-loop-chapter
invariant-loop-chapter l = named_by l.key (texts_in l.chapters) ≡ named_by l.key (texts_in (drop l.chapter-index l.chapters))
