use Rattle.std.proofs.Common.{flat_map, map}
use Rattle.std.specs.Prelude.{string_bytes}
use Rattle.many_jobs.specs.FleetFile.{AddsBytes, words_at}
use Rattle.many_jobs.proofs.fleet_file.push_words.Given as goal

abbrev pub invariant-loop-line : goal.invariant-loop-line
invariant-loop-line g l =
    AddsBytes string_bytes l.initial.words.items l.words.items (flat_map (words_at l.path) (map (λ line. line.now) l.yielded))
