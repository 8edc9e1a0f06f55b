use Rattle.std.proofs.Common.{◌≡◌, ◌++◌, IsFalse, map, take}
use Rattle.std.specs.Prelude.{string_bytes}
use Rattle.many_requests.specs.Checks.{ReadsFleets}
use Rattle.many_requests.proofs.many.read_fleets.Given as goal

abbrev pub invariant-loop-path : goal.invariant-loop-path
invariant-loop-path g l = record {
  working : IsFalse (g.T.ProfileTexts.failed l.texts);
  same : g.T.ProfileTexts.text_of l.texts ≡ g.T.ProfileTexts.text_of l.initial.texts;
  quiet : l.stderr ≡ l.initial.stderr;
  asked : g.T.ProfileTexts.named l.texts
      ≡ g.T.ProfileTexts.named l.initial.texts ++ map (λ path. path.now) (take l.path-index l.paths);
  read : ReadsFleets (g.T.ProfileTexts.text_of l.initial.texts) (map (λ path. path.now) (take l.path-index l.paths))
      (g.T.ProfileTexts.given l.initial.texts) (g.T.ProfileTexts.given l.texts) (map string_bytes l.words.items);
}
