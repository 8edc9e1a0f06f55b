use Rattle.std.proofs.Common.{Bool, List, inl, inr, map, option_map, refl, subst}
use Rattle.many_jobs.specs.Asked.{asked_for}
use Rattle.streams.specs.Used.{FileUse}
use Rattle.many_requests.specs.Checks.{LeavesAsked}
use Rattle.many_requests.specs.Documents.{DocumentsAsked, WritesBehind, has_lines}
use Rattle.many_requests.proofs.many.check_into.Goals as goal

pub returns-in-Some : goal.returns-in-Some
returns-in-Some g c = inr (c.in-Some.ensures.refused, refl)

pub returns : goal.returns
returns g c =
    let told = g.E.Outlet.state c.check_all-answer.new.stderr in
    let answer = c.check_all-answer.result in
    let asked : Bool → DocumentsAsked = λ has_errors. record {
      folder = c.args.folder.now;
      asked = asked_for c.args.many.now;
      fleets = map (λ path. path.now) c.args.fleets.now;
      names_from = option_map (λ path. path.now) c.args.names_from;
      has_errors = has_errors;
    } in
    inl (record {
      apart = c.in_default.ensures.apart;
      answer = c.check_all-answer.result;
      between = c.check_all-answer.new.used;
      told = told;
      checked =
          subst
          (λ err. LeavesAsked (option_map (λ path. path.now) c.args.names_from) (asked_for c.args.many.now) c.check_all-answer.result
          c.args.used.now c.check_all-answer.new.used (g.O.Outlet.state c.args.stdout.now)
          (g.O.Outlet.state c.check_all-answer.new.stdout) (g.E.Outlet.state err) told)
          c.in_default.ensures.quiet
          (subst
          (λ (used : List FileUse). LeavesAsked (option_map (λ path. path.now) c.args.names_from) (asked_for c.args.many.now)
          c.check_all-answer.result used c.check_all-answer.new.used (g.O.Outlet.state c.args.stdout.now)
          (g.O.Outlet.state c.check_all-answer.new.stdout) (g.E.Outlet.state c.refuse_documents.new.stderr) told)
          c.in_default.ensures.unused c.check_all-answer.ensures);
      written =
          subst
          (λ has_errors. WritesBehind (has_lines answer) (asked has_errors) answer c.write_documents.result c.check_all-answer.new.used
          c.write_documents.new.used told (g.E.Outlet.state c.write_documents.new.stderr))
          c.has_errors.ensures c.write_documents.ensures;
    })
