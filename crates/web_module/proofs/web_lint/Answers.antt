use Rattle.web_module.proofs.web_lint.Goals as goal

pub returns : goal.returns
returns c = record {
  work = c.lint-told.result;
  found = c.lint-told.ensures.found;
  untold = c.lint-told.ensures.untold;
  left = c.tell_findings.ensures;
}
