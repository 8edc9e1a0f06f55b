use Rattle.std.proofs.Common.{◌≡◌, Bool, List, Option, map, subst, ℕ}
use Rattle.std.specs.Prelude.{IsFalse, IsTrue}
use Rattle.streams.specs.Writing.{Writes}
use Rattle.command_names.specs.CommandNames.{table}
use Rattle.meanings.specs.CommandsTold.{is_code_unheard, told_of_code}
use Rattle.meanings.specs.Explanations.{complaint_of_code, end_of_explain}
use Rattle.meanings.specs.declared.explanations.TheConstants.{EXPLANATIONS}
use Rattle.meanings.proofs.explain.explain.Goals as goal

-- what is known of the code that is meant

abbrev unheard : Option (List ℕ) → Bool
unheard = is_code_unheard (map (λ text. text.now) EXPLANATIONS) table

abbrev text_of : Option (List ℕ) → List ℕ
text_of = told_of_code (map (λ text. text.now) EXPLANATIONS) table

pub returns-clause-text : goal.returns-clause-text
unfolding table
returns-clause-text g c =
    subst
    (λ code. IsFalse (unheard code) →
    Writes (g.O.Outlet.state c.args.stdout.now) (g.O.Outlet.state c.explain_of.new.stdout) (text_of code))
    c.code_of_word.ensures c.explain_of.ensures.text

pub returns-clause-untouched : goal.returns-clause-untouched
unfolding table
returns-clause-untouched g c =
    subst (λ code. IsTrue (unheard code) → c.explain_of.new.stdout ≡ c.args.stdout.now)
    c.code_of_word.ensures c.explain_of.ensures.untouched

pub returns-clause-status : goal.returns-clause-status
unfolding table
returns-clause-status g c =
    subst (λ code. c.explain_of.result ≡ end_of_explain (unheard code) (g.O.Outlet.state c.explain_of.new.stdout).failed)
    c.code_of_word.ensures c.explain_of.ensures.status

pub returns-clause-complaint : goal.returns-clause-complaint
unfolding table
returns-clause-complaint g c =
    subst
    (λ code. IsTrue (unheard code) →
    Writes (g.E.Outlet.state c.args.stderr.now) (g.E.Outlet.state c.explain_of.new.stderr) (complaint_of_code code))
    c.code_of_word.ensures c.explain_of.ensures.complaint

pub returns-clause-quiet : goal.returns-clause-quiet
unfolding table
returns-clause-quiet g c =
    subst (λ code. IsFalse (unheard code) → c.explain_of.new.stderr ≡ c.args.stderr.now)
    c.code_of_word.ensures c.explain_of.ensures.quiet
