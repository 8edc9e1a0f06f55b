use Rattle.std.proofs.Common.{◌≡◌, ◌∙◌, ◌++◌, ℕ, List, [], ap, codes}
use Rattle.job_pdf.specs.Telling.{told_whole, what_prints}
use Rattle.job_reports.specs.JobSentences.{named_first}
use Rattle.job_pdf.proofs.telling.told_whole.Goals as goal

-- five texts, one behind another
five_built : (nothing one two three four five a b c d e : List ℕ) → nothing ≡ [] → one ≡ nothing ++ a → two ≡ one ++ b →
    three ≡ two ++ c → four ≡ three ++ d → five ≡ four ++ e → five ≡ (((a ++ b) ++ c) ++ d) ++ e
five_built nothing one two three four five a b c d e none first second third fourth fifth =
    fifth
    ∙ ap (λ (l : List ℕ). l ++ e)
    (fourth ∙ ap (λ (l : List ℕ). l ++ d)
    (third ∙ ap (λ (l : List ℕ). l ++ c)
    (second ∙ ap (λ (l : List ℕ). l ++ b) (first ∙ ap (λ (l : List ℕ). l ++ a) none))))

pub returns : goal.returns
unfolding told_whole
returns g c =
    let name = c.first_name.result.now in
    let prints = what_prints c.args.wanted.now.selection.pages in
    let job = named_first c.args.wanted.now.job.now in
    five_built c.new-told.result.items c.push_named_first.new.line.items c.extend_from_slice.new.self.items
    c.extend_from_slice-2.new.self.items c.push_what_prints.new.text.items c.extend_from_slice-3.new.self.items
    job name (codes " prints ") prints (codes " from this panel") c.new-told.ensures.items
    c.in_ok-push_named_first.ensures c.in_ok-extend_from_slice.ensures.items c.in_ok-extend_from_slice-2.ensures.items
    c.in_ok-push_what_prints.ensures c.in_ok-extend_from_slice-3.ensures.items
    ∙ ap (λ (l : List ℕ). (((job ++ l) ++ codes " prints ") ++ prints) ++ codes " from this panel") c.first_name.ensures
