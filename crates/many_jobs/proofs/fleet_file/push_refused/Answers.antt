use Rattle.std.proofs.Common.{◌∙◌, ◌++◌, ap, append_assoc, codes}
use Rattle.shown_bytes.specs.Shown.{shown}
use Rattle.many_jobs.proofs.fleet_file.push_refused.Goals as goal

pub returns : goal.returns
returns g c =
    let old = c.args.line.now.items in
    let front = codes "ERROR fleet " in
    let name = shown c.as_bytes.result.now in
    let words = c.args.words.now in
    c.in_ok-extend_from_slice-2.ensures.items
    ∙ ap (λ l. l ++ words) (c.in_ok-push_shown.ensures ∙ ap (λ l. l ++ name) c.in_ok-extend_from_slice.ensures.items)
    ∙ append_assoc (old ++ front) name words
    ∙ append_assoc old front (name ++ words)
    ∙ ap (λ w. old ++ (front ++ (shown w ++ words))) c.as_bytes.ensures.value
