use Rattle.page_env.proofs.text_lines.text_measure.Goals as goal

pub returns : goal.returns
returns g c = (c.in_ok-measure.ensures, c.in_ok-place.ensures)
