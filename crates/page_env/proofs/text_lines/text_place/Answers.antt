use Rattle.page_env.proofs.text_lines.text_place.Goals as goal

pub returns : goal.returns
returns c = λ i. record c.args.page.now.cursor { y = c.in_ok-y.was i }
