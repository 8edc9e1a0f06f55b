use Rattle.page_env.proofs.cursor_positioning.move_columns.Goals as goal

pub target-requires : goal.target-requires
target-requires g c = c.in-Some-times.ensures.small
