use Rattle.std.proofs.Common.{sym, ◌∙◌}
use Rattle.pcl_spelling.proofs.PjlLines.Spellings.{begins_pjl, begins_other, match_map, stands_in_pjl, nothing_in_pjl}
use Rattle.pcl_spelling.proofs.spelling.first_in_pjl.Goals as goal

pub first_spelled_pjl-requires : goal.first_spelled_pjl-requires
first_spelled_pjl-requires c = begins_pjl c.args.bytes.now (sym c.begins_pjl.ensures ∙ c.if-begins_pjl.true)

pub returns-else-begins_pjl : goal.returns-else-begins_pjl
returns-else-begins_pjl c =
    let other = begins_other c.args.bytes.now (sym c.begins_pjl.ensures ∙ c.if-begins_pjl.false) in
    match_map c.first_item.result (nothing_in_pjl c.args.bytes.now other)
    (λ found s. stands_in_pjl c.args.bytes.now _ _ _ other s) c.first_item.ensures
