use Rattle.std.proofs.Common.{◌≡◌, None, Some, sym, ◌∙◌}
use Rattle.std.specs.Prelude.{nat_le}
use Rattle.std.proofs.lemmas.Bool.{cond-true, cond-false, le-leb, lt-leb}
use Rattle.pcl_items.specs.Escapes.Value.{most}
use Rattle.pcl_lexer.specs.Escapes.Field.{within_limit}
use Rattle.pcl_lexer.proofs.Escapes.FieldEnds.{IsShort, EndsAt, too_long, nothing_follows, follows}
use Rattle.pcl_lexer.proofs.pcl.field.any_field_end.Goals as goal

pub returns-then-field-gt-MOST_CHARACTERS-clause-end : goal.returns-then-field-gt-MOST_CHARACTERS-clause-end
returns-then-field-gt-MOST_CHARACTERS-clause-end c =
    too_long c.args.bytes.now _ c.longest_field-field.ensures.len c.if-field-gt-MOST_CHARACTERS.true

pub returns-in_default-clause-end : goal.returns-in_default-clause-end
returns-in_default-clause-end c =
    let f : IsShort c.args.bytes.now c.longest_field-field.result.len =
    record { len = c.longest_field-field.ensures.len; short = c.if-field-gt-MOST_CHARACTERS.false } in
    nothing_follows c.args.bytes.now _ f c.in_default.ensures.lookup.3

pub returns-then-field-gt-MOST_TEN_THOUSANDTHS-clause-end : goal.returns-then-field-gt-MOST_TEN_THOUSANDTHS-clause-end
returns-then-field-gt-MOST_TEN_THOUSANDTHS-clause-end c =
    let field = c.longest_field-field.result in
    let there = c.in-Some.ensures.lookup in
    let at : EndsAt c.args.bytes.now field.len c.in-Some.last.now = record {
      field = record { len = c.longest_field-field.ensures.len; short = c.if-field-gt-MOST_CHARACTERS.false };
      within = there.3.0;
      byte = there.1;
    } in
    let past : within_limit field.sign field.ten_thousandths ≡ None =
    cond-false (nat_le field.ten_thousandths most) _ _ (lt-leb field.ten_thousandths most c.if-field-gt-MOST_TEN_THOUSANDTHS.true) in
    follows c.args.bytes.now _ _ None at (sym past ∙ c.longest_field-field.ensures.number)

pub returns-clause-end : goal.returns-clause-end
returns-clause-end c =
    let field = c.longest_field-field.result in
    let there = c.in-Some.ensures.lookup in
    let at : EndsAt c.args.bytes.now field.len c.in-Some.last.now = record {
      field = record { len = c.longest_field-field.ensures.len; short = c.if-field-gt-MOST_CHARACTERS.false };
      within = there.3.0;
      byte = there.1;
    } in
    let within : within_limit field.sign field.ten_thousandths ≡ Some _ =
    cond-true (nat_le field.ten_thousandths most) _ _ (le-leb field.ten_thousandths most c.if-field-gt-MOST_TEN_THOUSANDTHS.false) in
    follows c.args.bytes.now _ _ (Some _) at (sym within ∙ c.longest_field-field.ensures.number)
