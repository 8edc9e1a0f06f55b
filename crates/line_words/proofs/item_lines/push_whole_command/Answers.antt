use Rattle.std.proofs.Common.{rules, arith, ◌≤◌, drop, length, decimal}
use Rattle.std.proofs.lemmas.Fmt.{length-decimal-le}
use Rattle.std.proofs.lemmas.Grind.{common_steps}
use Rattle.pcl_items.specs.Escapes.ValueField.{sign_text}
use Rattle.pcl_items.specs.Items.{amount}
use Rattle.line_words.proofs.CommandLines.{sign_is_short, whole_line_is_pushed}
use Rattle.line_words.proofs.item_lines.push_whole_command.Goals as goal

pub write_digits-start-requires : goal.write_digits-start-requires
write_digits-start-requires g c = search (rules, length-decimal-le 5)

pub write_sign-start-requires : goal.write_sign-start-requires
write_sign-start-requires g c =
    let few : length (decimal c.from.result) ≤ 5 = search (rules, length-decimal-le 5) in
    grind (arith, common_steps)

pub write_before-start-requires : goal.write_before-start-requires
write_before-start-requires g c =
    let few : length (decimal c.from.result) ≤ 5 = search (rules, length-decimal-le 5) in
    let one : length (sign_text c.args.number.sign) ≤ 1 = sign_is_short c.args.number.sign in
    grind (arith, common_steps)

pub write_digits-start-requires-2 : goal.write_digits-start-requires-2
write_digits-start-requires-2 g c =
    let few : length (decimal c.from.result) ≤ 5 = search (rules, length-decimal-le 5) in
    let one : length (sign_text c.args.number.sign) ≤ 1 = sign_is_short c.args.number.sign in
    let place : length (decimal c.args.place) ≤ 20 = search (rules, length-decimal-le 20) in
    grind (arith, common_steps)

pub returns : goal.returns
returns g c =
    whole_line_is_pushed c.args.place c.args.command (amount c.args.number) c.args.text.now.items c.extend_from_slice.new.self.items
    (drop c.write_digits-start-2.result c.write_digits-start-2.new.buf) c.extend_from_slice.result c.args.number.within c.requires
    (grind (arith, common_steps))
    (grind (arith, common_steps))
