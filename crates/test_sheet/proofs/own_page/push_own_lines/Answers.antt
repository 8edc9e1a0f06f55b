use Rattle.std.proofs.Common.{◌∙◌, ◌++◌, append_assoc, codes, flat_map, sym}
use Rattle.test_sheet.specs.Commands.{form_feed}
use Rattle.test_sheet.specs.OwnPage.{numbered_line, numbers, own_line, own_lines, own_words}
use Rattle.test_sheet.proofs.Appending.{appended, at_last, told_as}
use Rattle.test_sheet.proofs.own_page.push_own_lines.Goals as goal

pub returns : goal.returns
unfolding own_lines
returns g c =
    let answer = c.extend_from_slice.result in
    let old = c.args.text.now.items in
    let new = c.extend_from_slice.new.self.items in
    let area = c.args.area in
    let face = c.args.face.now in
    let termination = c.args.termination in
    let words = own_words c.args.name.now area face termination in
    let line = own_line area face termination (codes "Ten lines:") in
    let lines = flat_map (numbered_line area face termination) numbers in
    told_as answer old new (words ++ (line ++ (lines ++ form_feed))) (words ++ line ++ lines ++ form_feed)
    (sym (append_assoc (words ++ line) lines form_feed ∙ append_assoc words line (lines ++ form_feed)))
    (appended answer old c.push_own_words.new.text.items new words (line ++ (lines ++ form_feed)) c.in_ok-push_own_words.ensures
    (appended answer c.push_own_words.new.text.items c.push_own_line.new.text.items new line (lines ++ form_feed)
    c.in_ok-push_own_line.ensures
    (appended answer c.push_own_line.new.text.items c.push_numbered_lines.new.text.items new lines form_feed
    c.in_ok-push_numbered_lines.ensures
    (at_last answer c.push_numbered_lines.new.text.items new form_feed c.extend_from_slice.ensures.items))))
