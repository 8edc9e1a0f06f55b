use Rattle.std.proofs.Common.{◌∷◌, ◌++◌, append_assoc, codes, sym}
use Rattle.shown_bytes.specs.Lettered.{lettered}
use Rattle.test_sheet.specs.Commands.{font_look, font_request, font_size}
use Rattle.test_sheet.proofs.Appending.{appended, told_as}
use Rattle.test_sheet.proofs.commands.push_font_request.Goals as goal

pub returns : goal.returns
unfolding font_request
returns g c =
    let answer = c.push_font_look.result in
    let old = c.args.text.now.items in
    let new = c.push_font_look.new.text.items in
    let request = c.args.request.now in
    let set = 27 ∷ codes "(" ++ lettered request.symbol_set.number request.symbol_set.letter in
    let size = font_size request in
    let look = font_look request in
    told_as answer old new (set ++ (size ++ look)) (set ++ size ++ look) (sym (append_assoc set size look))
    (appended answer old c.push_parts.new.text.items new set (size ++ look) c.in_ok-push_parts.ensures
    (appended answer c.push_parts.new.text.items c.push_font_size.new.text.items new size look c.in_ok-push_font_size.ensures
    c.push_font_look.ensures))
