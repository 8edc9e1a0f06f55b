use Rattle.std.proofs.Common.{◌++◌, ap, sym}
use Rattle.profile_lint.specs.FaultLines.{fault_words}
use Rattle.profile_lint.proofs.Pushed.{last_is_pushed}
use Rattle.profile_lint.proofs.fault_line.push_fault_words.Goals as goal

pub returns-in-NoPageOfSize : goal.returns-in-NoPageOfSize
unfolding fault_words
returns-in-NoPageOfSize g c =
    last_is_pushed c.push_number_in.result c.push_number_in.new.out.items _ _
    (ap (λ fault. c.args.out.now.items ++ fault_words c.args.text.now fault) (sym c.in-NoPageOfSize.is)) c.push_number_in.ensures

pub returns-in-NoPageInOrientation : goal.returns-in-NoPageInOrientation
unfolding fault_words
returns-in-NoPageInOrientation g c =
    last_is_pushed c.push_number_in-in-NoPageInOrientation.result c.push_number_in-in-NoPageInOrientation.new.out.items _ _
    (ap (λ fault. c.args.out.now.items ++ fault_words c.args.text.now fault) (sym c.in-NoPageInOrientation.is))
    c.push_number_in-in-NoPageInOrientation.ensures

pub returns-in-NoPair : goal.returns-in-NoPair
unfolding fault_words
returns-in-NoPair g c =
    last_is_pushed c.push_numbers_in.result c.push_numbers_in.new.out.items _ _
    (ap (λ fault. c.args.out.now.items ++ fault_words c.args.text.now fault) (sym c.in-NoPair.is)) c.push_numbers_in.ensures

pub returns-in-NoFace : goal.returns-in-NoFace
unfolding fault_words
returns-in-NoFace g c =
    last_is_pushed c.push_number_in-in-NoFace.result c.push_number_in-in-NoFace.new.out.items _ _
    (ap (λ fault. c.args.out.now.items ++ fault_words c.args.text.now fault) (sym c.in-NoFace.is)) c.push_number_in-in-NoFace.ensures

pub returns-in-NoTray : goal.returns-in-NoTray
unfolding fault_words
returns-in-NoTray g c =
    last_is_pushed c.push_number_in-in-NoTray.result c.push_number_in-in-NoTray.new.out.items _ _
    (ap (λ fault. c.args.out.now.items ++ fault_words c.args.text.now fault) (sym c.in-NoTray.is)) c.push_number_in-in-NoTray.ensures

pub returns-in-NoSides : goal.returns-in-NoSides
unfolding fault_words
returns-in-NoSides g c =
    last_is_pushed c.push_number_in-in-NoSides.result c.push_number_in-in-NoSides.new.out.items _ _
    (ap (λ fault. c.args.out.now.items ++ fault_words c.args.text.now fault) (sym c.in-NoSides.is)) c.push_number_in-in-NoSides.ensures
