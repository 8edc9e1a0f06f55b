-- What stands first where a line begins, as the code has it.
use Rattle.std.specs.Prelude.{ℕ}
use Rattle.pcl_lexer.specs.declared.pjl.first.FirstPjl as code_first
use Rattle.pcl_lexer.specs.declared.pjl.first.FirstPjl.TheVariants as firsts
use Rattle.pcl_items.specs.PjlLines.First.{FirstPjl, Open, Begins, Faulty}
use Rattle.pcl_items.specs.PjlLines.View.{pjl_view}

abbrev pub first_pjl_view : code_first.FirstPjl → FirstPjl
first_pjl_view firsts.Open = Open
first_pjl_view (firsts.Begins spelled len) = Begins (pjl_view spelled.command) len
first_pjl_view (firsts.Faulty cause) = Faulty cause

abbrev pub first_pjl_len : code_first.FirstPjl → ℕ
first_pjl_len firsts.Open = 0
first_pjl_len (firsts.Begins spelled len) = len
first_pjl_len (firsts.Faulty cause) = 0
