-- Why a comparison reads a job again, and whether that is standard input.
use Rattle.std.specs.Prelude.{ℕ, Bool, ◌&&◌, ◌||◌, List, codes, length, nat_lt}
use Rattle.compare_command.specs.Compare.{Asked}
use Rattle.named_inputs.specs.FileJobs.{is_input}

abbrev pub read_for_each : List ℕ
read_for_each = codes "compare reads both jobs once for each printer\n"

-- standard input would be read more than once: for several printers, or as both jobs
abbrev pub reads_input_twice : Asked → Bool
reads_input_twice asked =
    (nat_lt 1 (length asked.printers) && (is_input asked.old_name || is_input asked.new_name))
    || (is_input asked.old_name && is_input asked.new_name)
