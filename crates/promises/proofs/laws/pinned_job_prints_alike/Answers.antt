use Rattle.std.proofs.Common.{true, subst, sym}
use Rattle.device_profile.specs.Printer.{first_panel}
use Rattle.page_env.specs.FontInForce.{request_at}
use Rattle.page_env.specs.Settings.{unwatched, watched}
use Rattle.pcl_items.specs.Items.{entries}
use Rattle.pcl_lexer.specs.Reading.{IsReading}
use Rattle.page_machine.specs.Job.{plain_run, watched_run}
use Rattle.page_machine.specs.Pinning.{pinned_reading, moved_reading}
use Rattle.promises.proofs.PinnedReading.{text_is_spelled, pinned_is_read, all_entries}
use Rattle.promises.proofs.PinnedVerdicts.{same_verdict}
use Rattle.promises.proofs.SameRuns.{moved_entries}
use Rattle.promises.proofs.laws.pinned_job_prints_alike.Goals as goal

pub returns : goal.returns
returns c printer panel set job items place is all =
    let alike = c.pinned_jobs_print_alike.ensures printer panel set in
    let reading = pinned_reading printer panel (entries items) in
    let run = plain_run printer panel (moved_reading printer panel (entries items)) in
    record {
      read =
          subst (λ text. IsReading text reading) (sym (text_is_spelled panel (request_at printer.faces panel.font) true items all))
          (pinned_is_read printer panel set job items place is);
      moved = moved_entries panel (request_at printer.faces panel.font) 0 true (entries items);
      prints = λ none from. alike none unwatched from (entries items) (all_entries items all);
      verdict = λ none room.
          let same = alike none (watched printer) (first_panel printer) (entries items) (all_entries items all) room in
          (same.set, same_verdict reading run (watched_run printer (first_panel printer) reading) same);
    }
