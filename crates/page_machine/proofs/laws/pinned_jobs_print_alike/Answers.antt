use Rattle.std.proofs.Common.{refl}
use Rattle.page_env.specs.Settings.{unwatched, user_defaults}
use Rattle.page_env.specs.FontInForce.{request_at}
use Rattle.page_machine.proofs.PinnedBodies.{AreLaws}
use Rattle.page_machine.proofs.PinnedSettings.{can_be_sent, tray_is_some}
use Rattle.page_machine.proofs.PinnedWhole.{unlimited_alike}
use Rattle.page_machine.specs.Pinning.{place_behind, pinned_entries}
use Rattle.page_machine.proofs.laws.pinned_jobs_print_alike.Goals as goal

pub returns : goal.returns
returns c printer panel set none flags from items all =
    let pinned = c.items_go_pinned.ensures in
    let bare = c.items_stay_bare.ensures in
    let sound = c.items_are_sound.ensures in
    let defaults = user_defaults unwatched panel in
    let others = user_defaults flags from in
    let laws : AreLaws printer defaults others = record {
      sound_items = sound.items printer defaults;
      sound_controls = sound.controls printer;
      sound_bytes = sound.bytes printer;
      sound_moves = sound.moves printer;
      items = λ item. pinned.items printer defaults others item;
      controls = pinned.controls printer others;
      bytes = pinned.bytes printer others;
      moves = pinned.moves printer others;
      bare_items = bare.items printer;
      bare_controls = bare.controls;
      bare_bytes = bare.bytes printer;
      bare_moves = bare.moves printer;
    } in
    unlimited_alike printer flags from panel laws (request_at printer.faces panel.font) (can_be_sent printer panel set) refl
    (tray_is_some printer panel set) items (place_behind 0 (pinned_entries printer panel items)) none all
