-- HP-GL/2 frames: the picture frame (`*c#T`, `*c#X`, `*c#Y`), and where it is entered and left (`%#B`, `%#A`).
use Rattle.std.specs.Prelude.{ℤ, pos, true, false, not, ◌&&◌, Bool, cond, ◌+ℤ◌, ◌-ℤ◌, Some, unwrap_or, [], ◌∷◌}
use Rattle.pcl_items.specs.declared.frame.Handover.{Handover}
use Rattle.pcl_items.specs.declared.frame.Handover.TheVariants.{Previous, Current}
use Rattle.pcl_items.specs.Escapes.Value.{Amount}
use Rattle.device_profile.specs.declared.field.Field.TheVariants.{Size, Orientation}
use Rattle.device_profile.specs.declared.geometry.Geometry.{Geometry}
use Rattle.device_profile.specs.Printer.{Printer}
use Rattle.page_env.specs.declared.finding.Finding.TheVariants.{BadValue, OffPage}
use Rattle.page_env.specs.declared.frames.Frame.{Frame}
use Rattle.page_env.specs.declared.page.JobSettings.{JobSettings}
use Rattle.page_env.specs.declared.page.PenPlace.{PenPlace}
use Rattle.page_env.specs.declared.page.PictureFrame.{PictureFrame}
use Rattle.page_env.specs.Settings.{State, half_inch, origin, with_job}
use Rattle.page_env.specs.Numbers.{is_positive, is_whole_between}
use Rattle.page_env.specs.Places.{decipoint_ticks, page_reads, geometry_of, vertical_place, vertical_reads, is_between}
use Rattle.page_env.specs.Effect.{check, TableLine, moving, setting}

-- ---- the picture frame

-- from the default top margin to the default bottom margin, each half an inch from an edge of the logical page
abbrev pub default_height : Geometry → ℤ
default_height g = (g.logical_height -ℤ half_inch) -ℤ half_inch

-- where a picture frame lies on a page: it is as wide as the logical page unless its width is set
abbrev pub frame_on : Geometry → PictureFrame → Frame
frame_on g frame = record {
  left = frame.left;
  top = frame.top;
  width = unwrap_or frame.width g.logical_width;
  height = unwrap_or frame.height (default_height g);
}

abbrev pub frame_of : Printer → State → Frame
frame_of printer s = frame_on (geometry_of printer s) s.settings.job.frame

-- with another picture frame the pen is at its origin
abbrev pub framed : JobSettings → PictureFrame → JobSettings
framed job frame = record job { frame = frame; pen = record job.pen { place = origin } }

abbrev pub with_frame : State → PictureFrame → State
with_frame s frame = with_job s (framed s.settings.job frame)

-- `*c0T` picture frame anchor point:
-- the upper left corner of the frame is at the cursor, a home of which becomes a number
abbrev pub set_frame_anchor : State → Amount → TableLine
set_frame_anchor s n =
    let y = vertical_place s in
    record {
      checks_before = check (not (is_whole_between 0 0 n)) BadValue ∷ [];
      reads = vertical_reads s.cursor.y;
      checks_after = [];
      state = record (with_frame s (record s.settings.job.frame { left = s.cursor.x; top = y })) {
        cursor = record s.cursor { y = Some y };
      };
      marks = [];
    }

-- `*c#X` picture frame horizontal size in decipoints
abbrev pub set_frame_width : State → Amount → TableLine
set_frame_width s n =
    setting (check (not (is_positive n)) BadValue ∷ [])
    (with_frame s (record s.settings.job.frame { width = Some (pos (decipoint_ticks n)) }))

-- `*c#Y` picture frame vertical size in decipoints
abbrev pub set_frame_height : State → Amount → TableLine
set_frame_height s n =
    setting (check (not (is_positive n)) BadValue ∷ [])
    (with_frame s (record s.settings.job.frame { height = Some (pos (decipoint_ticks n)) }))

-- ---- places in a frame

-- The origin is the lower left corner of the frame, and y grows upwards.
-- a place of the logical page, as the pen sees it
abbrev pub place_in : Frame → (x y : ℤ) → PenPlace
place_in frame x y = record { x = x -ℤ frame.left; y = (frame.top +ℤ frame.height) -ℤ y }

-- where a place of the pen lies on the logical page
abbrev pub x_on_page : Frame → ℤ → ℤ
x_on_page frame x = frame.left +ℤ x

abbrev pub y_on_page : Frame → ℤ → ℤ
y_on_page frame y = (frame.top +ℤ frame.height) -ℤ y

-- within the frame, edges allowed
abbrev pub is_in_frame : Frame → PenPlace → Bool
is_in_frame frame place = is_between (pos 0) frame.width place.x && is_between (pos 0) frame.height place.y

-- on the logical page, edges allowed
abbrev pub is_on_page : Geometry → (x y : ℤ) → Bool
is_on_page g x y = is_between (pos 0) g.logical_width x && is_between (pos 0) g.logical_height y

-- ---- the change of language

-- `%0B` enter HP-GL/2 mode, with the pen where it was
abbrev pub enter_at_pen : State → TableLine
enter_at_pen s = moving (record s { in_frame = true })

-- `%1B` enter HP-GL/2 mode, with the pen at the cursor, a home of which becomes a number
abbrev pub enter_at_cursor : Printer → State → TableLine
enter_at_cursor printer s =
    let y = vertical_place s in
    let job : JobSettings = s.settings.job in
    record {
      checks_before = [];
      reads = Size ∷ Orientation ∷ vertical_reads s.cursor.y;
      checks_after = [];
      state = record
          (with_job s (record job { pen = record job.pen { place = place_in (frame_of printer s) s.cursor.x y } })) {
            cursor = record s.cursor { y = Some y };
            in_frame = true;
          };
      marks = [];
    }

-- `%#B` enter HP-GL/2 mode
abbrev pub enter_frame : Printer → State → Handover → TableLine
enter_frame printer s Previous = enter_at_pen s
enter_frame printer s Current = enter_at_cursor printer s

-- `%0A` enter PCL mode, with the cursor where it was
abbrev pub leave_at_cursor : State → TableLine
leave_at_cursor s = moving (record s { in_frame = false })

-- `%1A` enter PCL mode, with the cursor where the pen is
abbrev pub leave_at_pen : Printer → State → TableLine
leave_at_pen printer s =
    let g = geometry_of printer s in
    let x = x_on_page (frame_of printer s) s.settings.job.pen.place.x in
    let y = y_on_page (frame_of printer s) s.settings.job.pen.place.y in
    record {
      checks_before = [];
      reads = page_reads;
      checks_after = check (not (is_on_page g x y)) OffPage ∷ [];
      state = record s { cursor = record { x = x; y = Some y }; in_frame = false };
      marks = [];
    }

-- `%#A` enter PCL mode: outside a frame it does nothing
abbrev pub leave_frame : Printer → State → Handover → TableLine
leave_frame printer s Previous = leave_at_cursor s
leave_frame printer s Current = cond s.in_frame (leave_at_pen printer s) (moving s)
