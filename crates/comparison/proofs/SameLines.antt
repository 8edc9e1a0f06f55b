-- Lines of text that both jobs print at once.
use Rattle.std.proofs.Common.{◌≡◌, ℕ, suc, ◌+◌, ◌-◌, ◌*◌, ◌^◌, ◌<◌, ◌≤◌, true, false, List, [], ◌∷◌, ◌++◌, length, map, min, take}
use Rattle.std.proofs.Common.{Option, None, Some, refl, ap, sym, ◌∙◌, subst, append-nil, append_assoc, arith}
use Rattle.std.proofs.lemmas.List.{length-take-le, map-append, take-take}
use Rattle.pcl_items.specs.declared.item.Mode.TheVariants.{Pcl}
use Rattle.pcl_items.specs.Items.{Placed, at}
use Rattle.pcl_items.specs.Lines.{line_item, line_items}
use Rattle.pcl_items.specs.Modes.{follows}
use Rattle.pcl_lexer.specs.Lexing.Contexts.{pending}
use Rattle.pcl_lexer.specs.Lexing.Passing.{ReadsLines, ahead_of}
use Rattle.pcl_lexer.specs.Lexing.State.{LexerState}
use Rattle.pcl_lexer.specs.Modes.{mode_of}
use Rattle.pcl_lexer.specs.Reading.{Reading, left, with_item}
use Rattle.device_profile.specs.declared.panel.Panel.{Panel}
use Rattle.device_profile.specs.Printer.{Printer}
use Rattle.page_env.specs.declared.text_lines.TextAppearance.{TextAppearance}
use Rattle.page_env.specs.declared.text_lines.TextLines.{TextLines}
use Rattle.page_env.specs.declared.text_lines.TextPlace.{TextPlace}
use Rattle.page_env.specs.Mark.{Shape, characters_of}
use Rattle.page_env.specs.Settings.{state_at}
use Rattle.page_env.specs.TextLines.{behind, glyph_at, page_behind, page_behind_all}
use Rattle.page_env.specs.TextMeasure.{AreLinesFrom, TextMeasure}
use Rattle.page_env.proofs.TextRooms.{measured_lines_go}
use Rattle.page_machine.specs.Event.{Event, Marked}
use Rattle.page_machine.specs.Job.{plain_run}
use Rattle.page_machine.specs.Machine.{item_of}
use Rattle.page_machine.specs.MachineState.{MachineState}
use Rattle.page_machine.specs.Run.{peaks_of}
use Rattle.page_machine.specs.TextLines.{IsMeasuredAt, PrintsLines, glyph_events, machine_behind}
use Rattle.sinks.proofs.TextLines.{line_mode, lines_follow, shape_count, shapes_of}
use Rattle.sinks.specs.Counts.{capped, counted, counts_after}
use Rattle.streams.specs.Source.{SourceState}
use Rattle.comparison.specs.declared.difference.Difference.{Difference}
use Rattle.comparison.specs.declared.difference.Spot.{Spot}
use Rattle.comparison.specs.declared.stepping.Stepped.TheVariants.{On}
use Rattle.comparison.specs.Comparison.{Made, all_made, at_start, behind_event, failure_on, made_at}
use Rattle.comparison.specs.Comparing.{Following, FollowsOn, StepCompares, events_made, spot_behind, still_made}
use Rattle.comparison.specs.Running.{CarriedTo, Gave, HasRun, RunState, any_panel, is_open, last_step, rest_items, work}
use Rattle.comparison.specs.Running.{behind as behind_items}
use Rattle.comparison.specs.Texts.{FollowsLines, GoInBoth, GoNext, PassesLines, codes_ahead, text_events, text_made}
use Rattle.comparison.proofs.Carried.{item_carried}
use Rattle.comparison.proofs.Running.{stands_open, under_way}
use Rattle.comparison.proofs.SoFar.{level_came, spot_behind-append}
use Rattle.comparison.proofs.Steps.{behind_more}

-- ---- what is left to be read

-- bytes of it leave less
pub lines_less : (codes : List ℕ) (old new : LexerState) → ReadsLines old codes new → 1 ≤ length codes →
    left new.context new.rest < left old.context old.rest
lines_less codes old new passes some =
    omega (arith, passes.total, passes.place, ap pending passes.begins_in_pcl, ap pending passes.ends_in_pcl)

-- ---- items that were carried out, wherever they were read

-- they made this, and what is wrong on the printer of this number is behind them
pub record Makes (printer : Printer) (panel : Panel) (number : ℕ) (items : List Placed) (made : List Made) (machine : MachineState)
    : Type 0 where
  pub making : (rest : Reading) →
      all_made (plain_run printer panel (behind_items items rest)).items ≡ made ++ all_made (rest_items machine rest)
  pub failing : (rest : Reading) →
      failure_on number (plain_run printer panel (behind_items items rest)).items (behind_items items rest)
      ≡ failure_on number (rest_items machine rest) rest

module _ (printer : Printer) (panel : Panel) (number : ℕ) where
  makes_on : (items : List Placed) (made : List Made) (machine machine' : MachineState) (x : Placed) (events : List Event) →
      CarriedTo (On x.place) number x machine machine' events → Makes printer panel number items made machine →
      Makes printer panel number (items ++ x ∷ []) (made ++ made_at x.place events) machine'
  makes_on items made machine machine' x events carried h = record {
    making = λ rest.
        ap (λ r. all_made (plain_run printer panel r).items) (behind_more items x rest)
        ∙ (h.making (with_item x rest)
        ∙ (ap (λ more. made ++ more) (carried.3 rest)
        ∙ sym (append_assoc made (made_at x.place events) (all_made (rest_items machine' rest)))));
    failing = λ rest.
        ap (λ r. failure_on number (plain_run printer panel r).items r) (behind_more items x rest)
        ∙ (h.failing (with_item x rest) ∙ carried.4 rest);
  }

  byte_carried : (look : TextAppearance) (from : TextPlace) (place code : ℕ) (codes : List ℕ) (machine machine' : MachineState) →
      machine.mode ≡ Pcl → machine.stopped ≡ false → PrintsLines look from (code ∷ codes) machine machine' →
      CarriedTo (On place) number (at place (line_item code)) machine (machine_behind look from code machine)
      (glyph_events look from code)
  byte_carried look from place code codes machine machine' in_pcl running prints =
      let mid : MachineState = machine_behind look from code machine in
      let is :
      mid
      ≡ record machine {
        page = mid.page;
        macros = (item_of machine (line_item code)).macros;
        mode = (item_of machine (line_item code)).mode;
        stopped = false;
      } =
      λ i. record machine {
        page = page_behind look from code machine.page;
        macros = sym prints.1 i;
        mode = sym (line_mode machine.mode code in_pcl) i;
        stopped = running i;
      } in
      let admitted : follows machine.mode (line_item code) ≡ Some Pcl =
      subst (λ m. follows m (line_item code) ≡ Some Pcl) (sym in_pcl) (lines_follow code) in
      item_carried number machine (at place (line_item code)) mid (glyph_events look from code) (peaks_of (state_at any_panel mid.page)) Pcl
      is admitted (prints.0 any_panel)

  pub lines_make : (codes : List ℕ) (look : TextAppearance) (from : TextPlace) (place : ℕ) (items : List Placed) (made : List Made)
      (machine machine' : MachineState) → machine.mode ≡ Pcl → machine.stopped ≡ false →
      PrintsLines look from codes machine machine' → Makes printer panel number items made machine →
      Makes printer panel number (items ++ line_items place codes) (made ++ text_made look from place codes) machine'
  lines_make [] look from place items made machine machine' in_pcl running prints h =
      subst (Makes printer panel number (items ++ []) (made ++ [])) (sym prints)
      (subst (λ xs. Makes printer panel number xs (made ++ []) machine) (sym (append-nil items))
      (subst (λ ms. Makes printer panel number items ms machine) (sym (append-nil made)) h))
  lines_make (code ∷ codes) look from place items made machine machine' in_pcl running prints h =
      let x : Placed = at place (line_item code) in
      let next = behind look code from in
      let first = made_at place (glyph_events look from code) in
      let mid : MachineState = machine_behind look from code machine in
      let there =
      lines_make codes look next (place + 1) (items ++ x ∷ []) (made ++ first) mid machine' in_pcl running prints.2
      (makes_on items made machine mid x (glyph_events look from code)
      (byte_carried look from place code codes machine machine' in_pcl running prints) h) in
      subst (λ xs. Makes printer panel number xs (made ++ (first ++ text_made look next (place + 1) codes)) machine')
      (append_assoc items (x ∷ []) (line_items (place + 1) codes))
      (subst
      (λ ms. Makes printer panel number ((items ++ x ∷ []) ++ line_items (place + 1) codes) ms machine')
      (append_assoc made first (text_made look next (place + 1) codes)) there)

-- ---- a machine that printed lines

pub printed_is : (codes : List ℕ) (look : TextAppearance) (from : TextPlace) (machine machine' : MachineState) →
    PrintsLines look from codes machine machine' → machine' ≡ record machine { page = page_behind_all look from codes machine.page }
printed_is [] look from machine machine' prints = prints
printed_is (code ∷ codes) look from machine machine' prints =
    printed_is codes look (behind look code from) (machine_behind look from code machine) machine' prints.2

-- ---- a job that carried them out

less_left : (a b c d : ℕ) → b < c → a + b + d < a + c + d
less_left a b c d h = omega (arith, h)

module _ (old : RunState) (lexer : LexerState) (machine : MachineState) (events : List Event) (lines : TextLines)
    (look : TextAppearance) (from : TextPlace) (next : GoNext look from lines old)
    (reads : ReadsLines old.lexer (codes_ahead lines old) lexer)
    (prints : PrintsLines look from (codes_ahead lines old) old.machine machine) (running : is_open old.progress ≡ true)
    (not_stopped : old.machine.stopped ≡ false) (mode : old.machine.mode ≡ mode_of old.lexer.context) where
  abbrev pub passed_run : RunState
  passed_run = record {
    lexer = lexer;
    machine = machine;
    events = events;
    place = old.place;
    total = old.total;
    reads = old.reads;
    number = old.number;
    progress = old.progress;
  }

  in_pcl : old.machine.mode ≡ Pcl
  in_pcl = mode ∙ ap mode_of reads.begins_in_pcl

  pub lines_run : (printer : Printer) (panel : Panel) (first now : SourceState) (made : List Made) →
      HasRun printer panel first now made old →
      HasRun printer panel first now (made ++ text_made look from old.lexer.place (codes_ahead lines old)) passed_run
  lines_run printer panel first now made h =
      let codes = codes_ahead lines old in
      let made' = made ++ text_made look from old.lexer.place codes in
      let here = under_way old.progress printer panel h.bytes made old running h.stands in
      let there =
      lines_make printer panel old.number codes look from old.lexer.place here.items made old.machine machine in_pcl not_stopped prints
      (record { making = here.making; failing = here.failing }) in
      record {
        bytes = h.bytes;
        gave = subst (λ e. Gave first now e h.bytes) (sym reads.ended) h.gave;
        total_is = h.total_is;
        stands =
            stands_open old.progress printer panel h.bytes made' passed_run running
            (record {
              items = here.items ++ line_items old.lexer.place codes;
              reads = reads.reads h.bytes here.items here.reads;
              making = there.making;
              failing = there.failing;
            });
      }

  pub lines_take_work : work passed_run < work old
  lines_take_work =
      let count : length (codes_ahead lines old) ≡ lines.count = length-take-le lines.count (ahead_of old.lexer) next.ahead in
      let less : left lexer.context lexer.rest < left old.lexer.context old.lexer.rest =
      lines_less (codes_ahead lines old) old.lexer lexer reads (omega (arith, count, next.some)) in
      less_left (last_step old.progress) (left lexer.context lexer.rest) (left old.lexer.context old.lexer.rest)
      (8194 * (2 ^ 40 - old.reads)) less

  -- it may take a step
  pub lines_ready : (old.lexer.place + length old.lexer.rest ≡ old.total) → (old.total ≤ 4096 * old.reads) → (old.reads ≤ 2 ^ 40) →
      (machine.stopped ≡ false) × (machine.mode ≡ mode_of lexer.context) × (lexer.place + length lexer.rest ≡ old.total)
      × (old.total ≤ 4096 * old.reads) × (old.reads ≤ 2 ^ 40)
  lines_ready placed small few =
      let is = printed_is (codes_ahead lines old) look from old.machine machine prints in (
        ap (λ (m : MachineState). m.stopped) is ∙ not_stopped,
        ap (λ (m : MachineState). m.mode) is ∙ (in_pcl ∙ sym (ap mode_of reads.ends_in_pcl)),
        reads.total ∙ placed,
        small,
        few,
      )

-- so did the one that follows
pub lines_followed : (lines : TextLines) (run run' : RunState) (taken : ℕ) (old : Following) → record { run = run; taken = taken } ≡ old →
    still_made old ≡ [] → PassesLines lines run run' → run'.events ≡ [] → FollowsLines lines old (record { run = run'; taken = 0 })
lines_followed lines run run' taken old is level passes none look from next printer panel first now made h =
    let before : HasRun printer panel first now made run =
    subst (λ (f : Following). HasRun printer panel first now made f.run) (sym is)
    (subst (λ m. HasRun printer panel first now m old.run) (ap (λ l. made ++ l) level ∙ append-nil made) h.has_run) in
    let text = text_made look from old.run.lexer.place (codes_ahead lines old.run) in
    let after : HasRun printer panel first now (made ++ text) run' =
    subst
    (λ (f : Following). HasRun printer panel first now (made ++ text_made look from f.run.lexer.place (codes_ahead lines f.run)) run') is
    (passes look from (subst (λ (f : Following). GoNext look from lines f.run) (sym is) next) printer panel first now made before) in
    record {
      has_run =
          subst (λ m. HasRun printer panel first now m run')
          (sym (ap (λ es. (made ++ text) ++ made_at run'.place es) none ∙ append-nil (made ++ text))) after;
    }

-- ---- the events of both

events_of_glyph : (place : ℕ) (events : List Event) (more : List Made) →
    events_made (made_at place events ++ more) ≡ events ++ events_made more
events_of_glyph place [] more = refl
events_of_glyph place (event ∷ events) more = ap (λ l. event ∷ l) (events_of_glyph place events more)

pub events_of_text : (codes : List ℕ) (look : TextAppearance) (from : TextPlace) (place : ℕ) →
    events_made (text_made look from place codes) ≡ text_events look from codes
events_of_text [] look from place = refl
events_of_text (code ∷ codes) look from place =
    events_of_glyph place (glyph_events look from code) (text_made look (behind look code from) (place + 1) codes)
    ∙ ap (λ l. glyph_events look from code ++ l) (events_of_text codes look (behind look code from) (place + 1))

pub marks_of_text : (codes : List ℕ) (look : TextAppearance) (from : TextPlace) →
    map Marked (shapes_of look from codes) ≡ text_events look from codes
marks_of_text [] look from = refl
marks_of_text (code ∷ codes) look from =
    map-append Marked (characters_of (glyph_at look from code)) (shapes_of look (behind look code from) codes)
    ∙ ap (λ l. glyph_events look from code ++ l) (marks_of_text codes look (behind look code from))

-- where marks that are counted at once lead
pub spot_marked : (shapes : List Shape) (spot : Spot) → spot.on_page < 2 ^ 64 →
    spot_behind (map Marked shapes) spot
    ≡ record { counts = counts_after (map Marked shapes) spot.counts; on_page = capped (spot.on_page + length shapes) }
spot_marked [] spot small =
    let same : spot.on_page ≡ min (spot.on_page + 0) (2 ^ 64 - 1) = omega (arith, small) in
    λ i. record { counts = spot.counts; on_page = same i }
spot_marked (shape ∷ shapes) spot small =
    let next : Spot = behind_event (Marked shape) spot in
    let fits : next.on_page < 2 ^ 64 = omega arith in
    let sum :
    min (min (spot.on_page + 1) (2 ^ 64 - 1) + length shapes) (2 ^ 64 - 1) ≡ min (spot.on_page + suc (length shapes)) (2 ^ 64 - 1) =
    omega arith in
    spot_marked shapes next fits
    ∙ (λ i. record { counts = counts_after (map Marked shapes) (counted (Marked shape) spot.counts); on_page = sum i })

-- ---- both

module _ (lines : TextLines) (old old' : RunState) (new new' : Following) (spot spot' : Spot) (both : GoInBoth lines old new)
    (old_passes : PassesLines lines old old') (new_passes : FollowsLines lines new new')
    (counted_are : (shapes : List Shape) → length shapes ≡ lines.glyphs → spot' ≡ spot_behind (map Marked shapes) spot) where
  spot_is : spot' ≡ spot_behind (text_events both.look both.from (codes_ahead lines old)) spot
  spot_is =
      counted_are (shapes_of both.look both.from (codes_ahead lines old))
      (shape_count (codes_ahead lines old) both.look both.from ∙ sym both.old_next.go.glyphs)
      ∙ ap (λ es. spot_behind es spot) (marks_of_text (codes_ahead lines old) both.look both.from)

  pub lines_compare : (old_now new_now : SourceState) → StepCompares old_now old_now new_now new_now old old' spot spot' new new' None
  lines_compare old_now new_now printer panel old_first new_first alike =
      let look = both.look in
      let from = both.from in
      let codes = codes_ahead lines old in
      let old_text = text_made look from old.lexer.place codes in
      let new_text = text_made look from new.run.lexer.place (codes_ahead lines new.run) in
      let old_events : events_made old_text ≡ text_events look from codes = events_of_text codes look from old.lexer.place in
      let new_events : events_made new_text ≡ text_events look from codes =
      events_of_text (codes_ahead lines new.run) look from new.run.lexer.place
      ∙ ap (text_events look from) (sym both.same) in
      record {
        old_made = alike.old_made ++ old_text;
        old_run = old_passes look from both.old_next printer panel old_first old_now alike.old_made alike.old_run;
        level = record {
          new_taken = alike.level.new_taken ++ new_text;
          followed = new_passes look from both.new_next printer panel new_first new_now alike.level.new_taken alike.level.followed;
          same =
              map-append (λ (m : Made). m.event) alike.old_made old_text
              ∙ ((λ i. alike.level.same i ++ (old_events ∙ sym new_events) i)
              ∙ sym (map-append (λ (m : Made). m.event) alike.level.new_taken new_text));
          spot_is =
              spot_is
              ∙ (ap (spot_behind (text_events look from codes)) alike.level.spot_is
              ∙ (sym (spot_behind-append (events_made alike.old_made) (text_events look from codes) at_start)
              ∙ ap (λ es. spot_behind es at_start)
              (ap (λ l. events_made alike.old_made ++ l) (sym old_events)
              ∙ sym (map-append (λ (m : Made). m.event) alike.old_made old_text))));
        };
      }

-- ---- the first bytes of both

pub front_is_same : (k n : ℕ) (xs ys : List ℕ) → k ≤ n → take n xs ≡ take n ys → take k xs ≡ take k ys
front_is_same k n xs ys few e = sym (take-take k n xs few) ∙ (ap (take k) e ∙ take-take k n ys few)

pub go_next : (run : RunState) (m : TextMeasure) (from at_place : TextPlace) (bytes : List ℕ) (lines : TextLines) →
    IsMeasuredAt run.machine m at_place → at_place ≡ from → bytes ≡ ahead_of run.lexer → 1 ≤ lines.count →
    AreLinesFrom m from bytes lines → GoNext m.look from lines run
go_next run m from at_place bytes lines measured there ahead some are =
    let here : IsMeasuredAt run.machine m from = subst (IsMeasuredAt run.machine m) there measured in
    let lines_are : AreLinesFrom m from (ahead_of run.lexer) lines = subst (λ l. AreLinesFrom m from l lines) ahead are in
    record {
      some = some;
      ahead = lines_are.short;
      no_definition = here.no_definition;
      go = measured_lines_go run.machine.printer m run.machine.page from (ahead_of run.lexer) lines here.measure here.stands lines_are;
    }

-- ---- behind what NEW went on by

pub step_behind : (old_now old_now' new_now new_mid new_now' : SourceState) (old old' : RunState) (spot spot' : Spot)
    (new mid new' : Following) → FollowsOn new_now new_mid new mid → (found : Option Difference) →
    StepCompares old_now old_now' new_mid new_now' old old' spot spot' mid new' found →
    StepCompares old_now old_now' new_now new_now' old old' spot spot' new new' found
step_behind old_now old_now' new_now new_mid new_now' old old' spot spot' new mid new' goes found compares printer panel old_first new_first
    alike =
    compares printer panel old_first new_first
    (record {
      old_made = alike.old_made;
      old_run = alike.old_run;
      level = level_came printer panel new_first new_now new_mid spot alike.old_made new mid goes alike.level;
    })
