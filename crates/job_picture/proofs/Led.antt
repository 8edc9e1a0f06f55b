-- What the sink of an item took of its events, and drew.
use Rattle.std.proofs.Common.{◌≡◌, IsFalse, List, [], ◌∷◌, ◌++◌, refl, ap, sym, ◌∙◌, subst, append_assoc, append-nil}
use Rattle.device_profile.specs.declared.panel.Panel.{Panel}
use Rattle.page_machine.specs.Event.{Event, TakesAll}
use Rattle.page_machine.specs.Follows.{TakesUpTo, Refuses}
use Rattle.page_machine.specs.Machine.{TakesWhole}
use Rattle.page_machine.specs.Run.{Run, just, Ending}
use Rattle.renderings.specs.Carriers.PageRendering.{any_panel}
use Rattle.streams.specs.Writing.{Puts}
use Rattle.streams.specs.Outlet.{OutletState, AddsFront}
use Rattle.renderings.proofs.Renderings.{Puts-none, Puts-trans, Puts-front, Puts-cut-front}
use Rattle.job_picture.specs.declared.drawing.PictureText.{PictureText}
use Rattle.job_picture.specs.declared.progress.Progress.{Progress}
use Rattle.job_picture.specs.declared.sheet.Sheet.{Sheet}
use Rattle.job_picture.specs.Carriers.Drawing.{Draws, DrawsFront, LeadsTo, RefusesPart, TakesPart}
use Rattle.job_picture.specs.Progress.{progress_behind, progress_behind_all}
use Rattle.job_picture.specs.Sheet.{drawn_event, drawn_events}

pub drawn_events-append : (sheet : Sheet) (p : Progress) (es fs : List Event) →
    drawn_events sheet p (es ++ fs) ≡ drawn_events sheet p es ++ drawn_events sheet (progress_behind_all p es) fs
drawn_events-append sheet p [] fs = refl
drawn_events-append sheet p (e ∷ es) fs =
    ap (λ t. drawn_event sheet p e ++ t) (drawn_events-append sheet (progress_behind p e) es fs)
    ∙ sym (append_assoc (drawn_event sheet p e) (drawn_events sheet (progress_behind p e) es)
    (drawn_events sheet (progress_behind_all (progress_behind p e) es) fs))

module _ {W A : Type 0} (state : W → OutletState) where
  -- the picture of all of them was put
  pub record HasLed (old new : PictureText W A) (events : List Event) : Type 0 where
    pub same_outlet : new.outlet.ghost_name ≡ old.outlet.ghost_name
    pub same_kept : new.kept.ghost_name ≡ old.kept.ghost_name
    pub same_sheet : new.sheet ≡ old.sheet
    pub working : IsFalse (state new.outlet.now).failed
    pub puts : Puts (state old.outlet.now) (state new.outlet.now) old.kept.now.items new.kept.now.items
        (drawn_events old.sheet old.progress events)
    pub progress_is : new.progress ≡ progress_behind_all old.progress events

  pub led_all : (old new : PictureText W A) (events : List Event) → IsFalse (state old.outlet.now).failed →
      TakesAll (TakesPart state) old events new → HasLed old new events
  led_all old new [] working h =
      subst (λ s. HasLed old s []) (sym h)
      (record {
        same_outlet = refl;
        same_kept = refl;
        same_sheet = refl;
        working = working;
        puts = Puts-none (state old.outlet.now) old.kept.now.items;
        progress_is = refl;
      })
  led_all old new (e ∷ es) working h =
      let mid : PictureText W A = h.0 in
      let first = h.1.1 in
      let rest : HasLed mid new es = led_all mid new es first.working h.2 in
      let sheet_is : mid.sheet ≡ old.sheet = h.1.0.2 in
      record {
        same_outlet = rest.same_outlet ∙ h.1.0.0;
        same_kept = rest.same_kept ∙ h.1.0.1;
        same_sheet = rest.same_sheet ∙ sheet_is;
        working = rest.working;
        puts =
            Puts-trans (state old.outlet.now) (state mid.outlet.now)
            (state new.outlet.now) old.kept.now.items mid.kept.now.items new.kept.now.items
            (drawn_event old.sheet old.progress e) (drawn_events old.sheet (progress_behind old.progress e) es) first.puts
            (subst
            (λ p.
            Puts (state mid.outlet.now) (state new.outlet.now) mid.kept.now.items new.kept.now.items (drawn_events old.sheet p es))
            first.progress_is
            (subst
            (λ s.
            Puts (state mid.outlet.now) (state new.outlet.now) mid.kept.now.items new.kept.now.items (drawn_events s mid.progress es))
            sheet_is rest.puts));
        progress_is = rest.progress_is ∙ ap (λ p. progress_behind_all p es) first.progress_is;
      }

  -- and of one more a front was written
  pub led_to : (old mid : PictureText W A) (new : OutletState) (events : List Event) (event : Event) → HasLed old mid events →
      LeadsTo (state mid.outlet.now) new mid.kept.now.items mid.sheet mid.progress event
      → AddsFront (state old.outlet.now) new (old.kept.now.items ++ drawn_events old.sheet old.progress (events ++ event ∷ []))
  led_to old mid new events event led front =
      let behind : Progress = progress_behind_all old.progress events in
      let last : drawn_event mid.sheet mid.progress event ≡ drawn_events old.sheet behind (event ∷ []) =
      ap (λ s. drawn_event s mid.progress event) led.same_sheet
      ∙ (ap (λ p. drawn_event old.sheet p event) led.progress_is
      ∙ sym (append-nil (drawn_event old.sheet behind event))) in
      subst (λ t. AddsFront (state old.outlet.now) new (old.kept.now.items ++ t))
      (ap (λ t. drawn_events old.sheet old.progress events ++ t) last
      ∙ sym (drawn_events-append old.sheet old.progress events (event ∷ [])))
      (Puts-front (state old.outlet.now) (state mid.outlet.now) new old.kept.now.items mid.kept.now.items
      (drawn_events old.sheet old.progress events) (drawn_event mid.sheet mid.progress event) led.puts front)

  module _ (old new : PictureText W A) (run : Panel → Run) (working : IsFalse (state old.outlet.now).failed) where
    -- a run that ended so was drawn
    pub draws_all : (ending : Panel → Ending) → TakesUpTo (TakesPart state) old new run (λ panel. just [] (ending panel))
        → Draws old.sheet (run any_panel) (ending any_panel) (state old.outlet.now)
        (state new.outlet.now) old.kept.now.items new.kept.now.items old.progress new.progress
    draws_all ending took =
        let led = led_all old new took.events working took.leads in
        record {
          events = took.events;
          peaks = took.peaks any_panel;
          is = took.is any_panel;
          puts = led.puts;
          progress_is = led.progress_is;
        }

    -- memory was refused behind it
    pub draws_whole : TakesWhole (TakesPart state) old new run →
        DrawsFront old.sheet (run any_panel) (state old.outlet.now) (state new.outlet.now) old.kept.now.items old.progress
    draws_whole whole =
        let took = whole.1 in
        let led = led_all old new took.events working took.leads in
        record {
          events = took.events;
          others = [];
          is = ap (λ (r : Run). r.events) (took.is any_panel);
          front =
              Puts-cut-front (state old.outlet.now) (state new.outlet.now) old.kept.now.items new.kept.now.items
              (drawn_events old.sheet old.progress took.events) led.puts;
        }

    -- an event was refused
    pub draws_refused : Refuses (TakesPart state) (RefusesPart state) old new run →
        DrawsFront old.sheet (run any_panel) (state old.outlet.now) (state new.outlet.now) old.kept.now.items old.progress
    draws_refused refused =
        let took = refused.took in
        let led = led_all old refused.mid took.events working took.leads in
        record {
          events = took.events ++ refused.event ∷ [];
          others = (refused.rest any_panel).events;
          is =
              ap (λ (r : Run). r.events) (took.is any_panel)
              ∙ sym (append_assoc took.events (refused.event ∷ []) (refused.rest any_panel).events);
          front = led_to old refused.mid (state new.outlet.now) took.events refused.event led refused.refused.1;
        }
