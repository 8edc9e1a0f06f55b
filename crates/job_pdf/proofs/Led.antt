-- What the sink of an item took of its events, and wrote.
use Rattle.std.proofs.Common.{◌≡◌, IsFalse, List, [], ◌∷◌, ◌++◌, refl, ap, sym, ◌∙◌, subst, append_assoc, append-nil}
use Rattle.device_profile.specs.declared.panel.Panel.{Panel}
use Rattle.page_machine.specs.Event.{Event, TakesAll}
use Rattle.page_machine.specs.Follows.{TakesUpTo, Refuses}
use Rattle.page_machine.specs.Machine.{TakesWhole}
use Rattle.page_machine.specs.Run.{Run, just, Ending}
use Rattle.page_pdf.specs.Document.{Pdf}
use Rattle.renderings.specs.Carriers.PageRendering.{any_panel}
use Rattle.streams.specs.Writing.{Puts}
use Rattle.streams.specs.Outlet.{OutletState, AddsFront}
use Rattle.renderings.proofs.Renderings.{Puts-none, Puts-trans, Puts-front, Puts-cut-front}
use Rattle.job_pdf.specs.declared.drawing.DocumentText.{DocumentText}
use Rattle.job_pdf.specs.declared.sheet.Sheet.{Sheet}
use Rattle.job_pdf.specs.Carriers.Drawing.{Draws, DrawsFront, LeadsTo, RefusesPart, TakesPart}
use Rattle.job_pdf.specs.Sheet.{drawn_event, drawn_events, pdf_behind, pdf_behind_all}

pub drawn_events-append : (sheet : Sheet) (pdf : Pdf) (es fs : List Event) →
    drawn_events sheet pdf (es ++ fs) ≡ drawn_events sheet pdf es ++ drawn_events sheet (pdf_behind_all sheet pdf es) fs
drawn_events-append sheet pdf [] fs = refl
drawn_events-append sheet pdf (e ∷ es) fs =
    ap (λ t. drawn_event sheet pdf e ++ t) (drawn_events-append sheet (pdf_behind sheet pdf e) es fs)
    ∙ sym (append_assoc (drawn_event sheet pdf e) (drawn_events sheet (pdf_behind sheet pdf e) es)
    (drawn_events sheet (pdf_behind_all sheet (pdf_behind sheet pdf e) es) fs))

-- three places by their names
pub same_three : {W K D : Type 0} (P : W → K → D → Type 0) (outlet outlet' : W) (kept kept' : K) (document document' : D)
    → outlet ≡ outlet' → kept ≡ kept' → document ≡ document' → P outlet kept document → P outlet' kept' document'
same_three P outlet outlet' kept kept' document document' e f h p =
    subst (λ o. P o kept' document') e (subst (λ k. P outlet k document') f (subst (λ d. P outlet kept d) h p))

module _ {W A B : Type 0} (state : W → OutletState) where
  -- what all of them write was put
  pub record HasLed (old new : DocumentText W A B) (events : List Event) : Type 0 where
    pub same_outlet : new.outlet.ghost_name ≡ old.outlet.ghost_name
    pub same_kept : new.kept.ghost_name ≡ old.kept.ghost_name
    pub same_document : new.document.ghost_name ≡ old.document.ghost_name
    pub same_sheet : new.sheet ≡ old.sheet
    pub working : IsFalse (state new.outlet.now).failed
    pub puts : Puts (state old.outlet.now) (state new.outlet.now) old.kept.now.items new.kept.now.items
        (drawn_events old.sheet old.document.now events)
    pub pdf_is : new.document.now ≡ pdf_behind_all old.sheet old.document.now events

  pub led_all : (old new : DocumentText W A B) (events : List Event) → IsFalse (state old.outlet.now).failed →
      TakesAll (TakesPart state) old events new → HasLed old new events
  led_all old new [] working h =
      subst (λ s. HasLed old s []) (sym h)
      (record {
        same_outlet = refl;
        same_kept = refl;
        same_document = refl;
        same_sheet = refl;
        working = working;
        puts = Puts-none (state old.outlet.now) old.kept.now.items;
        pdf_is = refl;
      })
  led_all old new (e ∷ es) working h =
      let mid : DocumentText W A B = h.0 in
      let first = h.1.1 in
      let rest : HasLed mid new es = led_all mid new es first.working h.2 in
      let sheet_is : mid.sheet ≡ old.sheet = h.1.0.sheet in
      record {
        same_outlet = rest.same_outlet ∙ h.1.0.outlet;
        same_kept = rest.same_kept ∙ h.1.0.kept;
        same_document = rest.same_document ∙ h.1.0.document;
        same_sheet = rest.same_sheet ∙ sheet_is;
        working = rest.working;
        puts =
            Puts-trans (state old.outlet.now) (state mid.outlet.now)
            (state new.outlet.now) old.kept.now.items mid.kept.now.items new.kept.now.items
            (drawn_event old.sheet old.document.now e)
            (drawn_events old.sheet (pdf_behind old.sheet old.document.now e) es) first.puts
            (subst
            (λ p.
            Puts (state mid.outlet.now) (state new.outlet.now) mid.kept.now.items new.kept.now.items (drawn_events old.sheet p es))
            first.pdf_is
            (subst
            (λ s.
            Puts (state mid.outlet.now) (state new.outlet.now) mid.kept.now.items new.kept.now.items
            (drawn_events s mid.document.now es))
            sheet_is rest.puts));
        pdf_is =
            rest.pdf_is
            ∙ (ap (λ s. pdf_behind_all s mid.document.now es) sheet_is
            ∙ ap (λ p. pdf_behind_all old.sheet p es) first.pdf_is);
      }

  -- and of one more a front was written
  pub led_to : (old mid : DocumentText W A B) (new : OutletState) (events : List Event) (event : Event) → HasLed old mid events →
      LeadsTo (state mid.outlet.now) new mid.kept.now.items mid.sheet mid.document.now event
      → AddsFront (state old.outlet.now) new
      (old.kept.now.items ++ drawn_events old.sheet old.document.now (events ++ event ∷ []))
  led_to old mid new events event led front =
      let behind : Pdf = pdf_behind_all old.sheet old.document.now events in
      let last : drawn_event mid.sheet mid.document.now event ≡ drawn_events old.sheet behind (event ∷ []) =
      ap (λ s. drawn_event s mid.document.now event) led.same_sheet
      ∙ (ap (λ p. drawn_event old.sheet p event) led.pdf_is
      ∙ sym (append-nil (drawn_event old.sheet behind event))) in
      subst (λ t. AddsFront (state old.outlet.now) new (old.kept.now.items ++ t))
      (ap (λ t. drawn_events old.sheet old.document.now events ++ t) last
      ∙ sym (drawn_events-append old.sheet old.document.now events (event ∷ [])))
      (Puts-front (state old.outlet.now) (state mid.outlet.now) new old.kept.now.items mid.kept.now.items
      (drawn_events old.sheet old.document.now events) (drawn_event mid.sheet mid.document.now event) led.puts front)

  module _ (old new : DocumentText W A B) (run : Panel → Run) (working : IsFalse (state old.outlet.now).failed) where
    -- a run that ended so was written
    pub draws_all : (ending : Panel → Ending) → TakesUpTo (TakesPart state) old new run (λ panel. just [] (ending panel))
        → Draws old.sheet (run any_panel) (ending any_panel) (state old.outlet.now)
        (state new.outlet.now) old.kept.now.items new.kept.now.items old.document.now new.document.now
    draws_all ending took =
        let led = led_all old new took.events working took.leads in
        record {
          events = took.events;
          peaks = took.peaks any_panel;
          is = took.is any_panel;
          puts = led.puts;
          pdf_is = led.pdf_is;
        }

    -- memory was refused behind it
    pub draws_whole : TakesWhole (TakesPart state) old new run →
        DrawsFront old.sheet (run any_panel) (state old.outlet.now) (state new.outlet.now) old.kept.now.items
        old.document.now
    draws_whole whole =
        let took = whole.1 in
        let led = led_all old new took.events working took.leads in
        record {
          events = took.events;
          others = [];
          is = ap (λ (r : Run). r.events) (took.is any_panel);
          front =
              Puts-cut-front (state old.outlet.now) (state new.outlet.now) old.kept.now.items new.kept.now.items
              (drawn_events old.sheet old.document.now took.events) led.puts;
        }

    -- an event was refused
    pub draws_refused : Refuses (TakesPart state) (RefusesPart state) old new run →
        DrawsFront old.sheet (run any_panel) (state old.outlet.now) (state new.outlet.now) old.kept.now.items
        old.document.now
    draws_refused refused =
        let took = refused.took in
        let led = led_all old refused.mid took.events working took.leads in
        record {
          events = took.events ++ refused.event ∷ [];
          others = (refused.rest any_panel).events;
          is =
              ap (λ (r : Run). r.events) (took.is any_panel)
              ∙ sym (append_assoc took.events (refused.event ∷ []) (refused.rest any_panel).events);
          front = led_to old refused.mid (state new.outlet.now) took.events refused.event led refused.refused.1;
        }
