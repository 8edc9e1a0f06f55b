use Rattle.std.proofs.Common.{ap, map, refl, subst, sym}
use Rattle.profile_commands.specs.ProfileNew.{LeavesProfile}
use Rattle.named_inputs.specs.Texts.{text_named}
use Rattle.pclcheck.proofs.Fulfilling.{asked}
use Rattle.pclcheck.specs.Requests.{AsksForPdf, AsksForPicture, AsksForPin}
use Rattle.file_requests.specs.JobRequests.{LeavesCheck}
use Rattle.pclcheck.proofs.by_request.fulfil.Goals as goal

pub returns-in-Check : goal.returns-in-Check
returns-in-Check g c =
    asked _ _ _ _ _ _ _ _ _ _ c.in-Check.is (
      subst
          (λ words. LeavesCheck c.in-Check.job.now (map (λ word. word.now) words) (map (λ word. text_named word.now) words)
          c.check.result c.args.used.now c.check.new.used (g.O.Outlet.state c.args.stdout.now) (g.O.Outlet.state c.check.new.stdout))
          c.as_slice.ensures.value c.check.ensures,
      refl,
    )

pub returns-in-CheckMany : goal.returns-in-CheckMany
returns-in-CheckMany g c = asked _ _ _ _ _ _ _ _ _ _ c.in-CheckMany.is c.check_asked.ensures

pub returns-in-Compare : goal.returns-in-Compare
returns-in-Compare g c = asked _ _ _ _ _ _ _ _ _ _ c.in-Compare.is c.compare_asked.ensures

pub returns-in-List : goal.returns-in-List
returns-in-List g c = asked _ _ _ _ _ _ _ _ _ _ c.in-List.is (c.list.ensures, refl)

pub returns-in-Pages : goal.returns-in-Pages
returns-in-Pages g c = asked _ _ _ _ _ _ _ _ _ _ c.in-Pages.is (c.pages.ensures, refl)

pub fulfil_picture-requires-clause-picture : goal.fulfil_picture-requires-clause-picture
fulfil_picture-requires-clause-picture g c = subst AsksForPicture (sym c.in-Picture.is) tt

pub returns-in-Picture : goal.returns-in-Picture
returns-in-Picture g c = c.fulfil_picture.ensures

pub fulfil_pdf-requires-clause-pdf : goal.fulfil_pdf-requires-clause-pdf
fulfil_pdf-requires-clause-pdf g c = subst AsksForPdf (sym c.in-Pdf.is) tt

pub returns-in-Pdf : goal.returns-in-Pdf
returns-in-Pdf g c = c.fulfil_pdf.ensures

pub returns-in-Notes : goal.returns-in-Notes
returns-in-Notes g c = asked _ _ _ _ _ _ _ _ _ _ c.in-Notes.is (c.notes.ensures, refl)

pub returns-in-Plain : goal.returns-in-Plain
returns-in-Plain g c = asked _ _ _ _ _ _ _ _ _ _ c.in-Plain.is (c.plain.ensures, refl)

pub fulfil_pin-requires-clause-pin : goal.fulfil_pin-requires-clause-pin
fulfil_pin-requires-clause-pin g c = subst AsksForPin (sym c.in-Pin.is) tt

pub returns-in-Pin : goal.returns-in-Pin
returns-in-Pin g c = c.fulfil_pin.ensures

pub returns-in-Explain : goal.returns-in-Explain
returns-in-Explain g c =
    asked _ _ _ _ _ _ _ _ _ _ c.in-Explain.is (
      record {
        text = λ known. c.explain.ensures.text known;
        untouched = λ unknown. ap g.O.Outlet.state (c.explain.ensures.untouched unknown);
        status_is = c.explain.ensures.status;
        complaint = λ unknown. c.explain.ensures.complaint unknown;
        quiet = λ known. ap g.E.Outlet.state (c.explain.ensures.quiet known);
      },
      refl,
    )

pub returns-in-ProfileList : goal.returns-in-ProfileList
returns-in-ProfileList g c = asked _ _ _ _ _ _ _ _ _ _ c.in-ProfileList.is (c.profile_list.ensures, refl, refl)

pub returns-in-ProfileNew : goal.returns-in-ProfileNew
returns-in-ProfileNew g c =
    let words = c.in-ProfileNew.words in
    asked _ _ _ _ _ _ _ _ _ _ c.in-ProfileNew.is (
      subst (λ names. LeavesProfile words.model.now (map (λ name. name.now) names) words.lists c.profile_new.result
          (g.O.Outlet.state c.args.stdout.now) (g.O.Outlet.state c.profile_new.new.stdout) (g.E.Outlet.state c.args.stderr.now)
          (g.E.Outlet.state c.profile_new.new.stderr))
          c.as_slice-papers.ensures.value c.profile_new.ensures,
      refl,
    )

pub returns-in-ProfileShow : goal.returns-in-ProfileShow
returns-in-ProfileShow g c = asked _ _ _ _ _ _ _ _ _ _ c.in-ProfileShow.is c.show.ensures

pub returns-in-ProfileSheet : goal.returns-in-ProfileSheet
returns-in-ProfileSheet g c = asked _ _ _ _ _ _ _ _ _ _ c.in-ProfileSheet.is (c.sheet.ensures, refl)

pub returns-in-ProfileFromPjl : goal.returns-in-ProfileFromPjl
returns-in-ProfileFromPjl g c = asked _ _ _ _ _ _ _ _ _ _ c.in-ProfileFromPjl.is c.from_pjl.ensures
