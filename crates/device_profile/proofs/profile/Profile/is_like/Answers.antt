use Rattle.std.proofs.Common.{refl, sym, ◌∙◌, subst}
use Rattle.device_profile.specs.Fields.{printer_of}
use Rattle.device_profile.specs.Likeness.{IsLike}
use Rattle.device_profile.proofs.LikePrinters.{like_printers}
use Rattle.device_profile.proofs.profile.Profile.is_like.Goals as goal

pub returns : goal.returns
returns g c = λ faces.
    subst (λ q. IsLike c.args.self.now q) c.other.view_is
    (subst (λ p. IsLike p (printer_of c.other.inside)) c.self.view_is
    (like_printers (printer_of c.self.inside) (printer_of c.other.inside)
    (c.if-not-are_like.ensures refl)
    (c.if-not-is_same_limit.ensures refl)
    (sym c.deref-2.ensures.value ∙ c.if-not-are_same_pages.ensures refl ∙ c.deref.ensures.value)
    (sym c.deref-4.ensures.value ∙ c.are_same_faces.ensures faces ∙ c.deref-3.ensures.value)))
