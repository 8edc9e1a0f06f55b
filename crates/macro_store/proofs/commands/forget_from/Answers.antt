use Rattle.std.proofs.Common.{rules, ◌≤◌, ◌≡◌, true, Bool, List}
use Rattle.std.specs.List.{All}
use Rattle.std.specs.List.Retain.{IsFiltered}
use Rattle.std.proofs.lemmas.Bool.{leb-true}
use Rattle.std.proofs.lemmas.Fn.{All-from_retain}
use Rattle.macro_store.specs.declared.commands.StoredCommand.{StoredCommand}
use Rattle.macro_store.proofs.commands.forget_from.Goals as goal

kept : {F : Type 0} {R : F → StoredCommand → Bool → F → Type 0} {f : F} (P : StoredCommand → Type 0) (xs ys : List StoredCommand) →
    IsFiltered R f xs ys → ((x : StoredCommand) (b : Bool) (f' : F) → R f x b f' → (b ≡ true → P x) × (f' ≡ f)) → All P ys
kept {F} {R} {f} P xs ys is h = All-from_retain R P f h xs ys is

pub returns-clause-before : goal.returns-clause-before
returns-clause-before g c =
    kept (λ (stored : StoredCommand). stored.end ≤ c.args.place) c.args.commands.now.items c.retain.new.self.items c.retain.ensures.filtered
    (λ x b f h. (λ yes. search (rules, h, yes, leb-true), search (rules, h)))
