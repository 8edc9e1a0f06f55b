-- Lemmas on what is told of commands.
use Rattle.std.proofs.Common.{◌≡◌, ◌<◌, ◌≤◌, ◌+◌, ℕ, List, [], ◌∷◌, ◌++◌, map, take, length, get_or, append-nil, Bool, true, false}
use Rattle.std.proofs.Common.{Option, refl, sym, ◌∙◌, ap, subst, true≢false, if◌then◌else◌}
use Rattle.std.specs.Prelude.{IsFalse, IsTrue, filter}
use Rattle.std.proofs.lemmas.List.{take_all}
use Rattle.std.specs.List.{concat}
use Rattle.streams.specs.Outlet.{OutletState, Adds, AddsFront}
use Rattle.streams.specs.Writing.{Writes}
use Rattle.requests.proofs.Writing.{Writes-cut, pieces_more}
use Rattle.requests.specs.declared.status.Status.{Status}
use Rattle.meanings.specs.CommandsTold.{asks_for_list, asks_of, asks_of_commands, is_code_unheard, list_line, told_of_code}
use Rattle.meanings.specs.CommandsTold.{told_of_commands}
use Rattle.meanings.specs.Explanations.{complaint_of_code, end_of_explain, explanation, is_unknown}

-- ---- the list

lines_of : {X : Type 0} (line : List ℕ → List ℕ) (f : X → List ℕ) (xs : List X) →
    concat (map (λ x. line (f x)) xs) ≡ concat (map line (map f xs))
lines_of line f [] = refl
lines_of line f (x ∷ xs) = ap (λ l. line (f x) ++ l) (lines_of line f xs)

-- the writer failed at one more line
pub lines_cut : {X : Type 0} (line : List ℕ → List ℕ) (f : X → List ℕ) (xs : List X) (i : ℕ) (d : X) (a b c : OutletState) →
    i < length xs → c.failed ≡ true → Adds a b (concat (map (λ x. line (f x)) (take i xs))) → (text : List ℕ) →
    text ≡ line (f (get_or xs i d)) → AddsFront b c text → Writes a c (concat (map line (map f xs)))
lines_cut line f xs i d a b c h failure before text is cut =
    subst (Writes a c) (lines_of line f xs)
    (Writes-cut (λ x. line (f x)) xs i d a b c h failure before (subst (AddsFront b c) is cut))

-- one more line was written whole
pub lines_more : {X : Type 0} (line : List ℕ → List ℕ) (f : X → List ℕ) (xs : List X) (i : ℕ) (d : X) (a b c : OutletState) →
    i < length xs → Adds a b (concat (map (λ x. line (f x)) (take i xs))) → (text : List ℕ) → text ≡ line (f (get_or xs i d)) →
    Adds b c text → Adds a c (concat (map (λ x. line (f x)) (take (i + 1) xs)))
lines_more line f xs i d a b c h before text is more =
    pieces_more (λ x. line (f x)) xs i d a b c h before (subst (Adds b c) is more)

-- all lines were written
pub lines_whole : {X : Type 0} (line : List ℕ → List ℕ) (f : X → List ℕ) (xs : List X) (i : ℕ) (a b : OutletState) → length xs ≤ i →
    Adds a b (concat (map (λ x. line (f x)) (take i xs))) → Writes a b (concat (map line (map f xs)))
lines_whole line f xs i a b h all =
    let text : List ℕ = concat (map line (map f xs)) in
    let adds : Adds a b text =
    subst (Adds a b) (ap (λ l. concat (map (λ x. line (f x)) l)) (take_all i xs h) ∙ lines_of line f xs) all in
    record { front = (text, [], sym (append-nil text), adds); whole = λ working. adds }

-- ---- what is told of commands, by whether the list is asked for

module _ (a b : OutletState) (commands : List (List ℕ)) (code : Option (List ℕ)) (asks : Bool) (is : asks ≡ asks_for_list code) where
  pub told_list : asks ≡ true → Writes a b (concat (map list_line commands)) → Writes a b (told_of_commands commands code)
  told_list holds written =
      subst (λ asked. Writes a b (if asked then concat (map list_line commands) else concat (filter (asks_of code) commands)))
      (sym holds ∙ is) written

  pub told_asked : asks ≡ false → Writes a b (concat (filter (asks_of code) commands)) → Writes a b (told_of_commands commands code)
  told_asked fails written =
      subst (λ asked. Writes a b (if asked then concat (map list_line commands) else concat (filter (asks_of code) commands)))
      (sym fails ∙ is) written

-- ---- what is told of a code, by whether it asks of commands

module _ (texts commands : List (List ℕ)) (code : Option (List ℕ)) (asks : Bool) (is : asks ≡ asks_of_commands commands code) where
  pub is_heard : asks ≡ true → is_code_unheard texts commands code ≡ false
  is_heard holds = ap (λ asked. if asked then false else is_unknown texts code) (sym is ∙ holds)

  pub is_unheard_where_unknown : asks ≡ false → is_code_unheard texts commands code ≡ is_unknown texts code
  is_unheard_where_unknown fails = ap (λ asked. if asked then false else is_unknown texts code) (sym is ∙ fails)

  -- how the command ends
  pub commands_end : asks ≡ true → (failed : Bool) (status : Status) → status ≡ end_of_explain false failed →
      status ≡ end_of_explain (is_code_unheard texts commands code) failed
  commands_end holds failed status e = e ∙ ap (λ unheard. end_of_explain unheard failed) (sym (is_heard holds))

  pub others_end : asks ≡ false → (failed : Bool) (status : Status) → status ≡ end_of_explain (is_unknown texts code) failed →
      status ≡ end_of_explain (is_code_unheard texts commands code) failed
  others_end fails failed status e = e ∙ ap (λ unheard. end_of_explain unheard failed) (sym (is_unheard_where_unknown fails))

module _ (a b : OutletState) (texts commands : List (List ℕ)) (code : Option (List ℕ)) (asks : Bool)
    (is : asks ≡ asks_of_commands commands code) where
  pub told_commands : asks ≡ true → Writes a b (told_of_commands commands code) → Writes a b (told_of_code texts commands code)
  told_commands holds written =
      subst (λ asked. Writes a b (if asked then told_of_commands commands code else explanation texts code)) (sym holds ∙ is) written

  pub told_others : asks ≡ false → (IsFalse (is_unknown texts code) → Writes a b (explanation texts code)) →
      IsFalse (is_code_unheard texts commands code) → Writes a b (told_of_code texts commands code)
  told_others fails written heard =
      subst (λ asked. Writes a b (if asked then told_of_commands commands code else explanation texts code)) (sym fails ∙ is)
      (written (subst (λ asked. IsFalse (if asked then false else is_unknown texts code)) (sym is ∙ fails) heard))

  pub commands_are_heard : asks ≡ true → IsTrue (is_code_unheard texts commands code) → Writes a b (complaint_of_code code)
  commands_are_heard holds unheard =
      let none : false ≡ true = subst (λ asked. IsTrue (if asked then false else is_unknown texts code)) (sym is ∙ holds) unheard in
      absurd (true≢false (sym none))

  pub others_are_unheard : asks ≡ false → (IsTrue (is_unknown texts code) → Writes a b (complaint_of_code code)) →
      IsTrue (is_code_unheard texts commands code) → Writes a b (complaint_of_code code)
  others_are_unheard fails written unheard =
      written (subst (λ asked. IsTrue (if asked then false else is_unknown texts code)) (sym is ∙ fails) unheard)
