-- One more text that was read.
use Rattle.std.proofs.Common.{◌≡◌, ◌<◌, ◌+◌, ℕ, Bool, List, [], ◌∷◌, ◌++◌, Option, IfSome, codes, map, take, length, get_or, append_assoc}
use Rattle.std.proofs.Common.{ap, inl, inr, refl, sym, subst, ◌∙◌}
use Rattle.std.proofs.lemmas.List.{get_or-map, length-map, map-append, map_more, take-map}
use Rattle.std.proofs.lemmas.List.Elements.{All-push}
use Rattle.streams.specs.declared.error.Error.TheVariants.{Memory}
use Rattle.streams.specs.Outlet.{OutletState}
use Rattle.job_reports.specs.Refusals.{TellsOfProfile}
use Rattle.requests.specs.declared.status.Status.{Status}
use Rattle.requests.specs.declared.status.Status.TheVariants.{Stopped}
use Rattle.profile_commands.specs.ProfileLint.{AreRead, StopsReading, TellsOfNext}
use Rattle.profile_commands.specs.ProfileReading.{IsRead, TellsFailedRead, TellsNoText}
use Rattle.profile_lint.specs.Lint.{Named}

abbrev under : List ℕ → List ℕ → Named
under word text = record { word = word; text = text }

-- behind those of the words before, the text of one more word
pub AreRead-next : {X : Type 0} (start now : List ℕ → Option (List ℕ)) (bytes : X → List ℕ) (words : List X) (i : ℕ) (d : X)
    (old mid new : List (List ℕ)) (texts : List Named) (text : List ℕ) → i < length words → now ≡ start →
    AreRead start (map bytes (take i words)) old mid texts → IsRead (now (bytes (get_or words i d))) mid new text →
    AreRead start (map bytes (take (i + 1) words)) old new (texts ++ under (bytes (get_or words i d)) text ∷ [])
AreRead-next start now bytes words i d old mid new texts text h same before more =
    let one : Named = under (bytes (get_or words i d)) text in
    record {
      words_are =
          map-append (λ n. n.word) texts (one ∷ []) ∙ ap (λ ws. ws ++ one.word ∷ []) before.words_are ∙ sym (map_more bytes words i d h);
      given = more.0 ∙ ap (λ g. g ++ text ∷ []) before.given ∙ append_assoc old (map (λ n. n.text) texts) (text ∷ [])
          ∙ ap (λ ts. old ++ ts) (sym (map-append (λ n. n.text) texts (one ∷ [])));
      fronts = All-push (λ n. IfSome (start n.word) (λ known. n.text ≡ take 65_537 known)) texts one before.fronts
          (subst (λ t. IfSome (t one.word) (λ known. text ≡ take 65_537 known)) same more.1);
    }

-- where a read of the next word's text failed, the reading stopped there
told_of_next : (words : List (List ℕ)) (place : ℕ) (word : List ℕ) (failed : Bool) (status : Status) (err now err' : OutletState) →
    place < length words → word ≡ get_or words place [] → now ≡ err
    → TellsFailedRead (codes "ERROR read profile ") word failed status now err' → TellsOfNext words place failed status err err'
told_of_next words place word failed status err now err' within is same told =
    elim told [
      | inl unread ↦ inl (
        within,
        unread.0,
        subst (λ w. TellsOfProfile w status err err') is (subst (λ e. TellsOfProfile word status e err') same unread.1),
      )
      | inr want ↦ inr (want.0, want.1 ∙ same)
    ]

-- the texts of the words before a place were read, by what was given behind them
read_before : {X : Type 0} (start : List ℕ → Option (List ℕ)) (bytes : X → List ℕ) (words : List X) (place : ℕ)
    (old mid new : List (List ℕ)) (texts : List Named) → new ≡ mid
    → AreRead start (map bytes (take place words)) old mid texts → AreRead start (take place (map bytes words)) old new texts
read_before start bytes words place old mid new texts same read =
    subst (λ ws. AreRead start ws old new texts) (sym (take-map bytes place words))
    (subst (λ given. AreRead start (map bytes (take place words)) old given texts) (sym same) read)

-- the text of the word at a place was not read
pub stops_at : {X : Type 0} (start : List ℕ → Option (List ℕ)) (bytes : X → List ℕ) (words : List X) (i : ℕ) (d : X)
    (old mid new : List (List ℕ)) (texts : List Named) (failed : Bool) (status : Status) (err now err' : OutletState)
    → i < length words → now ≡ err → AreRead start (map bytes (take i words)) old mid texts
    → TellsNoText (bytes (get_or words i d)) mid new failed status now err'
    → StopsReading start (map bytes words) old new failed status err err'
stops_at start bytes words i d old mid new texts failed status err now err' h same before none =
    let within : i < length (map bytes words) = subst (λ n. i < n) (sym (length-map words bytes)) h in (
      i,
      texts,
      read_before start bytes words i old mid new texts none.0 before,
      told_of_next (map bytes words) i (bytes (get_or words i d)) failed status err now err' within
          (sym (get_or-map bytes words i d [] h)) same none.1,
    )

-- memory ran out behind the texts of some words
pub stops_behind : {X : Type 0} (start : List ℕ → Option (List ℕ)) (bytes : X → List ℕ) (words : List X) (place : ℕ)
    (old new : List (List ℕ)) (texts : List Named) (failed : Bool) (err err' : OutletState)
    → AreRead start (map bytes (take place words)) old new texts → err' ≡ err
    → StopsReading start (map bytes words) old new failed (Stopped Memory) err err'
stops_behind start bytes words place old new texts failed err err' read same =
    (place, texts, read_before start bytes words place old new new texts refl read, inr (refl, same))
