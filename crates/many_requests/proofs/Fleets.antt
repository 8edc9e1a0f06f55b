-- Fleets that are read one after another.
use Rattle.std.proofs.Common.{◌≡◌, ◌≢◌, ◌≤◌, ◌<◌, ◌+◌, ℕ, Bool, Bor, List, [], ◌∷◌, ◌++◌, append-nil, append_assoc, ap, arith, flat_map}
use Rattle.std.proofs.Common.{IsFalse, false, get_or, length, length-append, map, refl, subst, sym, take, ◌∙◌}
use Rattle.std.specs.List.{AllByRecursion}
use Rattle.std.specs.Prelude.{Option}
use Rattle.std.proofs.lemmas.Grind.{flat_map-append}
use Rattle.std.proofs.lemmas.List.{length-map, map-append, map_more, nil_from_length, take_all}
use Rattle.streams.specs.Used.{FileUse, TextsAt}
use Rattle.many_jobs.specs.FleetFile.{AddsFleet, AreFleets, FleetText, IsFleet, fleet_at, words_named}
use Rattle.many_requests.specs.Checks.{ReadsFleets}

-- before the first fleet
pub reads_none : (text_of : List ℕ → Option (List ℕ)) (given words : List (List ℕ)) → words ≡ [] → ReadsFleets text_of [] given given words
reads_none text_of given words none = record {
  fleets = [];
  are_fleets = record { paths_are = refl; each = tt };
  given = sym (append-nil given);
  words_are = none;
}

each_more : {X : Type 0} (P : X → Type 0) (xs : List X) (x : X) → AllByRecursion P xs → P x → AllByRecursion P (xs ++ x ∷ [])
each_more P [] x each more = (more, tt)
each_more P (y ∷ xs) x each more = (each.0, each_more P xs x each.1 more)

-- one more fleet
pub reads_more : {S : Type 0} (bytes : S → List ℕ) (text_of now_of : List ℕ → Option (List ℕ)) (paths : List (Bor (List ℕ))) (i : ℕ)
    (path : Bor (List ℕ)) (start old new : List (List ℕ)) (words words' : List S)
    → i < length paths → path ≡ get_or paths i path → now_of ≡ text_of
    → ReadsFleets text_of (map (λ path. path.now) (take i paths)) start old (map bytes words)
    → AddsFleet bytes now_of path.now old new words words'
    → ReadsFleets text_of (map (λ path. path.now) (take (i + 1) paths)) start new (map bytes words')
reads_more bytes text_of now_of paths i path start old new words words' within here same reads adds =
    let fleet : FleetText = fleet_at path.now adds.text in
    let now : Bor (List ℕ) → List ℕ = λ path. path.now in
    let next : map now (take i paths) ++ path.now ∷ [] ≡ map now (take (i + 1) paths) =
    ap (λ (p : Bor (List ℕ)). map now (take i paths) ++ p.now ∷ []) here ∙ sym (map_more now paths i path within) in
    record {
      fleets = reads.fleets ++ fleet ∷ [];
      are_fleets = record {
        paths_are =
            map-append (λ fleet. fleet.path) reads.fleets (fleet ∷ [])
            ∙ ap (λ named. named ++ path.now ∷ []) reads.are_fleets.paths_are ∙ next;
        each = each_more (IsFleet text_of) reads.fleets fleet reads.are_fleets.each (subst (λ of. IsFleet of fleet) same adds.is_fleet);
      };
      given =
          adds.read ∙ ap (λ texts. texts ++ adds.text ∷ []) reads.given
          ∙ append_assoc start (map (λ fleet. fleet.text) reads.fleets) (adds.text ∷ [])
          ∙ ap (λ texts. start ++ texts) (sym (map-append (λ fleet. fleet.text) reads.fleets (fleet ∷ [])));
      words_are =
          ap (map bytes) adds.adds.behind ∙ map-append bytes words adds.adds.more
          ∙ ap (λ front. front ++ map bytes adds.adds.more) reads.words_are
          ∙ ap (λ named. flat_map words_named reads.fleets ++ named) (adds.adds.bytes_are ∙ sym (append-nil (words_named fleet)))
          ∙ sym (flat_map-append words_named reads.fleets (fleet ∷ []));
    }

-- of all paths
pub reads_all : (text_of : List ℕ → Option (List ℕ)) (paths : List (Bor (List ℕ))) (i : ℕ) (old new words : List (List ℕ)) →
    length paths ≤ i
    → ReadsFleets text_of (map (λ path. path.now) (take i paths)) old new words
    → ReadsFleets text_of (map (λ path. path.now) paths) old new words
reads_all text_of paths i old new words all reads =
    subst (λ ps. ReadsFleets text_of (map (λ path. path.now) ps) old new words) (take_all i paths all) reads

-- they were asked for, and no others
pub asked_all : (paths : List (Bor (List ℕ))) (i : ℕ) (start after : List (List ℕ)) → length paths ≤ i
    → after ≡ start ++ map (λ path. path.now) (take i paths) → after ≡ start ++ map (λ path. path.now) paths
asked_all paths i start after all asked =
    subst (λ (ps : List (Bor (List ℕ))). after ≡ start ++ map (λ path. path.now) ps) (take_all i paths all) asked

-- so the history of files has them, where nothing was read before
pub fleets_told : (used between : List FileUse) (paths slice before named start given texts : List (List ℕ)) (failed : Bool)
    → between ≡ used ++ TextsAt named given failed ∷ [] → before ≡ [] → named ≡ before ++ slice → slice ≡ paths
    → start ≡ [] → given ≡ start ++ texts → IsFalse failed → between ≡ used ++ TextsAt paths texts false ∷ []
fleets_told used between paths slice before named start given texts failed told unnamed are is none read working =
    told
    ∙ ap (λ (words : List (List ℕ)). used ++ TextsAt words given failed ∷ [])
    (are ∙ (ap (λ (front : List (List ℕ)). front ++ slice) unnamed ∙ is))
    ∙ ap (λ (all : List (List ℕ)). used ++ TextsAt paths all failed ∷ [])
    (read ∙ ap (λ (front : List (List ℕ)). front ++ texts) none)
    ∙ ap (λ (stopped : Bool). used ++ TextsAt paths texts stopped ∷ []) working

-- each names one word at least
words_count : (text_of : List ℕ → Option (List ℕ)) (fleets : List FleetText) → AllByRecursion (IsFleet text_of) fleets →
    length fleets ≤ length (flat_map words_named fleets)
words_count text_of [] each = omega arith
words_count text_of (fleet ∷ fleets) each =
    let some : length (words_named fleet) ≢ 0 = λ none. each.0.some (nil_from_length (words_named fleet) none) in
    omega (arith, some, words_count text_of fleets each.1, length-append (words_named fleet) (flat_map words_named fleets))

pub fleets_count : (text_of : List ℕ → Option (List ℕ)) (paths words : List (List ℕ)) (old new : List (List ℕ)) →
    ReadsFleets text_of paths old new words → length paths ≤ length words
fleets_count text_of paths words old new reads =
    omega (
      arith,
      words_count text_of reads.fleets reads.are_fleets.each,
      ap length reads.words_are,
      ap length reads.are_fleets.paths_are,
      length-map reads.fleets (λ (fleet : FleetText). fleet.path),
    )
