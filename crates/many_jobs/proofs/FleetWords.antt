-- The words that the lines of a fleet's text name.
use Rattle.std.proofs.Common.{◌≡◌, ◌≢◌, ℕ, Bor, List, [], ◌∷◌, ◌++◌, Option, IfSome, append-nil, append_assoc, ap, arith, cond, flat_map}
use Rattle.std.proofs.Common.{false, length, length-append, map, refl, sym, take, true, ◌∙◌, ◌≤◌}
use Rattle.std.proofs.lemmas.Grind.{flat_map-append}
use Rattle.std.proofs.lemmas.List.{length-map, map-append}
use Rattle.std.specs.Str.Lines.{lines}
use Rattle.many_jobs.specs.FleetFile.{AddsBytes, AddsFleet, fleet_words, is_passed_over, line_words, word_of, words_at}

-- nothing is appended
pub adds_none : {S : Type 0} (bytes : S → List ℕ) (old : List S) → AddsBytes bytes old old []
adds_none bytes old = record { more = []; behind = sym (append-nil old); bytes_are = refl }

-- one more
pub adds_one : {S : Type 0} (bytes : S → List ℕ) (old new : List S) (more : S) → new ≡ old ++ more ∷ [] →
    AddsBytes bytes old new (bytes more ∷ [])
adds_one bytes old new more is = record { more = more ∷ []; behind = is; bytes_are = refl }

-- and then others
pub adds_more : {S : Type 0} (bytes : S → List ℕ) (old mid new : List S) (some others : List (List ℕ)) → AddsBytes bytes old mid some →
    AddsBytes bytes mid new others → AddsBytes bytes old new (some ++ others)
adds_more bytes old mid new some others first second = record {
  more = first.more ++ second.more;
  behind = second.behind ∙ ap (λ items. items ++ second.more) first.behind ∙ append_assoc old first.more second.more;
  bytes_are =
      map-append bytes first.more second.more ∙ ap (λ words. words ++ map bytes second.more) first.bytes_are
      ∙ ap (λ words. some ++ words) second.bytes_are;
}

-- where there are more than before, some are appended
pub adds_some : {S : Type 0} (bytes : S → List ℕ) (old new : List S) (added : List (List ℕ)) → AddsBytes bytes old new added →
    length new ≢ length old → added ≢ []
adds_some bytes old new added adds more none =
    more (omega (arith, ap length adds.behind, length-append old adds.more, length-map adds.more bytes, ap length (adds.bytes_are ∙ none)))

-- a line that is passed over names nothing, and any other one a word
pub line_words-none : (path line : List ℕ) → is_passed_over line ≡ true → line_words path line ≡ []
line_words-none path line is = ap (λ passed. cond passed [] (word_of path line ∷ [])) is

pub line_words-one : (path line : List ℕ) → is_passed_over line ≡ false → line_words path line ≡ word_of path line ∷ []
line_words-one path line is = ap (λ passed. cond passed [] (word_of path line ∷ [])) is

-- one more line
pub words_more : (path : List ℕ) (before : List (Bor (List ℕ))) (line : Bor (List ℕ)) →
    flat_map (words_at path) (map (λ line. line.now) (before ++ line ∷ []))
    ≡ flat_map (words_at path) (map (λ line. line.now) before) ++ words_at path line.now
words_more path before line =
    let named = map (λ (line : Bor (List ℕ)). line.now) before in
    ap (flat_map (words_at path)) (map-append (λ line. line.now) before (line ∷ []))
    ∙ flat_map-append (words_at path) named (line.now ∷ [])
    ∙ ap (λ words. flat_map (words_at path) named ++ words) (append-nil (words_at path line.now))

-- the text at a path names these words
pub adds_fleet : {S : Type 0} (bytes : S → List ℕ) (text_of : List ℕ → Option (List ℕ)) (path : List ℕ) (given given' : List (List ℕ))
    (old new : List S) (text : List ℕ)
    → given' ≡ given ++ text ∷ [] → length text ≤ 65_536 → IfSome (text_of path) (λ known. text ≡ take 65_537 known)
    → AddsBytes bytes old new (fleet_words path text) → length new ≢ length old
    → AddsFleet bytes text_of path given given' old new
adds_fleet bytes text_of path given given' old new text read whole front adds more = record {
  text = text;
  read = read;
  is_fleet = record { whole = whole; some = adds_some bytes old new (fleet_words path text) adds more; front = front };
  adds = adds;
}
