-- Lines are read by their rules.
use Rattle.std.proofs.Common.{◌≡◌, ℕ, ◌+◌, List, [], ◌∷◌, ◌++◌, Bool, true, false, cond, Option, None, Some, refl, sym, ap, subst, ◌∙◌}
use Rattle.std.specs.Prelude.{◌==◌, ◌&&◌, not}
use Rattle.std.proofs.lemmas.Bool.{eqb-true, eq-eqb, cond_both, cond-true, cond-false}
use Rattle.std.proofs.lemmas.List.{append-nil, append_assoc}
use Rattle.pcl_items.specs.declared.pjl.Word.{Word}
use Rattle.pcl_items.specs.declared.pjl.Word.TheVariants as words
use Rattle.pcl_items.specs.PjlLines.Text.{is_blank, is_solid, PjlCommand, Bare, spelling}
use Rattle.pcl_items.specs.PjlLines.Reader.{front, past, trimmed, is_word, word_at, with_text, in_words, behind_prefix, pjl_command_of}
use Rattle.pcl_lexer.specs.PjlLines.Syntax as rules
use Rattle.pcl_lexer.specs.PjlLines.Syntax.{Each, AreBlanks, IsWord, BeginsSolid, EndsSolid, IsText, AreWords, IsPjlCommand}
use Rattle.pcl_lexer.proofs.PjlLines.Spans.{both_true, Stops, front_is, past_is, front_past, each_front, stops_past, word_told, word_read}
use Rattle.pcl_lexer.proofs.PjlLines.Spans.{is_upper, letters, solids}
use Rattle.pcl_lexer.proofs.PjlLines.Trims.{blanks_trimmed, ends_trimmed, front_trimmed, trims, LeftOver, some, left_over}
use Rattle.pcl_lexer.proofs.PjlLines.Reads.{text_read, text_told, Told}

-- ---- words

spelled_upper : (word : Word) → Each is_upper (spelling word)
spelled_upper words.Comment = (refl, (refl, (refl, (refl, (refl, (refl, (refl, tt)))))))
spelled_upper words.Job = (refl, (refl, (refl, tt)))
spelled_upper words.EndOfJob = (refl, (refl, (refl, tt)))
spelled_upper words.Enter = (refl, (refl, (refl, (refl, (refl, tt)))))

pub word_solid : (word : Word) (text : List ℕ) → IsWord (spelling word) text → Each is_solid text
word_solid word text h = solids text (letters text (subst (Each is_upper) (sym h) (spelled_upper word)))

-- a number of each word of its own
abbrev key : List ℕ → ℕ
key [] = 0
key (a ∷ []) = a
key (a ∷ b ∷ more) = a + b

by_key : (text capitals others : List ℕ) → IsWord capitals text → (key capitals == key others) ≡ false → (c : Bool) →
    is_word text others ≡ c → c ≡ false
by_key text capitals others h k true e =
    let q = eq-eqb (key capitals) (key others) (ap key (sym h ∙ word_told text others e)) in
    absurd cc
by_key text capitals others h k false e = refl

other_word : (text capitals others : List ℕ) → IsWord capitals text → (key capitals == key others) ≡ false → is_word text others ≡ false
other_word text capitals others h k = by_key text capitals others h k (is_word text others) refl

abbrev sp : Word → List ℕ
sp word = spelling word

pub word_found : (word : Word) (text : List ℕ) → IsWord (spelling word) text → word_at text ≡ Some word
word_found words.Comment text h = cond-true (is_word text (sp words.Comment)) _ _ (word_read text (sp words.Comment) h)
word_found words.Job text h =
    cond-false (is_word text (sp words.Comment)) _ _ (other_word text (sp words.Job) (sp words.Comment) h refl)
    ∙ cond-true (is_word text (sp words.Job)) _ _ (word_read text (sp words.Job) h)
word_found words.EndOfJob text h =
    cond-false (is_word text (sp words.Comment)) _ _ (other_word text (sp words.EndOfJob) (sp words.Comment) h refl)
    ∙ cond-false (is_word text (sp words.Job)) _ _ (other_word text (sp words.EndOfJob) (sp words.Job) h refl)
    ∙ cond-true (is_word text (sp words.EndOfJob)) _ _ (word_read text (sp words.EndOfJob) h)
word_found words.Enter text h =
    cond-false (is_word text (sp words.Comment)) _ _ (other_word text (sp words.Enter) (sp words.Comment) h refl)
    ∙ cond-false (is_word text (sp words.Job)) _ _ (other_word text (sp words.Enter) (sp words.Job) h refl)
    ∙ cond-false (is_word text (sp words.EndOfJob)) _ _ (other_word text (sp words.Enter) (sp words.EndOfJob) h refl)
    ∙ cond-true (is_word text (sp words.Enter)) _ _ (word_read text (sp words.Enter) h)

abbrev Named : List ℕ → Option Word → Type 0
Named text None = Unit {0}
Named text (Some word) = IsWord (spelling word) text

named : (text : List ℕ) → Named text (word_at text)
named text =
    cond_both (is_word text (sp words.Comment)) _ _ (Named text) (λ h. word_told text (sp words.Comment) h) (λ _.
    cond_both (is_word text (sp words.Job)) _ _ (Named text) (λ h. word_told text (sp words.Job) h) (λ _.
    cond_both (is_word text (sp words.EndOfJob)) _ _ (Named text) (λ h. word_told text (sp words.EndOfJob) h) (λ _.
    cond_both (is_word text (sp words.Enter)) _ _ (Named text) (λ h. word_told text (sp words.Enter) h) (λ _. tt))))

no_solid : (c : Bool) → not c ≡ true → c ≡ false
no_solid true h = absurd cc
no_solid false h = refl

no_blank : (c : Bool) → not c ≡ false → c ≡ true
no_blank true h = refl
no_blank false h = absurd cc

not_blank : (c : Bool) → c ≡ true → not c ≡ false
not_blank true h = refl
not_blank false h = absurd cc

some_text : (word : Word) → IsWord (spelling word) [] → ⊥
some_text words.Comment h = cc
some_text words.Job h = cc
some_text words.EndOfJob h = cc
some_text words.Enter h = cc

solid_begins : (title rest : List ℕ) (word : Word) → IsWord (spelling word) title → Each is_solid title → Stops is_blank (title ++ rest)
solid_begins [] rest word w h = absurd (some_text word w)
solid_begins (b ∷ title) rest word w h = no_solid (is_blank b) h.0

words_begin : (text : List ℕ) (line : PjlCommand) → AreWords text line → Stops is_blank text
words_begin text line (rules.alone word h t) =
    subst (Stops is_blank) (append-nil text) (solid_begins text [] word h (word_solid word text h))
words_begin text line (rules.followed word title b blanks rest h e hb s t) =
    solid_begins title (b ∷ (blanks ++ rest)) word h (word_solid word title h)

begins_stops : (text : List ℕ) → BeginsSolid text → Stops is_blank text
begins_stops [] h = absurd h
begins_stops (b ∷ text) h = h

pub words_read : (text : List ℕ) (line : PjlCommand) → AreWords text line → in_words text ≡ Some line
unfolding in_words
words_read text line (rules.alone word h t) =
    let f : front is_solid text ≡ text =
    ap (front is_solid) (sym (append-nil text)) ∙ front_is is_solid text [] (word_solid word text h) tt in
    let p : past is_solid text ≡ [] = ap (past is_solid) (sym (append-nil text)) ∙ past_is is_solid text [] (word_solid word text h) tt in
    ap (λ l. with_text (word_at l) (past is_blank (past is_solid text))) f
    ∙ ap (λ o. with_text o (past is_blank (past is_solid text))) (word_found word text h)
    ∙ ap (λ l. with_text (Some word) (past is_blank l)) p
    ∙ text_read word [] line t
words_read text line (rules.followed word title b blanks rest h e hb s t) =
    let so = word_solid word title h in
    let st : Stops is_solid (b ∷ (blanks ++ rest)) = not_blank (is_blank b) e in
    let f : front is_solid (title ++ b ∷ (blanks ++ rest)) ≡ title = front_is is_solid title (b ∷ (blanks ++ rest)) so st in
    let p : past is_solid (title ++ b ∷ (blanks ++ rest)) ≡ b ∷ (blanks ++ rest) = past_is is_solid title (b ∷ (blanks ++ rest)) so st in
    ap (λ l. with_text (word_at l) (past is_blank (past is_solid (title ++ b ∷ (blanks ++ rest))))) f
    ∙ ap (λ o. with_text o (past is_blank (past is_solid (title ++ b ∷ (blanks ++ rest))))) (word_found word title h)
    ∙ ap (λ l. with_text (Some word) (past is_blank l)) p
    ∙ ap (with_text (Some word)) (past_is is_blank (b ∷ blanks) rest (e, hb) (begins_stops rest s))
    ∙ text_read word rest line t

-- ---- what is read of words

pub ends_behind : (blanks text : List ℕ) → AreBlanks blanks → EndsSolid (blanks ++ text) → EndsSolid text
ends_behind [] text h e = e
ends_behind (b ∷ []) [] h e = absurd (let c = h.0 in cc)
ends_behind (b ∷ []) (t ∷ text) h e = e
ends_behind (b ∷ c ∷ blanks) text h e = ends_behind (c ∷ blanks) text h.1 e

pub ends_front : (title b : List ℕ) (c : ℕ) → EndsSolid (title ++ c ∷ b) → EndsSolid (c ∷ b)
ends_front [] b c e = e
ends_front (t ∷ []) b c e = e
ends_front (t ∷ u ∷ title) b c e = ends_front (u ∷ title) b c e

abbrev line_or : PjlCommand → Option PjlCommand → PjlCommand
line_or l None = l
line_or l (Some m) = m

line_from : (word : Word) (text : List ℕ) (line : PjlCommand) (o : Option PjlCommand) → Told word text o → o ≡ Some line →
    IsText word text line
line_from word text line None t e = absurd cc
line_from word text line (Some l) t e = subst (IsText word text) (ap (line_or l) e) t

begins_of : (text : List ℕ) → EndsSolid text → Stops is_blank text → BeginsSolid text
begins_of [] e s = absurd e
begins_of (b ∷ text) e s = s

by_behind : (text : List ℕ) (line : PjlCommand) (word : Word) → IsWord (spelling word) (front is_solid text) → (v : List ℕ) →
    past is_solid text ≡ v → IsText word (past is_blank (past is_solid text)) line → EndsSolid text → AreWords text line
by_behind text line word w [] e t n =
    let q : text ≡ front is_solid text =
    front_past is_solid text ∙ ap (λ l. front is_solid text ++ l) e ∙ append-nil (front is_solid text) in
    rules.alone word (subst (IsWord (spelling word)) (sym q) w) (subst (λ l. IsText word (past is_blank l) line) e t)
by_behind text line word w (b ∷ rest) e t n =
    let blank : is_blank b ≡ true = no_blank (is_blank b) (subst (Stops is_solid) e (stops_past is_solid text)) in
    let q : text ≡ front is_solid text ++ b ∷ rest = front_past is_solid text ∙ ap (λ l. front is_solid text ++ l) e in
    let r : b ∷ rest ≡ (b ∷ front is_blank rest) ++ past is_blank rest = ap (λ l. b ∷ l) (front_past is_blank rest) in
    let p : past is_blank (b ∷ rest) ≡ past is_blank rest =
    ap (past is_blank) r
    ∙ past_is is_blank (b ∷ front is_blank rest) (past is_blank rest) (blank, each_front is_blank rest) (stops_past is_blank rest) in
    let last : EndsSolid (past is_blank rest) =
    ends_behind (b ∷ front is_blank rest) (past is_blank rest) (blank, each_front is_blank rest)
    (subst EndsSolid r (ends_front (front is_solid text) rest b (subst EndsSolid q n))) in
    subst (λ l. AreWords l line) (sym (q ∙ ap (λ l. front is_solid text ++ l) r))
    (rules.followed word (front is_solid text) b (front is_blank rest) (past is_blank rest) w blank (each_front is_blank rest)
    (begins_of (past is_blank rest) last (stops_past is_blank rest))
    (subst (λ l. IsText word l line) (ap (past is_blank) e ∙ p) t))

by_word : (text : List ℕ) (line : PjlCommand) (o : Option Word) → Named (front is_solid text) o →
    with_text o (past is_blank (past is_solid text)) ≡ Some line → EndsSolid text → AreWords text line
by_word text line None w h n = absurd cc
by_word text line (Some word) w h n =
    by_behind text line word w (past is_solid text) refl
    (line_from word (past is_blank (past is_solid text)) line (with_text (Some word) (past is_blank (past is_solid text)))
    (text_told word (past is_blank (past is_solid text))) h)
    n

pub words_told : (text : List ℕ) (line : PjlCommand) → in_words text ≡ Some line → EndsSolid text → AreWords text line
unfolding in_words
words_told text line h n = by_word text line (word_at (front is_solid text)) (named (front is_solid text)) h n

-- ---- a line

pub pjl_read : (text : List ℕ) (line : PjlCommand) → IsPjlCommand text line → pjl_command_of text ≡ Some line
unfolding pjl_command_of
pjl_read text line (rules.bare blanks h) = ap behind_prefix (blanks_trimmed blanks h)
pjl_read text line (rules.worded {words = words} b before after h hb hw he ha) =
    ap behind_prefix (front_trimmed (b ∷ before) words (words ++ after) he (ends_trimmed words after he ha))
    ∙ cond-true (is_blank b) (in_words (past is_blank (before ++ words))) None h
    ∙ ap in_words (past_is is_blank before words hb (words_begin words line hw))
    ∙ words_read words line hw

by_blank : (bytes blanks : List ℕ) (line : PjlCommand) (b : ℕ) (rest : List ℕ) → bytes ≡ (b ∷ rest) ++ blanks → AreBlanks blanks →
    EndsSolid (b ∷ rest) → (c : Bool) → is_blank b ≡ c → cond c (in_words (past is_blank rest)) None ≡ Some line →
    IsPjlCommand (64 ∷ 80 ∷ 74 ∷ 76 ∷ bytes) line
by_blank bytes blanks line b rest e h n true c q =
    let r : b ∷ rest ≡ (b ∷ front is_blank rest) ++ past is_blank rest = ap (λ l. b ∷ l) (front_past is_blank rest) in
    let last : EndsSolid (past is_blank rest) =
    ends_behind (b ∷ front is_blank rest) (past is_blank rest) (c, each_front is_blank rest) (subst EndsSolid r n) in
    subst (λ l. IsPjlCommand (64 ∷ 80 ∷ 74 ∷ 76 ∷ l) line)
    (sym (e ∙ ap (λ l. l ++ blanks) r ∙ append_assoc (b ∷ front is_blank rest) (past is_blank rest) blanks))
    (rules.worded b (front is_blank rest) blanks c (each_front is_blank rest) (words_told (past is_blank rest) line q last) last h)
by_blank bytes blanks line b rest e h n false c q = absurd cc

by_left : (bytes blanks : List ℕ) (line : PjlCommand) (t : List ℕ) → bytes ≡ t ++ blanks → AreBlanks blanks → LeftOver t →
    behind_prefix t ≡ Some line → IsPjlCommand (64 ∷ 80 ∷ 74 ∷ 76 ∷ bytes) line
by_left bytes blanks line [] e h l q =
    subst (λ b. IsPjlCommand (64 ∷ 80 ∷ 74 ∷ 76 ∷ b) line) (sym e)
    (subst (IsPjlCommand (64 ∷ 80 ∷ 74 ∷ 76 ∷ blanks)) (ap (line_or Bare) q) (rules.bare blanks h))
by_left bytes blanks line (b ∷ rest) e h (some n) q = by_blank bytes blanks line b rest e h n (is_blank b) refl q

by_prefix : (a b c d : ℕ) (bytes : List ℕ) (line : PjlCommand) (t : Bool) → ((a == 64) && ((b == 80) && ((c == 74) && (d == 76)))) ≡ t →
    cond t (behind_prefix (trimmed bytes)) None ≡ Some line → IsPjlCommand (a ∷ b ∷ c ∷ d ∷ bytes) line
by_prefix a b c d bytes line false e h = absurd cc
by_prefix a b c d bytes line true e h =
    let x = both_true (a == 64) ((b == 80) && ((c == 74) && (d == 76))) e in
    let y = both_true (b == 80) ((c == 74) && (d == 76)) x.1 in
    let z = both_true (c == 74) (d == 76) y.1 in
    let q : a ∷ b ∷ c ∷ d ∷ bytes ≡ 64 ∷ 80 ∷ 74 ∷ 76 ∷ bytes =
    ap (λ n. n ∷ b ∷ c ∷ d ∷ bytes) (eqb-true a 64 x.0) ∙ ap (λ n. 64 ∷ n ∷ c ∷ d ∷ bytes) (eqb-true b 80 y.0)
    ∙ ap (λ n. 64 ∷ 80 ∷ n ∷ d ∷ bytes) (eqb-true c 74 z.0) ∙ ap (λ n. 64 ∷ 80 ∷ 74 ∷ n ∷ bytes) (eqb-true d 76 z.1) in
    let t = trims bytes in
    subst (λ l. IsPjlCommand l line) (sym q) (by_left bytes t.blanks line (trimmed bytes) t.text t.are_blanks (left_over bytes) h)

pub line_told : (text : List ℕ) (line : PjlCommand) → pjl_command_of text ≡ Some line → IsPjlCommand text line
unfolding pjl_command_of
line_told [] line h = absurd cc
line_told (a ∷ []) line h = absurd cc
line_told (a ∷ b ∷ []) line h = absurd cc
line_told (a ∷ b ∷ c ∷ []) line h = absurd cc
line_told (a ∷ b ∷ c ∷ d ∷ bytes) line h = by_prefix a b c d bytes line ((a == 64) && ((b == 80) && ((c == 74) && (d == 76)))) refl h
