-- The one spelling of each line is read as that line.
use Rattle.std.proofs.Common.{◌≡◌, ℕ, ◌+◌, ◌≤◌, List, [], ◌∷◌, ◌++◌, length, take, Bool, Some, refl, sym, ap, subst, ◌∙◌, arith, codes}
use Rattle.std.specs.Prelude.{map}
use Rattle.std.proofs.lemmas.List.{append-nil, length-append}
use Rattle.pcl_items.specs.declared.pjl.Word.{Word}
use Rattle.pcl_items.specs.declared.pjl.Word.TheVariants as words
use Rattle.pcl_items.specs.Frames.Mnemonics.{capital}
use Rattle.pcl_items.specs.PjlLines.Text.{is_inside, PjlCommand, prefix, language, pcl, spelling}
use Rattle.pcl_lexer.specs.PjlLines.Syntax as rules
use Rattle.pcl_lexer.specs.PjlLines.Syntax.{Each, AreBlanks, IsWord, BeginsSolid, EndsSolid, IsEquals, IsText, AreWords, IsPjlCommand}
use Rattle.pcl_lexer.specs.PjlLines.Units as units
use Rattle.pcl_lexer.specs.PjlLines.Units.{IsPjlUnit}
use Rattle.pcl_items.specs.PjlLines.First as lines
use Rattle.pcl_items.specs.PjlLines.First.{FirstPjl, first_pjl, at_pjl}
use Rattle.pcl_items.specs.PjlLines.Canon.{behind_space, parts_of, words_text, by_parts, canon_pjl, IsSpelledPjl}
use Rattle.pcl_lexer.proofs.PjlLines.Laws.{LineCanonIsRead}
use Rattle.pcl_lexer.proofs.PjlLines.Agreement.{ends_behind, ends_front, line_told}
use Rattle.pcl_lexer.proofs.PjlLines.Spans.{each_front}
use Rattle.pcl_items.specs.PjlLines.Reader.{front, pjl_command_of}
use Rattle.std.specs.List.{prefix_len}
use Rattle.std.proofs.lemmas.List.Folds.{length-prefix_len}
use Rattle.pcl_lexer.proofs.PjlLines.Units.{unit_read, lines_by_rules}

-- ---- lists

pub each_append : (p : ℕ → Bool) (xs ys : List ℕ) → Each p xs → Each p ys → Each p (xs ++ ys)
each_append p [] ys h k = k
each_append p (x ∷ xs) ys h k = (h.0, each_append p xs ys h.1 k)

each_fore : (p : ℕ → Bool) (xs ys : List ℕ) → Each p (xs ++ ys) → Each p xs
each_fore p [] ys h = tt
each_fore p (x ∷ xs) ys h = (h.0, each_fore p xs ys h.1)

each_back : (p : ℕ → Bool) (xs ys : List ℕ) → Each p (xs ++ ys) → Each p ys
each_back p [] ys h = h
each_back p (x ∷ xs) ys h = each_back p xs ys h.1

len_map : (text : List ℕ) → length (map capital text) ≡ length text
len_map [] = refl
len_map (b ∷ text) = omega (arith, len_map text)

len_word : (capitals text : List ℕ) → IsWord capitals text → length text ≡ length capitals
len_word capitals text h = sym (len_map text) ∙ ap length h

len_sign : (sign : List ℕ) → IsEquals sign → 1 ≤ length sign
len_sign sign (rules.equals before after hb ha) = omega (arith, length-append before (61 ∷ after))

-- ---- the text of a line

-- no text, or one with no blanks at both ends
abbrev Tidy : List ℕ → Type 0
Tidy [] = Unit {0}
Tidy (b ∷ text) = BeginsSolid (b ∷ text) × EndsSolid (b ∷ text)

tidy : (text : List ℕ) → BeginsSolid text → EndsSolid text → Tidy text
tidy [] b e = tt
tidy (c ∷ text) b e = (b, e)

record Spelling (word : Word) (old : List ℕ) (line : PjlCommand) : Type 0 where
  text : List ℕ
  parts : parts_of line ≡ Some (word, text)
  is_text : IsText word text line
  is_tidy : Tidy old → Tidy text
  inside : Each is_inside old → Each is_inside text
  short : length text ≤ length old

same_text : (word : Word) (text : List ℕ) (line : PjlCommand) → parts_of line ≡ Some (word, text) → IsText word text line →
    Spelling word text line
same_text word text line e h = record { text = text; parts = e; is_text = h; is_tidy = λ t. t; inside = λ t. t; short = omega arith }

spelling_of : (word : Word) (text : List ℕ) (line : PjlCommand) → IsText word text line → Spelling word text line
spelling_of word text line rules.remark = same_text word text line refl rules.remark
spelling_of word text line rules.job = same_text word text line refl rules.job
spelling_of word text line (rules.named_job h) = same_text word text line refl (rules.named_job h)
spelling_of word text line rules.job_end = same_text word text line refl rules.job_end
spelling_of word text line (rules.named_end h) = same_text word text line refl (rules.named_end h)
spelling_of word text line (rules.enter {sign = sign} title value ht hs hv) = record {
  text = codes "LANGUAGE=PCL";
  parts = refl;
  is_text = rules.enter language pcl refl (rules.equals [] [] tt tt) refl;
  is_tidy = λ _. (refl, refl);
  inside = λ _. (refl, (refl, (refl, (refl, (refl, (refl, (refl, (refl, (refl, (refl, (refl, (refl, tt))))))))))));
  short =
      let a : length title ≡ 8 = len_word language title ht in
      let b : length value ≡ 3 = len_word pcl value hv in
      let c : 12 ≤ length (title ++ (sign ++ value)) =
      omega (arith, a, b, len_sign sign hs, length-append title (sign ++ value), length-append sign value) in
      c;
}

-- ---- its words

itself : (word : Word) → IsWord (spelling word) (spelling word)
itself words.Comment = refl
itself words.Job = refl
itself words.EndOfJob = refl
itself words.Enter = refl

made : (word : Word) (text : List ℕ) (line : PjlCommand) → IsText word text line → Tidy text → AreWords (words_text word text) line
made word [] line h t = subst (λ l. AreWords l line) (sym (append-nil (spelling word))) (rules.alone word (itself word) h)
made word (b ∷ text) line h t = rules.followed word (spelling word) 32 [] (b ∷ text) (itself word) refl tt t.0 h

ends : (word : Word) (text : List ℕ) → Tidy text → EndsSolid (words_text word text)
ends words.Comment [] t = refl
ends words.Job [] t = refl
ends words.EndOfJob [] t = refl
ends words.Enter [] t = refl
ends words.Comment (b ∷ text) t = t.1
ends words.Job (b ∷ text) t = t.1
ends words.EndOfJob (b ∷ text) t = t.1
ends words.Enter (b ∷ text) t = t.1

spelled_inside : (word : Word) → Each is_inside (spelling word)
spelled_inside words.Comment = (refl, (refl, (refl, (refl, (refl, (refl, (refl, tt)))))))
spelled_inside words.Job = (refl, (refl, (refl, tt)))
spelled_inside words.EndOfJob = (refl, (refl, (refl, tt)))
spelled_inside words.Enter = (refl, (refl, (refl, (refl, (refl, tt)))))

behind_inside : (text : List ℕ) → Each is_inside text → Each is_inside (behind_space text)
behind_inside [] h = tt
behind_inside (b ∷ text) h = (refl, h)

len_behind : (text : List ℕ) → length (behind_space text) ≤ length text + 1
len_behind [] = omega arith
len_behind (b ∷ text) = omega arith

len_none : (text : List ℕ) → length text ≤ 0 → length (behind_space text) ≡ 0
len_none [] h = refl
len_none (b ∷ text) h = absurd (omega (arith, h))

-- ---- a line

record Canonical (line : PjlCommand) (n : ℕ) : Type 0 where
  is_line : IsPjlCommand (by_parts (parts_of line)) line
  inside : Each is_inside (by_parts (parts_of line))
  short : length (by_parts (parts_of line)) ≤ n

from_words : (word : Word) (old : List ℕ) (line : PjlCommand) (n : ℕ) → Spelling word old line → Tidy old → Each is_inside old →
    ((text : List ℕ) → length text ≤ length old → length (words_text word text) + 5 ≤ n) → Canonical line n
from_words word old line n s t e l =
    let c = words_text word s.text in
    let q : by_parts (parts_of line) ≡ prefix ++ 32 ∷ c = ap by_parts s.parts in
    let is : IsPjlCommand (prefix ++ 32 ∷ (c ++ [])) line =
    rules.worded 32 [] [] refl tt (made word s.text line s.is_text (s.is_tidy t)) (ends word s.text (s.is_tidy t)) tt in
    record {
      is_line = subst (λ b. IsPjlCommand b line) (ap (λ b. prefix ++ 32 ∷ b) (append-nil c) ∙ sym q) is;
      inside = subst (Each is_inside) (sym q) (
        refl,
        (
          refl,
          (
            refl,
            (
              refl,
              (
                refl,
                each_append is_inside (spelling word) (behind_space s.text) (spelled_inside word)
                    (behind_inside s.text (s.inside e)),
              ),
            ),
          ),
        ),
      );
      short = subst (λ b. length b ≤ n) (sym q) (omega (arith, l s.text s.short));
    }

by_words : (text : List ℕ) (line : PjlCommand) (n : ℕ) → AreWords text line → EndsSolid text → Each is_inside text → length text + 5 ≤ n →
    Canonical line n
by_words text line n (rules.alone word h t) e i l =
    from_words word [] line n (spelling_of word [] line t) tt tt
    (λ more m. omega (arith, m, l, len_word (spelling word) text h, length-append (spelling word) (behind_space more), len_none more m))
by_words text line n (rules.followed word title b blanks rest h f hb s t) e i l =
    let last : EndsSolid rest = ends_behind (b ∷ blanks) rest (f, hb) (ends_front title (blanks ++ rest) b e) in
    from_words word rest line n (spelling_of word rest line t) (tidy rest s last)
    (each_back is_inside blanks rest (each_back is_inside title (b ∷ (blanks ++ rest)) i).1)
    (λ more m. omega (
      arith,
      m,
      l,
      len_word (spelling word) title h,
      length-append (spelling word) (behind_space more),
      len_behind more,
      length-append title (b ∷ (blanks ++ rest)),
      length-append blanks rest,
    ))

canonical : (text : List ℕ) (line : PjlCommand) → IsPjlCommand text line → Each is_inside text → Canonical line (length text)
canonical text line (rules.bare blanks h) i = record {
  is_line = rules.bare [] tt;
  inside = (refl, (refl, (refl, (refl, tt))));
  short = omega (arith, length-append prefix blanks);
}
canonical text line (rules.worded {words = title} b before after h hb hw he ha) i =
    by_words title line (length text) hw he
    (each_fore is_inside title after
    (each_back is_inside before (title ++ after) (each_back is_inside (64 ∷ 80 ∷ 74 ∷ 76 ∷ b ∷ []) (before ++ (title ++ after)) i)))
    (omega (arith, length-append before (title ++ after), length-append title after))

pub line_canon : (text : List ℕ) (line : PjlCommand) → LineCanonIsRead text line
line_canon text line (units.whole_line whole h e l) =
    let c = canonical whole line h e in
    let unit : IsPjlUnit (canon_pjl line) line =
    units.whole_line (by_parts (parts_of line)) c.is_line c.inside (omega (arith, l, c.short)) in
    record { spelled = unit; read = λ rest. unit_read (canon_pjl line) rest line unit }

-- a line that a text spells is read of its one spelling, and so it is one by the rules
pub spelled_line : {text : List ℕ} {line : PjlCommand} → IsPjlUnit text line → IsSpelledPjl line
spelled_line {text = text} {line = line} u =
    ap (λ l. first_pjl (at_pjl l)) (sym (append-nil (canon_pjl line))) ∙ ap first_pjl ((line_canon text line u).read [])

only_begins : (f : FirstPjl) (line : PjlCommand) → first_pjl f ≡ Some line → (len : ℕ) × (f ≡ lines.Begins line len)
only_begins lines.Open line e = absurd cc
only_begins (lines.Begins other len) line e = let same : other ≡ line = cc in (len, ap (λ l. lines.Begins l len) same)
only_begins (lines.Faulty cause) line e = absurd cc

pub canon_unit : (line : PjlCommand) → IsSpelledPjl line → IsPjlUnit (canon_pjl line) line
canon_unit line h =
    let f = only_begins (at_pjl (canon_pjl line)) line h in
    let b = (lines_by_rules (canon_pjl line)).line line f.0 f.1 in
    (line_canon b.text line b.unit).spelled

unit_short : {text : List ℕ} {line : PjlCommand} → IsPjlUnit text line → length text ≤ 1024
unit_short (units.whole_line whole h e l) = omega (arith, l, length-append whole (10 ∷ []))

pub canon_is_short : (line : PjlCommand) → IsSpelledPjl line → length (canon_pjl line) ≤ 1024
canon_is_short line h = unit_short (canon_unit line h)

-- the bytes in front of a newline that are read as a line
line_front : (bytes : List ℕ) (line : PjlCommand) → prefix_len is_inside bytes ≤ 1023 → pjl_command_of (front is_inside bytes) ≡ Some line →
    IsSpelledPjl line
line_front bytes line l e =
    spelled_line (units.whole_line (front is_inside bytes) (line_told (front is_inside bytes) line e) (each_front is_inside bytes)
    (omega (arith, l, length-prefix_len is_inside bytes)))

pub line_here : (bytes : List ℕ) (n : ℕ) (line : PjlCommand) → n ≡ prefix_len is_inside bytes → n ≤ 1023 →
    pjl_command_of (take n bytes) ≡ Some line → IsSpelledPjl line
line_here bytes n line e l k =
    line_front bytes line (omega (arith, e, l)) (subst (λ (m : ℕ). pjl_command_of (take m bytes) ≡ Some line) e k)

-- how long what stands in front and the text of a line are
pub room : (fore text : List ℕ) (line : PjlCommand) → IsSpelledPjl line → canon_pjl line ≡ fore ++ (behind_space text ++ 10 ∷ []) →
    length fore ≤ 23 → length fore + length text + 2 ≤ 1024
room fore [] line h e l = omega (arith, l)
room fore (b ∷ text) line h e l =
    omega (
      arith,
      canon_is_short line h,
      ap length e,
      length-append fore (behind_space (b ∷ text) ++ 10 ∷ []),
      length-append (behind_space (b ∷ text)) (10 ∷ []),
    )
