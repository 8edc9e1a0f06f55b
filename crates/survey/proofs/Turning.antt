-- What comes of a fault goes by the byte at which it is seen, and leaves less to be surveyed.
use Rattle.std.proofs.Common.{◌≡◌, ◌≢◌, ℕ, ◌+◌, ◌*◌, ◌<◌, ◌≤◌, ◌==◌, ◌⊎◌, List, [], ◌∷◌, ◌++◌, length, drop, get_or, Bool, true, false}
use Rattle.std.proofs.Common.{arith, refl, inl, inr}
use Rattle.std.specs.Prelude.{⊤, ◌||◌, ◌&&◌, nat_lt, if◌then◌else◌}
use Rattle.std.proofs.lemmas.Bool.{cond_both}
use Rattle.std.specs.Int.{is_in_range}
use Rattle.pcl_items.specs.declared.pcl.command.Group.{Group}
use Rattle.pcl_items.specs.declared.fault.LexCause.{LexCause}
use Rattle.pcl_items.specs.declared.fault.LexCause.TheVariants as causes
use Rattle.pcl_items.specs.declared.fault.Name.TheVariants as names
use Rattle.pcl_items.specs.PjlLines.Exit.{exit_text}
use Rattle.pcl_lexer.specs.declared.frame.Kind.{Kind}
use Rattle.pcl_lexer.specs.declared.frame.Kind.TheVariants as kinds
use Rattle.pcl_lexer.specs.Frames.Kinds.{kind_of}
use Rattle.pcl_lexer.specs.Frames.Reader.{at_frame}
use Rattle.pcl_lexer.specs.Lexing.Contexts.{Context, Pcl, Sequence, Frame, Letters, Numbered, Pjl}
use Rattle.pcl_lexer.specs.Lexing.Firsts.{is_group_or_parameter, is_termination}
use Rattle.pcl_lexer.specs.Reader.{First, Open, Faulty, first_of}
use Rattle.survey.specs.declared.part.Count.{Count}
use Rattle.survey.specs.declared.part.Home.{Home}
use Rattle.survey.specs.declared.part.Home.TheVariants as homes
use Rattle.survey.specs.declared.part.Onto.{Onto}
use Rattle.survey.specs.declared.part.Onto.TheVariants as onto
use Rattle.survey.specs.declared.part.Part.{Part}
use Rattle.survey.specs.declared.part.Part.TheVariants as parts
use Rattle.survey.specs.declared.part.Passing.{Passing}
use Rattle.survey.specs.declared.part.Turn.{Turn}
use Rattle.survey.specs.declared.named_line.NamedLine.{NamedLine}
use Rattle.survey.specs.Passing.{taken, back, behind_escape, introduced, in_grouped, in_ungrouped, is_field_byte, by_kind, in_quoted}
use Rattle.survey.specs.Passing.{in_character, in_label, in_packed, in_line, in_foreign, passed}
use Rattle.survey.specs.Survey.{Reads, Passes, standing_of}
use Rattle.survey.specs.Turns.{fault_turn, in_page, in_lines, in_frame, by_cause, passing_at}
use Rattle.survey.specs.Carriers.Steps.{due}

-- ---- a fault

-- a byte is passed over between units
page_takes : (cause : LexCause) (place b : ℕ) → (in_page cause place b).is_taken ≡ true
page_takes cause place b = cond_both (b == 27) _ _ (λ (t : Turn). t.is_taken ≡ true) (λ _. refl) (λ _. refl)

lines_take : (cause : LexCause) (place b : ℕ) → (in_lines cause place b).is_taken ≡ true
lines_take cause place b = cond_both (b == 64) _ _ (λ (t : Turn). t.is_taken ≡ true) (λ _. refl) (λ _. page_takes cause place b)

cause_takes : (cause : LexCause) (p : Passing) → (by_cause cause p).is_taken ≡ true
cause_takes causes.Syntax p = refl
cause_takes causes.Truncated p = refl
cause_takes (causes.NotInProfile (names.Byte b)) p = refl
cause_takes (causes.NotInProfile (names.Pair a b)) p = refl
cause_takes (causes.NotInProfile (names.Command group letter)) p = refl
cause_takes causes.BadNumber p = refl
cause_takes causes.Pjl p = refl
cause_takes causes.EndInFrame p = refl

frame_takes : (cause : LexCause) (place b : ℕ) → (in_frame cause place b).is_taken ≡ true
frame_takes cause place b =
    cond_both (b == 27) _ _ (λ (t : Turn). t.is_taken ≡ true) (λ _. refl) (λ _. cause_takes cause (passing_at cause homes.Frame place))

-- whatever bytes follow, the turn is the same
pub turn_stays : (whole : Bool) (c : Context) (rest more : List ℕ) (cause : LexCause) (place : ℕ) → first_of whole c rest ≡ Faulty cause →
    fault_turn c cause place (get_or (rest ++ more) 0 0) ≡ fault_turn c cause place (get_or rest 0 0)
unfolding first_of at_frame
turn_stays whole Pcl [] more cause place e = absurd cc
turn_stays whole Pcl (b ∷ rest) more cause place e = refl
turn_stays whole (Sequence g) rest more cause place e = refl
turn_stays whole Frame [] more cause place e = absurd cc
turn_stays whole Frame (b ∷ rest) more cause place e = refl
turn_stays whole (Letters m n) rest more cause place e = refl
turn_stays whole (Numbered x gap n) rest more cause place e = refl
turn_stays whole Pjl [] more cause place e = absurd cc
turn_stays whole Pjl (b ∷ rest) more cause place e = refl

-- and it passes over no byte that is not there
pub turn_within : (whole : Bool) (c : Context) (rest : List ℕ) (cause : LexCause) (place : ℕ) → first_of whole c rest ≡ Faulty cause →
    taken (fault_turn c cause place (get_or rest 0 0)) ≤ length rest
unfolding first_of at_frame
turn_within whole Pcl [] cause place e = absurd cc
turn_within whole Pcl (b ∷ rest) cause place e =
    cond_both (in_page cause place b).is_taken 1 0 (λ n. n ≤ length (b ∷ rest)) (λ _. omega arith) (λ _. omega arith)
turn_within whole (Sequence g) rest cause place e = omega arith
turn_within whole Frame [] cause place e = absurd cc
turn_within whole Frame (b ∷ rest) cause place e =
    cond_both (in_frame cause place b).is_taken 1 0 (λ n. n ≤ length (b ∷ rest)) (λ _. omega arith) (λ _. omega arith)
turn_within whole (Letters m n) rest cause place e = omega arith
turn_within whole (Numbered x gap n) rest cause place e = omega arith
turn_within whole Pjl [] cause place e = absurd cc
turn_within whole Pjl (b ∷ rest) cause place e =
    cond_both (in_lines cause place b).is_taken 1 0 (λ n. n ≤ length (b ∷ rest)) (λ _. omega arith) (λ _. omega arith)

-- ---- what is left

pub due_onto : (next : Onto) (bytes : List ℕ) → due (standing_of next) bytes ≤ 6 * length bytes + 2
due_onto onto.Page bytes = omega arith
due_onto (onto.Group group) bytes = omega arith
due_onto onto.Frame bytes = omega arith
due_onto onto.Lines bytes = omega arith
due_onto (onto.Part part) bytes = omega arith

-- where a byte is passed over
taken_less : (is_taken : Bool) (next : Onto) (b : ℕ) (rest : List ℕ) → is_taken ≡ true →
    due (standing_of next) (drop (if is_taken then 1 else 0) (b ∷ rest)) < 6 * length (b ∷ rest)
taken_less true next b rest e = omega (arith, due_onto next rest)
taken_less false next b rest e = absurd cc

page_less : (t : Turn) (b : ℕ) (rest : List ℕ) → t.is_taken ≡ true →
    due (standing_of t.onto) (drop (taken t) (b ∷ rest)) < 6 * length (b ∷ rest)
page_less t b rest e = taken_less t.is_taken t.onto b rest e

pub turn_less : (whole : Bool) (c : Context) (rest : List ℕ) (cause : LexCause) (place : ℕ) → first_of whole c rest ≡ Faulty cause →
    due (standing_of (fault_turn c cause place (get_or rest 0 0)).onto) (drop (taken (fault_turn c cause place (get_or rest 0 0))) rest) <
    due (Reads c) rest
unfolding first_of at_frame
turn_less whole Pcl [] cause place e = absurd cc
turn_less whole Pcl (b ∷ rest) cause place e = omega (arith, page_less (in_page cause place b) b rest (page_takes cause place b))
turn_less whole (Sequence g) rest cause place e = omega arith
turn_less whole Frame [] cause place e = absurd cc
turn_less whole Frame (b ∷ rest) cause place e = omega (arith, page_less (in_frame cause place b) b rest (frame_takes cause place b))
turn_less whole (Letters m n) rest cause place e = omega arith
turn_less whole (Numbered x gap n) rest cause place e = omega arith
turn_less whole Pjl [] cause place e = absurd cc
turn_less whole Pjl (b ∷ rest) cause place e = omega (arith, page_less (in_lines cause place b) b rest (lines_take cause place b))

-- ---- a byte that is passed over

-- reading begins again between units
abbrev pub IsBack : Onto → Type 0
IsBack onto.Page = ⊤
IsBack (onto.Group group) = ⊥
IsBack onto.Frame = ⊤
IsBack onto.Lines = ⊥
IsBack (onto.Part part) = ⊥

-- the byte is passed over, or reading begins again at it
abbrev pub GoesOn : Turn → Type 0
GoesOn t = (t.is_taken ≡ true) ⊎ ((t.is_taken ≡ false) × IsBack t.onto)

home_back : (home : Home) → IsBack (back home)
home_back homes.Page = tt
home_back homes.Frame = tt

ungrouped_goes : (p : Passing) (i b : ℕ) → GoesOn (in_ungrouped p i b)
ungrouped_goes p i b =
    cond_both (is_field_byte b) _ _ GoesOn (λ _. inl refl)
    (λ _. cond_both (is_termination b) _ _ GoesOn (λ _. inl refl) (λ _. inr (refl, home_back p.home)))

introduced_goes : (p : Passing) (i b : ℕ) → GoesOn (introduced p i b)
introduced_goes p i b = cond_both (is_group_or_parameter b) _ _ GoesOn (λ _. inl refl) (λ _. ungrouped_goes p i b)

escape_goes : (p : Passing) (b : ℕ) → GoesOn (behind_escape p b)
escape_goes p b =
    cond_both (is_in_range 33 47 b) _ _ GoesOn (λ _. inl refl)
    (λ _. cond_both (is_in_range 48 126 b) _ _ GoesOn (λ _. inl refl) (λ _. inr (refl, home_back p.home)))

grouped_goes : (p : Passing) (i group : ℕ) (count : Count) (place b : ℕ) → GoesOn (in_grouped p i group count place b)
grouped_goes p i group count place b =
    cond_both (is_field_byte b) _ _ GoesOn (λ _. inl refl)
    (λ _. cond_both (is_group_or_parameter b) _ _ GoesOn (λ _. inl refl)
    (λ _. cond_both (is_termination b) _ _ GoesOn (λ _. inl refl) (λ _. inr (refl, home_back p.home))))

kind_goes : (kind : Kind) (b : ℕ) → GoesOn (by_kind kind b)
kind_goes kinds.White b = cond_both (b == 34) _ _ GoesOn (λ _. inl refl) (λ _. inl refl)
kind_goes kinds.Comma b = cond_both (b == 34) _ _ GoesOn (λ _. inl refl) (λ _. inl refl)
kind_goes kinds.Semicolon b = inr (refl, tt)
kind_goes kinds.Letter b = inr (refl, tt)
kind_goes kinds.Escape b = inr (refl, tt)
kind_goes kinds.Sign b = cond_both (b == 34) _ _ GoesOn (λ _. inl refl) (λ _. inl refl)
kind_goes kinds.Figure b = cond_both (b == 34) _ _ GoesOn (λ _. inl refl) (λ _. inl refl)
kind_goes kinds.Other b = cond_both (b == 34) _ _ GoesOn (λ _. inl refl) (λ _. inl refl)

quoted_goes : (b : ℕ) → GoesOn (in_quoted b)
quoted_goes b =
    cond_both (b == 34) _ _ GoesOn (λ _. inl refl) (λ _. cond_both (b == 27) _ _ GoesOn (λ _. inr (refl, tt)) (λ _. inl refl))

character_goes : (b : ℕ) → GoesOn (in_character b)
character_goes b = cond_both ((b == 59) || (b == 27)) _ _ GoesOn (λ _. inr (refl, tt)) (λ _. inl refl)

label_goes : (b : ℕ) → GoesOn (in_label b)
label_goes b =
    cond_both (b == 3) _ _ GoesOn (λ _. inl refl) (λ _. cond_both (b == 27) _ _ GoesOn (λ _. inr (refl, tt)) (λ _. inl refl))

packed_goes : (b : ℕ) → GoesOn (in_packed b)
packed_goes b =
    cond_both (b == 59) _ _ GoesOn (λ _. inl refl) (λ _. cond_both (b == 27) _ _ GoesOn (λ _. inr (refl, tt)) (λ _. inl refl))

line_goes : (p : Passing) (matched : ℕ) (line : NamedLine) (b : ℕ) → GoesOn (in_line p matched line b)
line_goes p matched line b = cond_both (b == 10) _ _ GoesOn (λ _. inl refl) (λ _. inl refl)

foreign_goes : (matched b : ℕ) → GoesOn (in_foreign matched b)
foreign_goes matched b =
    cond_both (nat_lt matched 9 && (b == get_or exit_text matched 0)) _ _ GoesOn
    (λ _. cond_both (matched + 1 == 9) _ _ GoesOn (λ _. inl refl) (λ _. inl refl)) (λ _. inl refl)

pub passed_goes : (part : Part) (place b : ℕ) → GoesOn (passed part place b)
passed_goes (parts.Escape p) place b = escape_goes p b
passed_goes (parts.Introduced p i) place b = introduced_goes p i b
passed_goes (parts.Grouped p i group count) place b = grouped_goes p i group count place b
passed_goes (parts.Ungrouped p i) place b = ungrouped_goes p i b
passed_goes (parts.Data home n) place b = inl refl
passed_goes (parts.Inner p i group n) place b = inl refl
passed_goes (parts.Second first second) place b = inl refl
passed_goes parts.Numbers place b = kind_goes (kind_of b) b
passed_goes parts.Quoted place b = quoted_goes b
passed_goes parts.Character place b = character_goes b
passed_goes parts.Label place b = label_goes b
passed_goes parts.Packed place b = packed_goes b
passed_goes (parts.Line p matched line) place b = line_goes p matched line b
passed_goes (parts.Foreign matched) place b = foreign_goes matched b

goes_less : (is_taken : Bool) (next : Onto) (b : ℕ) (rest : List ℕ) → (is_taken ≡ true) ⊎ ((is_taken ≡ false) × IsBack next) →
    due (standing_of next) (drop (if is_taken then 1 else 0) (b ∷ rest)) < 6 * length (b ∷ rest) + 1
goes_less is_taken next b rest (inl e) = omega (arith, taken_less is_taken next b rest e)
goes_less true next b rest (inr e) = absurd cc
goes_less false onto.Page b rest (inr e) = omega arith
goes_less false (onto.Group group) b rest (inr e) = absurd e.1
goes_less false onto.Frame b rest (inr e) = omega arith
goes_less false onto.Lines b rest (inr e) = absurd e.1
goes_less false (onto.Part part) b rest (inr e) = absurd e.1

pub passed_less : (part : Part) (place b : ℕ) (rest : List ℕ) →
    due (standing_of (passed part place b).onto) (drop (taken (passed part place b)) (b ∷ rest)) < due (Passes part) (b ∷ rest)
passed_less part place b rest =
    goes_less (passed part place b).is_taken (passed part place b).onto b rest (passed_goes part place b)

pub passed_within : (t : Turn) (b : ℕ) (rest : List ℕ) → taken t ≤ length (b ∷ rest)
passed_within t b rest = cond_both t.is_taken 1 0 (λ n. n ≤ length (b ∷ rest)) (λ _. omega arith) (λ _. omega arith)
