-- What is decided stays so, whatever bytes follow.
use Rattle.std.proofs.Common.{◌≡◌, ℕ, suc, ◌+◌, ◌<◌, ◌≤◌, List, [], ◌∷◌, ◌++◌, length, drop, take, Bool, true, false, cond, Option, Some}
use Rattle.std.proofs.Common.{None, refl, sym, ap, subst, ◌∙◌, arith, inl, inr}
use Rattle.std.specs.Prelude.{nat_lt, nat_le, ◌==◌, ◌||◌, ◌⊎◌}
use Rattle.std.specs.Char.{is_ascii_digit}
use Rattle.std.specs.List.{prefix_len}
use Rattle.std.proofs.lemmas.Bool.{cases_lt, lt-ltb, le-ltb, cond-false, cond-true}
use Rattle.std.proofs.lemmas.List.{take-append-le, drop-append-le, length-append, length-drop, drop_all}
use Rattle.std.proofs.lemmas.List.Folds.{length-prefix_len}
use Rattle.pcl_items.specs.declared.number.Sign.{Sign}
use Rattle.pcl_items.specs.declared.number.Sign.TheVariants.{Absent, Plus, Minus}
use Rattle.pcl_items.specs.declared.pcl.command.Group.{Group}
use Rattle.pcl_items.specs.declared.pcl.command.DataCommand.{DataCommand}
use Rattle.pcl_lexer.specs.declared.frame.Kind.{Kind}
use Rattle.pcl_lexer.specs.declared.frame.Kind.TheVariants as kinds
use Rattle.pcl_items.specs.declared.frame.Mnemonic.{Mnemonic}
use Rattle.pcl_items.specs.declared.frame.Mnemonic.TheVariants as mnemonics
use Rattle.pcl_lexer.specs.declared.frame.Gap.{Gap}
use Rattle.pcl_lexer.specs.declared.frame.Gap.TheVariants as gaps
use Rattle.pcl_lexer.specs.Lexing.Contexts.{Context, Pcl, Sequence, Frame, Letters, Numbered, Pjl, Numbers, Single, Odd, Even}
use Rattle.pcl_lexer.specs.Frames.Kinds.{kind_of}
use Rattle.pcl_lexer.specs.Frames.Number.{coordinate_of, setting_of, Numeral, Cut, Wrong, Read, has_digit, number_end, numeral_at}
use Rattle.pcl_lexer.specs.Frames.Reader.{after_language_field, language_in, after_letter, after_frame_escape, by_kind, at_frame, single}
use Rattle.pcl_lexer.specs.Frames.Reader.{first_of_pair, second_of_pair, first_number, letters_by, after_letters, further, by_figure}
use Rattle.pcl_lexer.specs.Frames.Reader.{numbers_by, after_numbers}
use Rattle.pcl_items.specs.declared.fault.LexCause.TheVariants.{BadNumber}
use Rattle.pcl_items.specs.Escapes.Commands.{group_at, data_command_at}
use Rattle.pcl_items.specs.Escapes.Value.{Amount}
use Rattle.pcl_items.specs.Items.{Entry, WithData, ExitLanguage}
use Rattle.pcl_lexer.specs.Escapes.Ungrouped.{count_of}
use Rattle.pcl_items.specs.Escapes.Codes.{control_at, sequence_at}
use Rattle.pcl_lexer.specs.Escapes.Field.{Field, field_at, amount_of, digits, sign_at, sign_len, has_point}
use Rattle.pcl_lexer.specs.Reader.{First, Open, Passes, Begins, Faulty, behind, with_data, by_last_letter, by_last_byte, after_field}
use Rattle.pcl_lexer.specs.Reader.{command_in, is_group_or_parameter, is_termination, after_ungrouped_field, without_group, in_group}
use Rattle.pcl_lexer.specs.Reader.{after_introducer, after_parenthesis, by_character, after_escape, by_code, between_units, by_pjl, exit_or}
use Rattle.pcl_lexer.specs.Reader.{first_of}
use Rattle.pcl_lexer.specs.Laws.{StaysDecided}
use Rattle.pcl_items.specs.PjlLines.Exit.{exit_field, begins_with}
use Rattle.pcl_items.specs.PjlLines.First.{at_pjl}
use Rattle.pcl_lexer.proofs.PjlLines.Exits.{begins_more, exit_waits, frame_exit_waits}
use Rattle.pcl_lexer.proofs.PjlLines.Units.{line_stays}

-- ---- digits

stays_by : (b : Bool) (m n len : ℕ) → (m < len → n ≡ m) → cond b (1 + m) 0 < suc len → cond b (1 + n) 0 ≡ cond b (1 + m) 0
stays_by true m n len f h = ap (λ k. 1 + k) (f (omega arith))
stays_by false m n len f h = refl

prefix_len-stays : (p : ℕ → Bool) (xs ys : List ℕ) → prefix_len p xs < length xs → prefix_len p (xs ++ ys) ≡ prefix_len p xs
prefix_len-stays p [] ys h = absurd (omega arith)
prefix_len-stays p (x ∷ xs) ys h =
    stays_by (p x) (prefix_len p xs) (prefix_len p (xs ++ ys)) (length xs) (λ k. prefix_len-stays p xs ys k) h

grows_by : (b : Bool) (m n : ℕ) → m ≤ n → cond b (1 + m) 0 ≤ cond b (1 + n) 0
grows_by true m n h = omega arith
grows_by false m n h = omega arith

prefix_len-grows : (p : ℕ → Bool) (xs ys : List ℕ) → prefix_len p xs ≤ prefix_len p (xs ++ ys)
prefix_len-grows p [] ys = omega arith
prefix_len-grows p (x ∷ xs) ys = grows_by (p x) (prefix_len p xs) (prefix_len p (xs ++ ys)) (prefix_len-grows p xs ys)

digits-stay : (xs ys : List ℕ) → length (digits xs) < length xs → digits (xs ++ ys) ≡ digits xs
digits-stay xs ys h =
    let within : prefix_len is_ascii_digit xs < length xs = omega (arith, length-prefix_len is_ascii_digit xs) in
    let below : prefix_len is_ascii_digit xs ≤ length xs = omega arith in
    ap (λ n. take n (xs ++ ys)) (prefix_len-stays is_ascii_digit xs ys within) ∙ take-append-le (prefix_len is_ascii_digit xs) xs ys below

digits-grow : (xs ys : List ℕ) → length (digits xs) ≤ length (digits (xs ++ ys))
digits-grow xs ys =
    omega (arith, length-prefix_len is_ascii_digit xs, length-prefix_len is_ascii_digit (xs ++ ys), prefix_len-grows is_ascii_digit xs ys)

-- ---- fields

sign-stays : (xs ys : List ℕ) → 0 < length xs → sign_at (xs ++ ys) ≡ sign_at xs
sign-stays [] ys h = absurd (omega arith)
sign-stays (x ∷ xs) ys h = refl

point-stays : (xs ys : List ℕ) → 0 < length xs → has_point (xs ++ ys) ≡ has_point xs
point-stays [] ys h = absurd (omega arith)
point-stays (x ∷ xs) ys h = refl

-- a field of its parts
abbrev made : Sign → List ℕ → Bool → List ℕ → Field
made s w p d =
    cond p (record { sign = s; whole = w; decimals = d; len = sign_len s + length w + 1 + length d })
    (record { sign = s; whole = w; decimals = []; len = sign_len s + length w })

sign_of : (b : Bool) (s : Sign) (w d : List ℕ) → (made s w b d).len ≡ sign_len s + length w + cond b (1 + length d) 0
sign_of true s w d = omega arith
sign_of false s w d = omega arith

same_made : (b : Bool) (s t : Sign) (w v d e : List ℕ) → t ≡ s → v ≡ w → (b ≡ true → e ≡ d) → made t v b e ≡ made s w b d
same_made true s t w v d e p q r = λ i. made (p i) (q i) true (r refl i)
same_made false s t w v d e p q r = λ i. made (p i) (q i) false d

field-stays : (xs ys : List ℕ) → (field_at xs).len < length xs → field_at (xs ++ ys) ≡ field_at xs
unfolding field_at
field-stays xs ys h =
    let s = sign_at xs in
    let a = sign_len s in
    let w = digits (drop a xs) in
    let b = a + length w in
    let d = digits (drop (b + 1) xs) in
    let p = has_point (drop b xs) in
    let len-is : (made s w p d).len ≡ a + length w + cond p (1 + length d) 0 = sign_of p s w d in
    let inside : b < length xs = omega arith in
    let e1 : sign_at (xs ++ ys) ≡ s = sign-stays xs ys (omega arith) in
    let small : a ≤ length xs = omega arith in
    let e2 : digits (drop (sign_len (sign_at (xs ++ ys))) (xs ++ ys)) ≡ w =
    ap (λ t. digits (drop (sign_len t) (xs ++ ys))) e1 ∙ ap digits (drop-append-le a xs ys small)
    ∙ digits-stay (drop a xs) ys (omega (arith, length-drop a xs)) in
    let e3 : sign_len (sign_at (xs ++ ys)) + length (digits (drop (sign_len (sign_at (xs ++ ys))) (xs ++ ys))) ≡ b =
    ap (λ t. sign_len t + length (digits (drop (sign_len (sign_at (xs ++ ys))) (xs ++ ys)))) e1 ∙ ap (λ v. a + length v) e2 in
    let below : b ≤ length xs = omega arith in
    let e4 :
    has_point (drop (sign_len (sign_at (xs ++ ys)) + length (digits (drop (sign_len (sign_at (xs ++ ys))) (xs ++ ys)))) (xs ++ ys)) ≡ p =
    ap (λ n. has_point (drop n (xs ++ ys))) e3 ∙ ap has_point (drop-append-le b xs ys below)
    ∙ point-stays (drop b xs) ys (omega (arith, length-drop b xs)) in
    let after : b + 1 ≤ length xs = omega arith in
    let e5 : p ≡ true →
    digits (drop (sign_len (sign_at (xs ++ ys)) + length (digits (drop (sign_len (sign_at (xs ++ ys))) (xs ++ ys))) + 1) (xs ++ ys)) ≡ d =
    λ (t : p ≡ true).
    let full : (made s w p d).len ≡ b + (1 + length d) = len-is ∙ ap (λ q. b + cond q (1 + length d) 0) t in
    ap (λ n. digits (drop (n + 1) (xs ++ ys))) e3 ∙ ap digits (drop-append-le (b + 1) xs ys after)
    ∙ digits-stay (drop (b + 1) xs) ys (omega (arith, length-drop (b + 1) xs)) in
    ap
    (λ q. made (sign_at (xs ++ ys)) (digits (drop (sign_len (sign_at (xs ++ ys))) (xs ++ ys))) q
    (digits (drop (sign_len (sign_at (xs ++ ys)) + length (digits (drop (sign_len (sign_at (xs ++ ys))) (xs ++ ys))) + 1) (xs ++ ys))))
    e4
    ∙ same_made p s (sign_at (xs ++ ys)) w (digits (drop (sign_len (sign_at (xs ++ ys))) (xs ++ ys))) d
    (digits (drop (sign_len (sign_at (xs ++ ys)) + length (digits (drop (sign_len (sign_at (xs ++ ys))) (xs ++ ys))) + 1) (xs ++ ys))) e1 e2
    e5

grown : (p q : Bool) (w v d e a m n : ℕ) → m ≡ a + w + cond p (1 + d) 0 → n ≡ a + v + cond q (1 + e) 0 → w ≤ v →
    (p ≡ true → (q ≡ true) × (d ≤ e)) → m ≤ n
grown true true w v d e a m n f g h k = omega (arith, (k refl).1)
grown true false w v d e a m n f g h k = let no : false ≡ true = (k refl).0 in absurd cc
grown false q w v d e a m n f g h k = omega arith

point_within : (n : ℕ) (xs : List ℕ) → has_point (drop n xs) ≡ true → n < length xs
point_within n xs e = go (cases_lt n (length xs))
  where
    go : (n < length xs) ⊎ (length xs ≤ n) → n < length xs
    go (inl lt) = lt
    go (inr le) = let none : has_point [] ≡ true = ap has_point (sym (drop_all n xs le)) ∙ e in absurd cc

short_sign : (s : Sign) → sign_len s ≤ 1
short_sign Absent = omega arith
short_sign Plus = omega arith
short_sign Minus = omega arith

-- a field that goes to the end of the bytes may grow
pub field-grows : (xs ys : List ℕ) → (field_at xs).len ≤ (field_at (xs ++ ys)).len
unfolding field_at
field-grows [] ys = omega arith
field-grows (x ∷ rest) ys =
    let xs : List ℕ = x ∷ rest in
    let zs : List ℕ = xs ++ ys in
    let s = sign_at xs in
    let a = sign_len s in
    let w = digits (drop a xs) in
    let b = a + length w in
    let d = digits (drop (b + 1) xs) in
    let p = has_point (drop b xs) in
    let w' = digits (drop a zs) in
    let b' = a + length w' in
    let d' = digits (drop (b' + 1) zs) in
    let p' = has_point (drop b' zs) in
    let small : a ≤ length xs = omega (arith, short_sign s) in
    let wider : length w ≤ length w' = rw drop-append-le (digits-grow (drop a xs) ys) in
    let len : (made s w p d).len ≡ a + length w + cond p (1 + length d) 0 = sign_of p s w d in
    let len' : (made s w' p' d').len ≡ a + length w' + cond p' (1 + length d') 0 = sign_of p' s w' d' in
    grown p p' (length w) (length w') (length d) (length d') a (made s w p d).len (made s w' p' d').len len len' wider (λ t.
    let inside : b < length xs = point_within b xs t in
    let below : b ≤ length xs = omega arith in
    let after : b + 1 ≤ length xs = omega arith in
    let e2 : w' ≡ w = ap digits (drop-append-le a xs ys small) ∙ digits-stay (drop a xs) ys (omega (arith, length-drop a xs)) in
    let e3 : b' ≡ b = ap (λ v. a + length v) e2 in
    let e4 : p' ≡ p =
    ap (λ n. has_point (drop n zs)) e3 ∙ ap has_point (drop-append-le b xs ys below)
    ∙ point-stays (drop b xs) ys (omega (arith, length-drop b xs)) in
    let e5 : d' ≡ digits (drop (b + 1) xs ++ ys) = ap (λ n. digits (drop (n + 1) zs)) e3 ∙ ap digits (drop-append-le (b + 1) xs ys after) in
    (e4 ∙ t, rw e5 (digits-grow (drop (b + 1) xs) ys)))

-- ---- what stands first

-- y has what x has decided
abbrev Keeps : First → First → Type 0
Keeps x y = (x ≡ Open → ⊥) → y ≡ x

keeps_cond : (b : Bool) (x x' y y' : First) → Keeps x x' → Keeps y y' → Keeps (cond b x y) (cond b x' y')
keeps_cond true x x' y y' f g = f
keeps_cond false x x' y y' f g = g

keeps_same : (x : First) → Keeps x x
keeps_same x h = refl

keeps_behind : (n : ℕ) (x y : First) → Keeps x y → Keeps (behind n x) (behind n y)
keeps_behind n Open y f h = absurd (h refl)
keeps_behind n (Passes len next) y f h = ap (behind n) (f (λ e. absurd cc))
keeps_behind n (Begins item len next) y f h = ap (behind n) (f (λ e. absurd cc))
keeps_behind n (Faulty cause) y f h = ap (behind n) (f (λ e. absurd cc))

-- data that are all there stay the same, whatever bytes follow
keeps_with_data : (d : DataCommand) (o : Option ℕ) (len : ℕ) (xs ys : List ℕ) → Keeps (with_data d o len xs) (with_data d o len (xs ++ ys))
keeps_with_data d None len xs ys = keeps_same _
keeps_with_data d (Some n) len xs ys = go (cases_lt (length xs) n)
  where
    go : (length xs < n) ⊎ (n ≤ length xs) → Keeps (with_data d (Some n) len xs) (with_data d (Some n) len (xs ++ ys))
    go (inl short) = λ h. absurd (h (cond-true (nat_lt (length xs) n) _ _ (lt-ltb (length xs) n short)))
    go (inr all) = λ _.
        let more : n ≤ length (xs ++ ys) = omega (arith, length-append xs ys, all) in
        cond-false (nat_lt (length (xs ++ ys)) n) _ _ (le-ltb (length (xs ++ ys)) n more)
        ∙ ap (λ l. Begins (WithData d l) (len + n) Pcl) (take-append-le n xs ys all)
        ∙ sym (cond-false (nat_lt (length xs) n) _ _ (le-ltb (length xs) n all))

keeps_by_last_letter : (o : Option DataCommand) (g : Group) (c : ℕ) (a : Amount) (len : ℕ) (xs ys : List ℕ) →
    Keeps (by_last_letter o g c a len xs) (by_last_letter o g c a len (xs ++ ys))
keeps_by_last_letter None g c a len xs ys = keeps_same _
keeps_by_last_letter (Some d) g c a len xs ys = keeps_with_data d (count_of a) len xs ys

keeps_by_last_byte : (o : Option Amount) (g : Group) (len c : ℕ) (xs ys : List ℕ) →
    Keeps (by_last_byte o g len c xs) (by_last_byte o g len c (xs ++ ys))
keeps_by_last_byte None g len c xs ys = keeps_same _
keeps_by_last_byte (Some a) g len c xs ys =
    keeps_cond (is_group_or_parameter c) _ _ _ _ (keeps_same _)
    (keeps_cond (is_termination c) _ _ _ _ (keeps_by_last_letter (data_command_at g c) g c a (len + 1) xs ys) (keeps_same _))

keeps_after_field : (g : Group) (f : Field) (xs ys : List ℕ) → Keeps (after_field g f xs) (after_field g f (xs ++ ys))
keeps_after_field g f [] ys h = absurd (h refl)
keeps_after_field g f (x ∷ xs) ys h = keeps_by_last_byte (amount_of f) g f.len x xs ys h

keeps_after_ungrouped_field : (i : ℕ) (f : Field) (xs ys : List ℕ) →
    Keeps (after_ungrouped_field i f xs) (after_ungrouped_field i f (xs ++ ys))
keeps_after_ungrouped_field i f [] ys h = absurd (h refl)
keeps_after_ungrouped_field i f (x ∷ xs) ys h = refl

-- a field that ends before the bytes do stays as it is; one that goes to their end may grow
keeps_field : (next : Field → List ℕ → First) (xs ys : List ℕ) → ((f : Field) (us vs : List ℕ) → Keeps (next f us) (next f (us ++ vs))) →
    ((f : Field) → next f [] ≡ Open) →
    Keeps (cond (nat_lt 16 (field_at xs).len) (Faulty BadNumber) (next (field_at xs) (drop (field_at xs).len xs)))
    (cond (nat_lt 16 (field_at (xs ++ ys)).len) (Faulty BadNumber) (next (field_at (xs ++ ys)) (drop (field_at (xs ++ ys)).len (xs ++ ys))))
keeps_field next xs ys kept at_end = go (cases_lt (field_at xs).len (length xs))
  where
    go : ((field_at xs).len < length xs) ⊎ (length xs ≤ (field_at xs).len) →
        Keeps (cond (nat_lt 16 (field_at xs).len) (Faulty BadNumber) (next (field_at xs) (drop (field_at xs).len xs)))
        (cond (nat_lt 16 (field_at (xs ++ ys)).len) (Faulty BadNumber)
        (next (field_at (xs ++ ys)) (drop (field_at (xs ++ ys)).len (xs ++ ys))))
    go (inl short) =
        let below : (field_at xs).len ≤ length xs = omega arith in
        let e = field-stays xs ys short in
        subst
        (λ (f : Field). Keeps (cond (nat_lt 16 (field_at xs).len) (Faulty BadNumber) (next (field_at xs) (drop (field_at xs).len xs)))
        (cond (nat_lt 16 f.len) (Faulty BadNumber) (next f (drop f.len (xs ++ ys)))))
        (sym e)
        (subst
        (λ (l : List ℕ). Keeps (cond (nat_lt 16 (field_at xs).len) (Faulty BadNumber) (next (field_at xs) (drop (field_at xs).len xs)))
        (cond (nat_lt 16 (field_at xs).len) (Faulty BadNumber) (next (field_at xs) l)))
        (sym (drop-append-le (field_at xs).len xs ys below))
        (keeps_cond (nat_lt 16 (field_at xs).len) _ _ _ _ (keeps_same _) (kept (field_at xs) (drop (field_at xs).len xs) ys)))
    go (inr all) = by_length (cases_lt 16 (field_at xs).len)
      where
        by_length : (16 < (field_at xs).len) ⊎ ((field_at xs).len ≤ 16) →
            Keeps (cond (nat_lt 16 (field_at xs).len) (Faulty BadNumber) (next (field_at xs) (drop (field_at xs).len xs)))
            (cond (nat_lt 16 (field_at (xs ++ ys)).len) (Faulty BadNumber)
            (next (field_at (xs ++ ys)) (drop (field_at (xs ++ ys)).len (xs ++ ys))))
        by_length (inl long) =
            let longer : 16 < (field_at (xs ++ ys)).len = omega (arith, field-grows xs ys) in
            rw (lt-ltb 16 (field_at xs).len long, lt-ltb 16 (field_at (xs ++ ys)).len longer) (keeps_same (Faulty BadNumber))
        by_length (inr fits) =
            λ h. absurd (h (rw (le-ltb 16 (field_at xs).len fits, drop_all (field_at xs).len xs all) (at_end (field_at xs))))

keeps_command_in : (g : Group) (xs ys : List ℕ) → Keeps (command_in g xs) (command_in g (xs ++ ys))
unfolding command_in
keeps_command_in g xs ys = keeps_field (after_field g) xs ys (λ f us vs. keeps_after_field g f us vs) (λ f. refl)

keeps_without_group : (i : ℕ) (xs ys : List ℕ) → Keeps (without_group i xs) (without_group i (xs ++ ys))
unfolding without_group
keeps_without_group i xs ys = keeps_field (after_ungrouped_field i) xs ys (λ f us vs. keeps_after_ungrouped_field i f us vs) (λ f. refl)

-- the universal exit, whose fronts decide nothing
keeps_exit : (other : List ℕ → First) (xs ys : List ℕ) →
    (begins_with exit_field xs ≡ false → begins_with exit_field (xs ++ ys) ≡ true → other xs ≡ Open) → Keeps (other xs) (other (xs ++ ys)) →
    Keeps (exit_or (other xs) xs) (exit_or (other (xs ++ ys)) (xs ++ ys))
keeps_exit other xs ys waits k = go (begins_with exit_field xs) refl (begins_with exit_field (xs ++ ys)) refl
  where
    go : (a : Bool) → begins_with exit_field xs ≡ a → (b : Bool) → begins_with exit_field (xs ++ ys) ≡ b →
        Keeps (cond a (Begins ExitLanguage 9 Pjl) (other xs)) (cond b (Begins ExitLanguage 9 Pjl) (other (xs ++ ys)))
    go true e true d = keeps_same _
    go true e false d = let both : true ≡ false = sym (begins_more exit_field xs ys e) ∙ d in absurd cc
    go false e true d = λ h. absurd (h (waits e d))
    go false e false d = k

keeps_in_group : (o : Option Group) (i c : ℕ) (xs ys : List ℕ) → Keeps (in_group o i c xs) (in_group o i c (xs ++ ys))
keeps_in_group None i c xs ys = keeps_same _
keeps_in_group (Some g) i c xs ys = keeps_behind 3 (command_in g xs) (command_in g (xs ++ ys)) (keeps_command_in g xs ys)

keeps_after_introducer : (i : ℕ) (xs ys : List ℕ) → Keeps (after_introducer i xs) (after_introducer i (xs ++ ys))
unfolding after_introducer
keeps_after_introducer i [] ys = λ h. absurd (h refl)
keeps_after_introducer i (c ∷ xs) ys = keeps_cond (is_group_or_parameter c) _ _ _ _ (keeps_in_group (group_at i c) i c xs ys) (keeps_same _)

keeps_after_parenthesis : (xs ys : List ℕ) → Keeps (after_parenthesis xs) (after_parenthesis (xs ++ ys))
unfolding after_parenthesis
keeps_after_parenthesis [] ys = λ h. absurd (h refl)
keeps_after_parenthesis (c ∷ xs) ys =
    keeps_cond (is_group_or_parameter c) _ _ _ _ (keeps_in_group (group_at 40 c) 40 c xs ys) (keeps_without_group 40 (c ∷ xs) ys)

keeps_by_character : (o : Option Entry) (b : ℕ) (xs ys : List ℕ) → Keeps (by_character o b xs) (by_character o b (xs ++ ys))
keeps_by_character (Some item) b xs ys = keeps_same _
keeps_by_character None b xs ys =
    keeps_cond ((b == 38) || (b == 42)) _ _ _ _ (keeps_after_introducer b xs ys)
    (keeps_cond (b == 40) _ _ _ _ (keeps_after_parenthesis xs ys)
    (keeps_cond (b == 37) _ _ _ _ (keeps_exit (without_group 37) xs ys (exit_waits xs ys) (keeps_without_group 37 xs ys)) (keeps_same _)))

keeps_after_escape : (xs ys : List ℕ) → Keeps (after_escape xs) (after_escape (xs ++ ys))
unfolding after_escape
keeps_after_escape [] ys = λ h. absurd (h refl)
keeps_after_escape (b ∷ xs) ys = keeps_by_character (sequence_at b) b xs ys

keeps_by_code : (o : Option Entry) (b : ℕ) (xs ys : List ℕ) → Keeps (by_code o b xs) (by_code o b (xs ++ ys))
keeps_by_code (Some item) b xs ys = keeps_same _
keeps_by_code None b xs ys = keeps_cond (b == 27) _ _ _ _ (keeps_after_escape xs ys) (keeps_same _)

keeps_after_language_field : (f : Field) (xs ys : List ℕ) → Keeps (after_language_field f xs) (after_language_field f (xs ++ ys))
keeps_after_language_field f [] ys h = absurd (h refl)
keeps_after_language_field f (x ∷ xs) ys h = refl

keeps_language_in : (xs ys : List ℕ) → Keeps (language_in xs) (language_in (xs ++ ys))
unfolding language_in
keeps_language_in xs ys = keeps_field after_language_field xs ys (λ f us vs. keeps_after_language_field f us vs) (λ f. refl)

-- ---- the numbers of a frame

abbrev KeepsNumeral : {A : Type 0} → Numeral A → Numeral A → Type 0
KeepsNumeral x y = (x ≡ Cut → ⊥) → y ≡ x

abbrev Ending : {A : Type 0} → (Field → Option A) → Bool → Field → List ℕ → Numeral A
Ending value whole f rest = cond (nat_lt 16 f.len) (Wrong BadNumber) (number_end whole (has_digit f) (value f) f.len rest)

keeps_ending : {A : Type 0} (value : Field → Option A) (whole : Bool) (f : Field) (xs ys : List ℕ) →
    KeepsNumeral (Ending value false f xs) (Ending value whole f (xs ++ ys))
keeps_ending value whole f xs ys = by_length (nat_lt 16 f.len) xs
  where
    by_length : (b : Bool) (xs : List ℕ) →
        KeepsNumeral (cond b (Wrong BadNumber) (number_end false (has_digit f) (value f) f.len xs))
        (cond b (Wrong BadNumber) (number_end whole (has_digit f) (value f) f.len (xs ++ ys)))
    by_length true xs h = refl
    by_length false [] h = absurd (h refl)
    by_length false (x ∷ xs) h = refl

keeps_numeral : {A : Type 0} (value : Field → Option A) (whole : Bool) (xs ys : List ℕ) →
    KeepsNumeral (numeral_at value false xs) (numeral_at value whole (xs ++ ys))
unfolding numeral_at
keeps_numeral value whole xs ys = go (cases_lt (field_at xs).len (length xs))
  where
    go : ((field_at xs).len < length xs) ⊎ (length xs ≤ (field_at xs).len) →
        KeepsNumeral (Ending value false (field_at xs) (drop (field_at xs).len xs))
        (Ending value whole (field_at (xs ++ ys)) (drop (field_at (xs ++ ys)).len (xs ++ ys)))
    go (inl short) =
        let below : (field_at xs).len ≤ length xs = omega arith in
        let e = field-stays xs ys short in
        subst
        (λ (f : Field).
        KeepsNumeral (Ending value false (field_at xs) (drop (field_at xs).len xs)) (Ending value whole f (drop f.len (xs ++ ys))))
        (sym e)
        (subst
        (λ (l : List ℕ). KeepsNumeral (Ending value false (field_at xs) (drop (field_at xs).len xs)) (Ending value whole (field_at xs) l))
        (sym (drop-append-le (field_at xs).len xs ys below))
        (keeps_ending value whole (field_at xs) (drop (field_at xs).len xs) ys))
    go (inr all) = by_length (cases_lt 16 (field_at xs).len)
      where
        by_length : (16 < (field_at xs).len) ⊎ ((field_at xs).len ≤ 16) →
            KeepsNumeral (Ending value false (field_at xs) (drop (field_at xs).len xs))
            (Ending value whole (field_at (xs ++ ys)) (drop (field_at (xs ++ ys)).len (xs ++ ys)))
        by_length (inl long) =
            let longer : 16 < (field_at (xs ++ ys)).len = omega (arith, field-grows xs ys) in
            λ h. cond-true (nat_lt 16 (field_at (xs ++ ys)).len) _ _ (lt-ltb 16 (field_at (xs ++ ys)).len longer)
            ∙ sym (cond-true (nat_lt 16 (field_at xs).len) _ _ (lt-ltb 16 (field_at xs).len long))
        by_length (inr fits) =
            λ h. absurd (h
            (cond-false (nat_lt 16 (field_at xs).len) _ _ (le-ltb 16 (field_at xs).len fits)
            ∙ ap (λ l. number_end false (has_digit (field_at xs)) (value (field_at xs)) (field_at xs).len l)
            (drop_all (field_at xs).len xs all)))

-- what a number makes stands where the number does
keeps_made : {A : Type 0} (make : Numeral A → First) (x y : Numeral A) → make Cut ≡ Open → KeepsNumeral x y → Keeps (make x) (make y)
keeps_made make Cut y none k h = absurd (h none)
keeps_made make (Wrong cause) y none k h = ap make (k (λ e. absurd cc))
keeps_made make (Read value len) y none k h = ap make (k (λ e. absurd cc))

-- ---- a frame

keeps_second_letter : (a : ℕ) (xs ys : List ℕ) → Keeps (after_letter a xs) (after_letter a (xs ++ ys))
keeps_second_letter a [] ys = λ h. absurd (h refl)
keeps_second_letter a (b ∷ xs) ys = keeps_same _

keeps_frame_escape : (xs ys : List ℕ) → Keeps (after_frame_escape xs) (after_frame_escape (xs ++ ys))
keeps_frame_escape [] ys = λ h. absurd (h refl)
keeps_frame_escape (b ∷ xs) ys =
    keeps_cond (b == 69) _ _ _ _ (keeps_same _)
    (keeps_cond (b == 37) _ _ _ _ (keeps_exit language_in xs ys (frame_exit_waits xs ys) (keeps_language_in xs ys)) (keeps_same _))

keeps_kind : (k : Kind) (b : ℕ) (xs ys : List ℕ) → Keeps (by_kind k b xs) (by_kind k b (xs ++ ys))
keeps_kind kinds.Letter b xs ys = keeps_second_letter b xs ys
keeps_kind kinds.Escape b xs ys = keeps_frame_escape xs ys
keeps_kind kinds.White b xs ys = keeps_same _
keeps_kind kinds.Comma b xs ys = keeps_same _
keeps_kind kinds.Semicolon b xs ys = keeps_same _
keeps_kind kinds.Sign b xs ys = keeps_same _
keeps_kind kinds.Figure b xs ys = keeps_same _
keeps_kind kinds.Other b xs ys = keeps_same _

keeps_first_number : (whole : Bool) (m : Mnemonic) (n : ℕ) (xs ys : List ℕ) →
    Keeps (first_number false m n xs) (first_number whole m n (xs ++ ys))
keeps_first_number whole mnemonics.Initialize n xs ys = keeps_same _
keeps_first_number whole (mnemonics.Sets setting) n xs ys =
    keeps_made (single n (λ a. Single setting a)) _ _ refl (keeps_numeral setting_of whole xs ys)
keeps_first_number whole (mnemonics.Moves motion) n xs ys =
    keeps_made (first_of_pair n motion) _ _ refl (keeps_numeral coordinate_of whole xs ys)

keeps_letters : (k : Kind) (whole : Bool) (m : Mnemonic) (n : ℕ) (xs ys : List ℕ) →
    Keeps (letters_by k false m n xs) (letters_by k whole m n (xs ++ ys))
keeps_letters kinds.White whole m n xs ys = keeps_same _
keeps_letters kinds.Semicolon whole m n xs ys = keeps_same _
keeps_letters kinds.Letter whole m n xs ys = keeps_same _
keeps_letters kinds.Escape whole m n xs ys = keeps_same _
keeps_letters kinds.Sign whole m n xs ys = keeps_first_number whole m n xs ys
keeps_letters kinds.Figure whole m n xs ys = keeps_first_number whole m n xs ys
keeps_letters kinds.Comma whole m n xs ys = keeps_same _
keeps_letters kinds.Other whole m n xs ys = keeps_same _

keeps_further : (whole : Bool) (x : Numbers) (xs ys : List ℕ) → Keeps (further false x xs) (further whole x (xs ++ ys))
keeps_further whole (Single setting a) xs ys = keeps_same _
keeps_further whole (Odd motion x) xs ys = keeps_made (second_of_pair motion x) _ _ refl (keeps_numeral coordinate_of whole xs ys)
keeps_further whole (Even motion) xs ys = keeps_made (first_of_pair 0 motion) _ _ refl (keeps_numeral coordinate_of whole xs ys)

keeps_figure : (whole : Bool) (x : Numbers) (gap : Gap) (xs ys : List ℕ) →
    Keeps (by_figure false x gap xs) (by_figure whole x gap (xs ++ ys))
keeps_figure whole x gaps.Straight xs ys = keeps_same _
keeps_figure whole x gaps.Spaced xs ys = keeps_further whole x xs ys
keeps_figure whole x gaps.Comma xs ys = keeps_further whole x xs ys

keeps_numbers : (k : Kind) (whole : Bool) (x : Numbers) (gap : Gap) (n : ℕ) (xs ys : List ℕ) →
    Keeps (numbers_by k false x gap n xs) (numbers_by k whole x gap n (xs ++ ys))
keeps_numbers kinds.White whole x gap n xs ys = keeps_same _
keeps_numbers kinds.Comma whole x gap n xs ys = keeps_same _
keeps_numbers kinds.Semicolon whole x gap n xs ys = keeps_same _
keeps_numbers kinds.Letter whole x gap n xs ys = keeps_same _
keeps_numbers kinds.Escape whole x gap n xs ys = keeps_same _
keeps_numbers kinds.Sign whole x gap n xs ys = keeps_further whole x xs ys
keeps_numbers kinds.Figure whole x gap n xs ys = keeps_figure whole x gap xs ys
keeps_numbers kinds.Other whole x gap n xs ys = keeps_same _

-- ---- mode PJL

keeps_between : (b : ℕ) (xs ys : List ℕ) → Keeps (between_units b xs) (between_units b (xs ++ ys))
keeps_between b xs ys = keeps_cond (nat_le 32 b) _ _ _ _ (keeps_same _) (keeps_by_code (control_at b) b xs ys)

keeps_line : (xs ys : List ℕ) → Keeps (by_pjl (at_pjl xs)) (by_pjl (at_pjl (xs ++ ys)))
keeps_line xs ys h = ap by_pjl (line_stays xs ys (λ e. h (ap by_pjl e)))

pub stays_decided : (c : Context) (bytes : List ℕ) → StaysDecided c bytes
unfolding first_of at_frame after_letters after_numbers
stays_decided Pcl [] whole more = λ h. absurd (h refl)
stays_decided Pcl (b ∷ bytes) whole more = keeps_between b bytes more
stays_decided (Sequence g) bytes whole more = keeps_command_in g bytes more
stays_decided Frame [] whole more = λ h. absurd (h refl)
stays_decided Frame (b ∷ bytes) whole more = keeps_kind (kind_of b) b bytes more
stays_decided (Letters m n) [] whole more = λ h. absurd (h refl)
stays_decided (Letters m n) (b ∷ bytes) whole more = keeps_letters (kind_of b) whole m n (b ∷ bytes) more
stays_decided (Numbered x gap n) [] whole more = λ h. absurd (h refl)
stays_decided (Numbered x gap n) (b ∷ bytes) whole more = keeps_numbers (kind_of b) whole x gap n (b ∷ bytes) more
stays_decided Pjl [] whole more = λ h. absurd (h refl)
stays_decided Pjl (b ∷ bytes) whole more = keeps_cond (b == 64) _ _ _ _ (keeps_line (b ∷ bytes) more) (keeps_between b bytes more)
