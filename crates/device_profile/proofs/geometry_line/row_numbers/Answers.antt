use Rattle.std.proofs.Common.{◌≡◌, ◌+◌, ◌++◌, ◌∷◌, [], Some, None, true, length, take, slice_set, ap, sym, refl, ◌∙◌, rules, arith}
use Rattle.std.specs.List.{list_all}
use Rattle.std.proofs.lemmas.Bool.{and_from}
use Rattle.std.proofs.lemmas.List.{take_all, take_more_set, length-take-le}
use Rattle.std.proofs.lemmas.List.Folds.{list_all-append}
use Rattle.device_profile.specs.FaceLine.{between}
use Rattle.device_profile.specs.GeometryLine.{is_row_number, row_numbers_of}
use Rattle.device_profile.specs.Words.{number_of, words_of}
use Rattle.device_profile.proofs.RowNumbers.{row_numbers_with, row_numbers-start, row_numbers-short, row_numbers-stop, row_numbers-step}
use Rattle.device_profile.proofs.RowNumbers.{row_numbers-long, row_numbers-all, is_row_number-between}
use Rattle.device_profile.proofs.geometry_line.row_numbers.Goals as goal

pub loop-i-init : goal.loop-i-init
loop-i-init c = (row_numbers-start (words_of c.args.words.now), refl, refl)

pub returns-in_err-word : goal.returns-in_err-word
returns-in_err-word c =
    let i = c.loop-i.i in
    let numbers = c.loop-i.numbers in
    let size : length (take i numbers) ≡ i = length-take-le i numbers (omega (arith, c.loop-i.invariant.2)) in
    let ended : words_of c.loop-i.rest.now ≡ [] = search rules in
    let none : row_numbers_of (words_of c.args.words.now) ≡ None =
    c.loop-i.invariant.0 ∙ row_numbers-short (take i numbers) (words_of c.loop-i.rest.now) (omega arith) ended in
    search (rules, sym none)

pub returns-in_err-numbers : goal.returns-in_err-numbers
returns-in_err-numbers c =
    let word = c.in_ok-word.word.now in
    let cut : words_of c.loop-i.rest.now ≡ word ∷ words_of c.in_ok-word.after.now = search rules in
    let stops : None ≡ between 0 720_000 (number_of word) = search rules in
    let none : row_numbers_of (words_of c.args.words.now) ≡ None =
    c.loop-i.invariant.0
    ∙ row_numbers-stop (take c.loop-i.i c.loop-i.numbers) (words_of c.loop-i.rest.now) word (words_of c.in_ok-word.after.now) cut stops in
    search (rules, sym none)

pub loop-i-preserved : goal.loop-i-preserved
loop-i-preserved c =
    let i = c.loop-i.i in
    let numbers = c.loop-i.numbers in
    let n = c.in_ok-numbers.field-0 in
    let word = c.in_ok-word.word.now in
    let cut : words_of c.loop-i.rest.now ≡ word ∷ words_of c.in_ok-word.after.now = search rules in
    let gives : Some n ≡ between 0 720_000 (number_of word) = search rules in
    let more : take (i + 1) (slice_set numbers i n) ≡ take i numbers ++ n ∷ [] =
    take_more_set numbers i n (omega (arith, c.loop-i.invariant.2)) in
    let kept : length (slice_set numbers i n) ≡ 12 = search rules in (
      c.loop-i.invariant.0
          ∙ (row_numbers-step (take i numbers) (words_of c.loop-i.rest.now) word (words_of c.in_ok-word.after.now) n cut gives
          ∙ ap (λ r. row_numbers_with r (words_of c.in_ok-word.after.now)) (sym more)),
      ap (list_all is_row_number) more
          ∙ (list_all-append is_row_number (take i numbers) (n ∷ [])
          ∙ and_from (list_all is_row_number (take i numbers)) (list_all is_row_number (n ∷ [])) c.loop-i.invariant.1
          (and_from (is_row_number n) true (is_row_number-between n (number_of word) gives) refl)),
      kept,
    )

pub returns-in-Some : goal.returns-in-Some
returns-in-Some c =
    let i = c.loop-i.i in
    let numbers = c.loop-i.numbers in
    let size : length (take i numbers) ≡ i = length-take-le i numbers (omega (arith, c.loop-i.invariant.2)) in
    let all : i ≡ 12 = omega arith in
    let word = c.in-Some.field-0.0.now in
    let after = c.in-Some.field-0.1.now in
    let cut : words_of c.loop-i.rest.now ≡ word ∷ words_of after = search rules in
    sym (c.loop-i.invariant.0 ∙ row_numbers-long (take i numbers) (words_of c.loop-i.rest.now) word (words_of after) (size ∙ all) cut)

pub returns-in-None : goal.returns-in-None
returns-in-None c =
    let i = c.loop-i.i in
    let numbers = c.loop-i.numbers in
    let size : length (take i numbers) ≡ i = length-take-le i numbers (omega (arith, c.loop-i.invariant.2)) in
    let all : i ≡ 12 = omega arith in
    let whole : take i numbers ≡ numbers = take_all i numbers (omega (arith, c.loop-i.invariant.2)) in
    let ended : words_of c.loop-i.rest.now ≡ [] = search rules in
    sym (c.loop-i.invariant.0
    ∙ (row_numbers-all (take i numbers) (words_of c.loop-i.rest.now) (size ∙ all) c.loop-i.invariant.1 ended
    ∙ ap (λ l. Some l) whole))
