use Rattle.std.proofs.Common.{◌≡◌, ◌<◌, ◌+◌, ◌-◌, ◌*◌, Some, None, option_map, length, take, drop, ap, sym, ◌∙◌, rules, arith}
use Rattle.device_profile.specs.Words.{number_of, decimals_of, amount_of}
use Rattle.device_profile.proofs.Amounts.{amount-none, amount-of_number, amount-of_decimals}
use Rattle.device_profile.proofs.scan.amount.Goals as goal

pub returns-in_err-number : goal.returns-in_err-number
returns-in_err-number c =
    let word = c.args.word.now in
    let point = c.place_of-point in
    let none : number_of (take point.result word) ≡ None = search rules in
    let is : None ≡ amount_of word = amount-none word point.result point.ensures.within point.ensures.before point.ensures.found none in
    search (rules, is)

pub returns-then-point-word : goal.returns-then-point-word
returns-then-point-word c =
    amount-of_number c.args.word.now c.place_of-point.result c.from-whole.result c.if-point-word.true
    c.place_of-point.ensures.before (search rules)

pub returns-in_err-decimals : goal.returns-in_err-decimals
returns-in_err-decimals c =
    let word = c.args.word.now in
    let point = c.place_of-point in
    let n = point.result in
    let inside : n < length word = omega (arith, point.ensures.within) in
    let rest = take (length word - (n + 1)) (drop (n + 1) word) in
    let none : decimals_of rest ≡ None = search rules in
    let whole : number_of (take n word) ≡ Some c.from-whole.result = search rules in
    let is : amount_of word ≡ None =
    amount-of_decimals word n c.from-whole.result inside point.ensures.before (point.ensures.found inside) whole
    ∙ ap (option_map (λ d. c.from-whole.result * 10_000 + d)) none in
    search (rules, sym is)

pub returns : goal.returns
returns c =
    let word = c.args.word.now in
    let point = c.place_of-point in
    let n = point.result in
    let inside : n < length word = omega (arith, point.ensures.within) in
    let rest = take (length word - (n + 1)) (drop (n + 1) word) in
    let some : decimals_of rest ≡ Some c.in_ok-decimals.field-0 = search rules in
    let whole : number_of (take n word) ≡ Some c.from-whole.result = search rules in
    sym (amount-of_decimals word n c.from-whole.result inside point.ensures.before (point.ensures.found inside) whole
    ∙ ap (option_map (λ d. c.from-whole.result * 10_000 + d)) some)
