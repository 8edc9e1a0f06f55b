use Rattle.std.proofs.Common.{◌≡◌, ◌≤◌, ◌-◌, ◌^◌, None, length, rules, arith}
use Rattle.device_profile.specs.Words.{number_of, decimals_of}
use Rattle.device_profile.proofs.Amounts.{last_place, some_decimals, none_decimals}
use Rattle.device_profile.proofs.scan.decimals.Goals as goal
use Rattle.device_profile.proofs.scan.decimals.Goals.{in-1, in-2, in-3, in-4}

pub returns-in_err-number-clause-value : goal.returns-in_err-number-clause-value
returns-in_err-number-clause-value c =
    let word = c.args.word.now in
    let unit = c.match-word.unit in
    let place : (length word ≤ 4) × (unit ≡ 10 ^ (4 - length word)) = elim c.match-word.branch [
      | in-1 w ↦ last_place word 1 unit (omega arith) (search rules) w.unit-is
      | in-2 w ↦ last_place word 2 unit (omega arith) (search rules) w.unit-is
      | in-3 w ↦ last_place word 3 unit (omega arith) (search rules) w.unit-is
      | in-4 w ↦ last_place word 4 unit (omega arith) (search rules) w.unit-is
    ] in
    let none : number_of word ≡ None = search rules in
    let is : None ≡ decimals_of word = none_decimals word place.0 none in
    search (rules, is)

pub returns-clause-value : goal.returns-clause-value
returns-clause-value c =
    let word = c.args.word.now in
    let unit = c.match-word.unit in
    let place : (length word ≤ 4) × (unit ≡ 10 ^ (4 - length word)) = elim c.match-word.branch [
      | in-1 w ↦ last_place word 1 unit (omega arith) (search rules) w.unit-is
      | in-2 w ↦ last_place word 2 unit (omega arith) (search rules) w.unit-is
      | in-3 w ↦ last_place word 3 unit (omega arith) (search rules) w.unit-is
      | in-4 w ↦ last_place word 4 unit (omega arith) (search rules) w.unit-is
    ] in
    some_decimals word unit c.from.result place.0 place.1 (search rules)
