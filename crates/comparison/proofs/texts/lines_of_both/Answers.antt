use Rattle.std.proofs.Common.{◌≡◌, ◌≤◌, ap, arith, sym, subst, take, ◌∙◌}
use Rattle.std.proofs.lemmas.List.{length-take-le, take-take}
use Rattle.page_env.specs.TextLines.{glyph_count, place_behind}
use Rattle.page_env.specs.TextMeasure.{AllHaveRoom}
use Rattle.sinks.proofs.TextLines.{fewer_have_room}
use Rattle.comparison.proofs.SameLines.{front_is_same}
use Rattle.comparison.proofs.texts.lines_of_both.Goals as goal

pub alike-requires : goal.alike-requires
alike-requires g c =
    let bytes = c.args.bytes.now in
    let most = c.lines_ahead-most.result.count in
    let same = c.same_count-same.result in
    let few : same ≤ most = omega (arith, c.same_count-same.ensures.one, length-take-le most bytes c.lines_ahead-most.ensures.short) in
    subst (AllHaveRoom c.args.one.now c.args.from.now) (take-take same most bytes few)
    (fewer_have_room c.args.one.now same (take most bytes) c.args.from.now c.lines_ahead-most.ensures.room)

pub lines_up_to-lines-requires-clause-few : goal.lines_up_to-lines-requires-clause-few
lines_up_to-lines-requires-clause-few g c =
    let bytes = c.args.bytes.now in
    let most = c.lines_ahead-most.result.count in
    let same = c.same_count-same.result in
    let few : same ≤ most = omega (arith, c.same_count-same.ensures.one, length-take-le most bytes c.lines_ahead-most.ensures.short) in
    omega (arith, few, c.in_ok-count.ensures.short, length-take-le same bytes (omega (arith, few, c.lines_ahead-most.ensures.short)))

pub returns : goal.returns
returns g c =
    let bytes = c.args.bytes.now in
    let others = c.args.others.now in
    let other = c.args.other.now in
    let from = c.args.from.now in
    let most = c.lines_ahead-most.result.count in
    let same = c.same_count-same.result in
    let count = c.in_ok-count.count in
    let lines = c.lines_up_to-lines.result in
    let n = lines.count in
    let few : same ≤ most = omega (arith, c.same_count-same.ensures.one, length-take-le most bytes c.lines_ahead-most.ensures.short) in
    let size = length-take-le same bytes (omega (arith, few, c.lines_ahead-most.ensures.short)) in
    let fewer : count ≤ same = omega (arith, c.in_ok-count.ensures.short, size) in
    let short : n ≤ same = omega (arith, fewer, c.lines_up_to-lines.ensures.few) in
    let front : take same bytes ≡ take same others = sym (take-take same most bytes few) ∙ c.same_count-same.ensures.same in
    let is : take n bytes ≡ take n others = front_is_same n same bytes others short front in
    let own : take n (take count (take same bytes)) ≡ take n bytes =
    ap (take n) (take-take count same bytes fewer) ∙ take-take n count bytes c.lines_up_to-lines.ensures.few in
    let first = c.lines_up_to-lines.ensures.lines in record {
      some = omega (arith, c.if-lines-eq0.false);
      look = c.in_ok-count.ensures.look;
      same = is;
      first = first;
      second = record {
        short = omega (arith, short, c.same_count-same.ensures.other);
        room =
            subst (AllHaveRoom other from) (own ∙ is)
            (fewer_have_room other n (take count (take same bytes)) from c.in_ok-count.ensures.room);
        end = first.end ∙ (λ i. place_behind (sym c.in_ok-count.ensures.look i) (is i) from);
        glyphs = first.glyphs ∙ ap glyph_count is;
      };
    }
