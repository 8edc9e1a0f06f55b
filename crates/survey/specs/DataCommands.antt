-- The commands of HP's manuals behind which data stand, as many bytes as their numbers count.
use Rattle.std.specs.Prelude.{ℕ, ◌==◌, Bool, false, ◌||◌, if◌then◌else◌}

-- *b#W raster row, *c#W pattern, *g#W configure raster, *i#W illuminant, *l#W colour tables, *m#W dither matrix,
-- *o#W driver, *v#W configure image
abbrev pub has_image_data : ℕ → Bool
has_image_data group =
    (group == 98) || (group == 99) || (group == 103) || (group == 105) || (group == 108) || (group == 109)
    || (group == 111) || (group == 118)

-- by the introducer and the letter: &p#X transparent text; &b#W and &n#W; (f#W symbol set and (s#W character;
-- )s#W font header; *b#V plane of a raster; and those above
abbrev pub has_data : (introducer group letter : ℕ) → Bool
has_data introducer group letter =
    if introducer == 38 then
    (if letter == 88 then group == 112 else if letter == 87 then (group == 98) || (group == 110) else false)
    else if introducer == 40 then (if letter == 87 then (group == 102) || (group == 115) else false)
    else if introducer == 41 then (if letter == 87 then group == 115 else false)
    else if introducer == 42 then
    (if letter == 86 then group == 98 else if letter == 87 then has_image_data group else false)
    else false
