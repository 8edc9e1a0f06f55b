-- The fixed parts of pictures and of documents. They are shut: a proof that does not open them meets none of their
-- letters.
use Rattle.std.specs.Prelude.{ℕ, List}
use Rattle.comparison_picture.specs.declared.fixed_parts.TheConstants.{BODY, FILTERS, HEAD, LEGEND, LIST_START, STYLE}

-- how the marks of OLD and of NEW look
unfoldable pub style_text : List ℕ
style_text = STYLE.now

-- by which the lines of a hatched rectangle get the color of its job
unfoldable pub filters_text : List ℕ
filters_text = FILTERS.now

-- of a document up to the style of marks
unfoldable pub head_text : List ℕ
head_text = HEAD.now

-- between that and the filters
unfoldable pub body_text : List ℕ
body_text = BODY.now

-- what stands for what
unfoldable pub legend_text : List ℕ
legend_text = LEGEND.now

-- before the rows of the list of a page
unfoldable pub list_head : List ℕ
list_head = LIST_START.now
