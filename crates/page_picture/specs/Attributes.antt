-- Attributes of elements that are numbers of units.
use Rattle.std.specs.Prelude.{ℕ, ℤ, ◌-ℤ◌, List, [], ◌∷◌, ◌++◌, codes}
use Rattle.page_env.specs.declared.mark.Bounds.{Bounds}
use Rattle.page_picture.specs.declared.attributes.Attribute.{Attribute}
use Rattle.page_picture.specs.declared.attributes.Attribute.TheVariants as attributes
use Rattle.page_picture.specs.Figures.{hundredths, units}

-- the name of an attribute, up to its number
unfoldable pub attribute_name : Attribute → List ℕ
attribute_name attributes.X = codes " x=\""
attribute_name attributes.Y = codes " y=\""
attribute_name attributes.Width = codes " width=\""
attribute_name attributes.Height = codes " height=\""
attribute_name attributes.X1 = codes " x1=\""
attribute_name attributes.Y1 = codes " y1=\""
attribute_name attributes.X2 = codes " x2=\""
attribute_name attributes.Y2 = codes " y2=\""
attribute_name attributes.StrokeWidth = codes " stroke-width=\""
attribute_name attributes.FontSize = codes " font-size=\""
attribute_name attributes.TextLength = codes " textLength=\""

-- an attribute of so many hundredths of a unit
unfoldable pub attribute : Attribute → ℤ → List ℕ
attribute name n = attribute_name name ++ units n ++ 34 ∷ []

-- an attribute that is a length, or a place on the page
unfoldable pub length_attribute : Attribute → ℤ → List ℕ
length_attribute name length = attribute name (hundredths length)

-- how far one place lies behind another, both rounded
abbrev pub span : ℤ → ℤ → ℤ
span first last = hundredths last -ℤ hundredths first

-- a box by its upper left corner, and by how far its other edges lie from there
unfoldable pub box_attributes : Bounds → List ℕ
box_attributes box =
    length_attribute attributes.X box.left ++ length_attribute attributes.Y box.top
    ++ attribute attributes.Width (span box.left box.right) ++ attribute attributes.Height (span box.top box.bottom)
