-- The objects of a document that stand for themselves.
use Rattle.std.specs.Prelude.{ℕ, List, codes}
use Rattle.page_pdf.specs.declared.fixed_objects.FixedObject.{FixedObject}
use Rattle.page_pdf.specs.declared.fixed_objects.FixedObject.TheVariants as fixed_objects

unfoldable pub fixed_object : FixedObject → List ℕ
fixed_object fixed_objects.Resources =
    codes
    "<</Font<</F1 6 0 R/F2 7 0 R/F3 8 0 R/F4 9 0 R/G1 10 0 R/G2 11 0 R/G3 12 0 R>> /ExtGState<</S0<</ca 1>> /S1<</ca .02>> /S2<</ca .1>> /S3<</ca .15>> /S4<</ca .3>> /S5<</ca .45>> /S6<</ca .7>> /S7<</ca .9>> /S8<</ca 1>>>> /Pattern<</P1 13 0 R /P2 14 0 R /P3 15 0 R /P4 16 0 R /P5 17 0 R /P6 18 0 R>> /XObject<</V 4 0 R>>>>"
fixed_object fixed_objects.Upright =
    codes "<</Type/Font /Subtype/Type1 /BaseFont/Courier /Encoding/WinAnsiEncoding /ToUnicode 19 0 R>>"
fixed_object fixed_objects.Bold =
    codes "<</Type/Font /Subtype/Type1 /BaseFont/Courier-Bold /Encoding/WinAnsiEncoding /ToUnicode 19 0 R>>"
fixed_object fixed_objects.Italic =
    codes "<</Type/Font /Subtype/Type1 /BaseFont/Courier-Oblique /Encoding/WinAnsiEncoding /ToUnicode 19 0 R>>"
fixed_object fixed_objects.BoldItalic =
    codes "<</Type/Font /Subtype/Type1 /BaseFont/Courier-BoldOblique /Encoding/WinAnsiEncoding /ToUnicode 19 0 R>>"
fixed_object fixed_objects.HiddenPc8 =
    codes "<</Type/Font /Subtype/Type1 /BaseFont/Courier /Encoding/WinAnsiEncoding /ToUnicode 20 0 R>>"
fixed_object fixed_objects.HiddenPc850 =
    codes "<</Type/Font /Subtype/Type1 /BaseFont/Courier /Encoding/WinAnsiEncoding /ToUnicode 21 0 R>>"
fixed_object fixed_objects.HiddenRoman8 =
    codes "<</Type/Font /Subtype/Type1 /BaseFont/Courier /Encoding/WinAnsiEncoding /ToUnicode 22 0 R>>"
fixed_object fixed_objects.Horizontal =
    codes
    "<</Type/Pattern /PatternType 1 /PaintType 1 /TilingType 1 /BBox[0 0 384 384] /XStep 384 /YStep 384 /Resources<<>> /Matrix[.01 0 0 -.01 0 0] /Length 24>>\nstream\n48 w 0 192 m 384 192 l S\nendstream"
fixed_object fixed_objects.Vertical =
    codes
    "<</Type/Pattern /PatternType 1 /PaintType 1 /TilingType 1 /BBox[0 0 384 384] /XStep 384 /YStep 384 /Resources<<>> /Matrix[.01 0 0 -.01 0 0] /Length 24>>\nstream\n48 w 192 0 m 192 384 l S\nendstream"
fixed_object fixed_objects.Rising =
    codes
    "<</Type/Pattern /PatternType 1 /PaintType 1 /TilingType 1 /BBox[0 0 384 384] /XStep 384 /YStep 384 /Resources<<>> /Matrix[.01 0 0 -.01 0 0] /Length 64>>\nstream\n48 w -96 96 m 96 -96 l -96 480 m 480 -96 l 288 480 m 480 288 l S\nendstream"
fixed_object fixed_objects.Falling =
    codes
    "<</Type/Pattern /PatternType 1 /PaintType 1 /TilingType 1 /BBox[0 0 384 384] /XStep 384 /YStep 384 /Resources<<>> /Matrix[.01 0 0 -.01 0 0] /Length 64>>\nstream\n48 w -96 288 m 96 480 l -96 -96 m 480 480 l 288 -96 m 480 96 l S\nendstream"
fixed_object fixed_objects.Cross =
    codes
    "<</Type/Pattern /PatternType 1 /PaintType 1 /TilingType 1 /BBox[0 0 384 384] /XStep 384 /YStep 384 /Resources<<>> /Matrix[.01 0 0 -.01 0 0] /Length 42>>\nstream\n48 w 0 192 m 384 192 l 192 0 m 192 384 l S\nendstream"
fixed_object fixed_objects.DiagonalCross =
    codes
    "<</Type/Pattern /PatternType 1 /PaintType 1 /TilingType 1 /BBox[0 0 384 384] /XStep 384 /YStep 384 /Resources<<>> /Matrix[.01 0 0 -.01 0 0] /Length 46>>\nstream\n48 w -96 -96 m 480 480 l -96 480 m 480 -96 l S\nendstream"
