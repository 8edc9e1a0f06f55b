pub mod Renderings
mod PageRenderings
pub mod PinSettings
mod PinRenderings
mod TextExamples
mod OpenTexts
mod WrittenTexts
mod Rendered
