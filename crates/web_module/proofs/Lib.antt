mod Cutting
mod JudgementFacts
mod NearLines
mod NewTexts
