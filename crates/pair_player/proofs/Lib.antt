pub mod StepLaws
pub mod LineWords
pub mod LackLaws
pub mod TextLaws
pub mod Headed
pub mod PlayLaws
pub mod EndLaws
pub mod CutLaws
pub mod WholeLaws
pub mod RunLaws
pub mod StopLaws
pub mod NextUnit
pub mod Sides
mod Carried
mod PiecesWaiting
mod FitLinks
mod FitStation
mod FitMessages
mod FitRecords
mod FitFormats
mod FitSteps
mod FitPlays
mod LimitRows
mod SendLaws
