pub mod Prelude
mod ProgramRuns
mod ImageRuns
mod Deciding
mod TwoDigits
