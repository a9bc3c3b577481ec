pub mod CommandLine
pub mod HelpWords
pub mod Plain
pub mod Reading
