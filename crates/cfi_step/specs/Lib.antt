pub mod Taken
pub mod Report
pub mod Trail
pub mod Running
pub mod Starts
pub mod Stretch
pub mod Hostile
