mod Standing
mod Once
mod Found
mod Wholes
mod Acting
mod Reach
mod Front
mod Called
