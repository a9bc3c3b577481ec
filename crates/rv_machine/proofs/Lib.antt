mod Decoding
mod Exits
mod Going
mod Harts
mod NoFetch
