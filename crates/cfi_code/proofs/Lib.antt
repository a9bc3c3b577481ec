mod CodeBytes
mod CodeWritten
