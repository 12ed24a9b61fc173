mod Crosses
mod Converses
mod Pieces
mod EndFacts
mod Explained
mod SampleRuns
