-- The command line as `clap` sees it, and the test that goes before it.
pub mod Command
