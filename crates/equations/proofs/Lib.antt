pub mod RoundsFacts
