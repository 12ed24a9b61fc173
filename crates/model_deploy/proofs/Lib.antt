pub mod InStages
