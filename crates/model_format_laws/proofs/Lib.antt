mod OrderFacts
mod TextFacts
mod ModelFacts
