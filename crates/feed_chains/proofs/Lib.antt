mod LedFacts
