mod LedSteps
