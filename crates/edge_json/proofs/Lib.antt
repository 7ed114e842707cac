mod LineSteps
mod Faults
mod LinesRead
