mod CopyPlaces
mod CopySteps
mod FeedSteps
mod LineSteps
mod TakeSteps
