mod Passing
mod Stops
mod Matching
mod Closing
mod Naming
mod Parts
mod Telling
