mod Answered
mod Acts
mod Laid
mod Opened
mod Gathered
mod Looked
