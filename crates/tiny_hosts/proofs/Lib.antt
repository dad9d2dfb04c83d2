mod Lines
mod Going
mod Listening
mod Framing
mod Course
mod Orderly
