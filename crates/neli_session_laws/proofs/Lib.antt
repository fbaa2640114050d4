mod Coming
mod Judged
mod Answered
mod Given
mod Busy
mod Silent
