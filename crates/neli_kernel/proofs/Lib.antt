mod Answers
mod Dumps
mod Datagrams
mod Delivered
mod ExtAcks
mod Acknowledged
mod Finished
mod Marks
