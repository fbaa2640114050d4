mod Families
mod Sends
mod Settling
mod LentItems
mod LentTypes
mod Aheads
