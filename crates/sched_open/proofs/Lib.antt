mod Choosing
mod Admitting
mod Dropping
