mod Alone
mod Missed
mod Absent
mod Echoed
mod Naks
mod Rated
mod Proved
