mod Commands
mod Numbers
mod Ways
