mod Several
mod Wired
