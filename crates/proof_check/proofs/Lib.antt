mod Fronts
mod Needed
mod Stood
mod Verdicts
mod Steps
