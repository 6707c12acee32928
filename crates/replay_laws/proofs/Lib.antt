mod Shallow
mod Tells
mod Calm
mod One
