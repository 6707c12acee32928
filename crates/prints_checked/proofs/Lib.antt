mod Binds
mod Wholes
