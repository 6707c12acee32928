mod Nones
mod Parts
