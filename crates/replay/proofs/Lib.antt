mod Sights
mod StepTexts
mod Turning
mod Following
mod Racing
mod Standing
mod Apart
