mod Moments
mod Climbing
mod Mending
mod Tops
mod Next
