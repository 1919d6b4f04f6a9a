mod Parts
mod AddressLaws
mod WordLaws
mod ListLaws
mod LaneLaws
mod Options
