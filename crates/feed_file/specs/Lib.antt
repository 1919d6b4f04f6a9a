pub mod ClockLine
