-- What one must read to believe the headline statements (tools/headlines.py).
pub mod Limits
pub mod Options
pub mod Local
pub mod Days
pub mod Periods
pub mod Readings
pub mod Rules
pub mod Changes
pub mod Acknowledgements
pub mod Escalations
pub mod Dependencies
pub mod Receivers
pub mod Histories
pub mod Due
pub mod Accepted
pub mod Proper
pub mod Objects
