pub mod Answer
pub mod Device
pub mod DeviceChannel
pub mod Dialled
pub mod Mailbox
pub mod Pager
pub mod Spawned
pub mod Stream
