-- What one must read to believe the headline statements (tools/headlines.py).
pub mod Tables
pub mod Dated
pub mod Faults
pub mod LoadFaults
