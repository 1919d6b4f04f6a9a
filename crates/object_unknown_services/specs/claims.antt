-- What one must read to believe the headline statements (tools/headlines.py).
pub mod Named
pub mod Unknown
