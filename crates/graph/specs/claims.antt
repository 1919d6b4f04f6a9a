-- What one must read to believe the headline statements (tools/headlines.py).
pub mod Chains
pub mod Edges
