pub mod Told
pub mod Text
pub mod Decimal
pub mod Charted
