-- What the tables between a switch's two pipelines do, and those behind them.
pub mod Physical
pub mod ToEnd
pub mod Onward
pub mod Sending
pub mod Visiting
pub mod Arriving
pub mod Whole
