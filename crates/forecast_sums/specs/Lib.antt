pub mod Forecast
pub mod Sums
