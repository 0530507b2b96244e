pub mod RawForecast
