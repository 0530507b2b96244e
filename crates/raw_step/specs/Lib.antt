pub mod RawStep
