pub mod FreeMap
pub mod FreeRuns
pub mod Serving
