pub mod Finding
pub mod Results
