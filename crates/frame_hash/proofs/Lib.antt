pub mod ToldLaws
pub mod QuietLaws
pub mod TakeLaws
pub mod WorkerLaws
