pub mod JobRequests
pub mod Outs
pub mod ProfileRequests
