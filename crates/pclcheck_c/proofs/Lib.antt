mod AsBox
mod AsSession
mod Sessions
